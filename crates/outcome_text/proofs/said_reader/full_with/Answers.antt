use Rattle.std.proofs.Common.{arith}
use Rattle.outcome_text.proofs.ItemLemmas.{no_rank}
use Rattle.outcome_text.proofs.said_reader.full_with.Goals as goal

pub returns-in-Err : goal.returns-in-Err
returns-in-Err c = no_rank _ c.in_ok-rank.rank c.in_ok-rank.place c.in_ok-rank.ensures.0 c.in_ok-rank.ensures.1 (omega arith)
