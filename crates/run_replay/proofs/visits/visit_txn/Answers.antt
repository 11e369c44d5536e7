use Rattle.std.proofs.Common.{length, arith}
use Rattle.std.proofs.lemmas.List.{drop_all}
use Rattle.run_replay.proofs.Visiting.{no_more}
use Rattle.run_replay.proofs.visits.visit_txn.Goals as goal

pub returns-in_default : goal.returns-in_default
returns-in_default c = λ all more placed same. no_more all more _ _ placed
    (drop_all (length c.args.visits.now.items) c.args.lines.now (grind (arith, c.in_default.ensures.lookup, c.len-index.ensures)))
