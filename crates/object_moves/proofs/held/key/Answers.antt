use Rattle.std.proofs.Common.{arith}
use Rattle.object_words.specs.Chains.{place_of}
use Rattle.object_moves.proofs.held.key.Goals as goal

pub returns : goal.returns
returns c = c.raw.ensures.one_to_one (place_of c.raw.result) (omega arith, omega arith) (omega arith)
