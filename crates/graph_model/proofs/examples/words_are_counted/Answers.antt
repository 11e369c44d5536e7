use Rattle.std.proofs.Common.{arith}
use Rattle.graph_model.proofs.Largest.{star_grows, star_full}
use Rattle.graph_model.proofs.examples.words_are_counted.Goals as goal

pub returns-clause-largest : goal.returns-clause-largest
returns-clause-largest c =
    let grows = star_grows 209713 (omega arith) in
    (grows.0, grows.1, star_full 209714 (omega arith))
