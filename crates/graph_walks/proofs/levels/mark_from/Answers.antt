use Rattle.std.proofs.Common.{arith}
use Rattle.graph_walks.proofs.levels.mark_from.Goals as goal

pub mark_each-requires-clause-within : goal.mark_each-requires-clause-within
mark_each-requires-clause-within c = λ j there. let inside = c.row.ensures.within j there in omega (arith, inside, c.requires.len)
