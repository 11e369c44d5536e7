use Rattle.label_index.proofs.Slots.{index_fixes_entries}
use Rattle.label_index.proofs.Tagged.{represents_indexed}
use Rattle.label_index.proofs.laws.index_is_that_of_the_graph.Goals as goal

pub returns : goal.returns
returns c = record { of_graph = represents_indexed; fixed = index_fixes_entries }
