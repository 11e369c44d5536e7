use Rattle.meta_tables.proofs.Naming.{represents_names}
use Rattle.meta_tables.proofs.laws.names_are_those_of_the_graph.Goals as goal

pub returns : goal.returns
returns c = represents_names
