use Rattle.meta_tables.proofs.Naming.{names_at_first}
use Rattle.store_tests.proofs.names.find.Goals as goal

pub label_of-requires-clause-names : goal.label_of-requires-clause-names
label_of-requires-clause-names g c = names_at_first c.in_ok-begin.ensures.done.wrote_nothing
