use Rattle.graph_model.specs.WellFormed.{IsWellFormed}
use Rattle.graph_cases.proofs.run_section.Given as goal

abbrev pub invariant-loop-txn : goal.invariant-loop-txn
invariant-loop-txn l = IsWellFormed l.graph.graph
