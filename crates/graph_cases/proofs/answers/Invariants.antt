use Rattle.graph_model.specs.WellFormed.{IsWellFormed}
use Rattle.graph_cases.proofs.answers.Given as goal

abbrev pub invariant-loop-section : goal.invariant-loop-section
invariant-loop-section l = IsWellFormed l.graph.graph
