use Rattle.std.proofs.Common.{length, ap, arith}
use Rattle.graph_model.specs.Graph.{Edge}
use Rattle.graph_parts.proofs.OrderedMaps.{length-add-new}
use Rattle.graph_parts.proofs.held_edge.HeldEdge.label_count_with.Goals as goal

pub returns-clause-value : goal.returns-clause-value
returns-clause-value c = omega (arith, length-add-new c.args.label c.args.self.now.labels c.requires, c.len.ensures.len, ap (λ (e : Edge). length e.labels) c.self.view_is)
