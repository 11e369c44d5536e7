use Rattle.std.proofs.Common.{sym, subst}
use Rattle.std.specs.List.Sorted.{IsStrictlySortedBy}
use Rattle.std.specs.Map.{keys_of}
use Rattle.std.specs.Ordering.{nat_cmp}
use Rattle.graph_model.specs.Graph.{edge_cmp}
use Rattle.graph_undo.specs.Undo.{HasEnds, IsInOrder, LeadBack, noted_before}
use Rattle.graph_undo.proofs.CallsUndone.{steps_lead_back}
use Rattle.graph_undo.proofs.RolledBack.{lead_further}
use Rattle.map_graph.specs.Plain.{Plain, graph_of}
use Rattle.map_graph.proofs.PutBack.{edges-of}
use Rattle.map_graph.proofs.map_graph.MapGraph.apply_noted.Goals as goal

pub returns-clause-leads : goal.returns-clause-leads
returns-clause-leads c = λ before lead.
    let g = c.args.self.now.graph in
    let order : IsInOrder g = record {
      vertices = subst (λ (p : Plain). IsStrictlySortedBy nat_cmp (keys_of p.graph.vertices)) c.self.view_is c.len-vertices.ensures.ordered;
      edges = subst (λ (p : Plain). IsStrictlySortedBy edge_cmp (keys_of p.graph.edges)) c.self.view_is c.len-edges.ensures.ordered;
    } in
    let ends : HasEnds g = subst (λ (p : Plain). HasEnds p.graph) c.self.view_is
    (edges-of (graph_of c.self.inside.labels c.self.inside.types c.self.inside.vertices.entries c.self.inside.edges.entries) (c.self.invariant.ends c.if-self.false)) in
    let steps = noted_before g c.args.call.now in
    let back = steps_lead_back c.args.self.now.shape g c.args.call.now order ends in
    subst (λ js. LeadBack js c.apply.new.self.graph before) (sym c.in_ok-note.ensures)
    (lead_further c.args.journal.now steps c.apply.new.self.graph g before (subst (λ h. LeadBack steps h g) (sym c.in_ok-reply.ensures.graph) back) lead)
