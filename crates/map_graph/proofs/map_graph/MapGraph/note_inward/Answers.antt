use Rattle.std.proofs.Common.{◌≡◌, ◌++◌, List, [], sym, ap, subst, ◌∙◌}
use Rattle.std.specs.Prelude.{◌==◌}
use Rattle.std.specs.List.Sorted.{IsStrictlySortedBy}
use Rattle.std.specs.Map.{keys_of}
use Rattle.std.specs.Option.{unwrap_or}
use Rattle.std.proofs.Common.{Option}
use Rattle.std.proofs.lemmas.List.{append-nil}
use Rattle.graph_model.specs.Graph.{EdgeKey, edge_cmp, edges_to}
use Rattle.graph_undo.specs.Undo.{as_edges}
use Rattle.map_graph.specs.Plain.{Plain}
use Rattle.map_graph.specs.Lines.{entries_at}
use Rattle.map_graph.proofs.EdgeLines.{entries_passing}
use Rattle.map_graph.proofs.map_graph.MapGraph.note_inward.Goals as goal

pub returns-in_default : goal.returns-in_default
returns-in_default c =
    let none : [] ≡ keys_of (edges_to c.args.self.now.graph c.args.id) =
    ap (λ (o : Option (List EdgeKey)). unwrap_or o []) c.in_default.ensures ∙ c.self.invariant.incoming c.if-self.false c.args.id ∙ ap (λ (p : Plain). keys_of (edges_to p.graph c.args.id)) c.self.view_is in
    let rises = subst (λ (p : Plain). IsStrictlySortedBy edge_cmp (keys_of p.graph.edges)) c.self.view_is c.len-count.ensures.ordered in
    sym (append-nil c.args.journal.now)
    ∙ ap (λ es. c.args.journal.now ++ as_edges es) (ap (entries_at c.args.self.now.graph.edges) none ∙ entries_passing (λ entry. entry.1.target == c.args.id) c.args.self.now.graph.edges rises)

pub returns : goal.returns
returns c =
    let keys : c.in-Some.keys.now ≡ keys_of (edges_to c.args.self.now.graph c.args.id) =
    ap (λ (o : Option (List EdgeKey)). unwrap_or o []) c.in-Some.ensures ∙ c.self.invariant.incoming c.if-self.false c.args.id ∙ ap (λ (p : Plain). keys_of (edges_to p.graph c.args.id)) c.self.view_is in
    let rises = subst (λ (p : Plain). IsStrictlySortedBy edge_cmp (keys_of p.graph.edges)) c.self.view_is c.len-count.ensures.ordered in
    c.in_ok-note_edges.ensures
    ∙ ap (λ es. c.args.journal.now ++ as_edges es) (ap (entries_at c.args.self.now.graph.edges) keys ∙ entries_passing (λ entry. entry.1.target == c.args.id) c.args.self.now.graph.edges rises)
