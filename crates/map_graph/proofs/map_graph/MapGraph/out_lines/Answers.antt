use Rattle.std.proofs.Common.{Bool, [], sym, ap, ◌∙◌}
use Rattle.std.specs.Prelude.{◌==◌}
use Rattle.std.specs.List.{filter}
use Rattle.std.specs.Option.{unwrap_or}
use Rattle.graph_model.specs.Graph.{Edge, EdgeKey}
use Rattle.graph_model.specs.Lookups.{out_lines}
use Rattle.graph_model.specs.Maps.{keys}
use Rattle.map_graph.specs.Plain.{Plain}
use Rattle.map_graph.specs.Lines.{entries_at, is_listed}
use Rattle.map_graph.proofs.EdgeLines.{entries_passing}
use Rattle.map_graph.proofs.map_graph.MapGraph.out_lines.Goals as goal

pub returns-in_default : goal.returns-in_default
returns-in_default c =
    let listed : EdgeKey × Edge → Bool = is_listed c.args.self.now.graph c.args.wanted c.args.test.now in
    let edges = ap (λ (p : Plain). p.graph.edges) c.self.view_is in
    let none = ap (λ o. unwrap_or o []) c.in_default.ensures ∙ c.self.invariant.outgoing c.if-self.false c.args.id in
    c.new.ensures
    ∙ ap (λ ks. out_lines (filter listed (entries_at c.args.self.now.graph.edges ks))) none
    ∙ ap (λ es. out_lines (filter listed (entries_at es (keys (filter (λ entry. entry.0.source == c.args.id) c.self.inside.edges.entries))))) (sym edges)
    ∙ ap (λ es. out_lines (filter listed es)) (entries_passing (λ entry. entry.0.source == c.args.id) c.self.inside.edges.entries c.len-count.ensures.ordered)
    ∙ ap (λ es. out_lines (filter listed (filter (λ entry. entry.0.source == c.args.id) es))) edges

pub returns : goal.returns
returns c =
    let listed : EdgeKey × Edge → Bool = is_listed c.args.self.now.graph c.args.wanted c.args.test.now in
    let edges = ap (λ (p : Plain). p.graph.edges) c.self.view_is in
    let found = ap (λ o. unwrap_or o []) c.in-Some.ensures ∙ c.self.invariant.outgoing c.if-self.false c.args.id in
    c.in_ok-lines.ensures
    ∙ ap (λ ks. out_lines (filter listed (entries_at c.args.self.now.graph.edges ks))) found
    ∙ ap (λ es. out_lines (filter listed (entries_at es (keys (filter (λ entry. entry.0.source == c.args.id) c.self.inside.edges.entries))))) (sym edges)
    ∙ ap (λ es. out_lines (filter listed es)) (entries_passing (λ entry. entry.0.source == c.args.id) c.self.inside.edges.entries c.len-count.ensures.ordered)
    ∙ ap (λ es. out_lines (filter listed (filter (λ entry. entry.0.source == c.args.id) es))) edges
