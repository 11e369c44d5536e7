use Rattle.std.proofs.Common.{Bool, not, ◌&&◌, ◌++◌, sym, ap, ◌∙◌}
use Rattle.std.specs.List.{filter}
use Rattle.graph_model.specs.Graph.{Edge, EdgeKey, edges_from, edges_to, undirected}
use Rattle.graph_model.specs.Lookups.{out_lines, in_lines, lines_at}
use Rattle.graph_model.specs.ListCalls.{passes_test}
use Rattle.map_graph.proofs.EdgeLines.{filter-both}
use Rattle.map_graph.proofs.map_graph.MapGraph.lines_at.Goals as goal

pub returns-in_ok-out_lines-in-Outward : goal.returns-in_ok-out_lines-in-Outward
returns-in_ok-out_lines-in-Outward c =
    let passing : EdgeKey × Edge → Bool = λ entry. passes_test c.args.self.now.graph c.args.test.now entry.1.labels entry.1.props in
    c.in_ok-out_lines-in-Outward.ensures
    ∙ ap (λ es. out_lines es) (filter-both (λ entry. not entry.1.undirected) passing (edges_from c.args.self.now.graph c.args.id))
    ∙ ap (λ d. lines_at c.args.self.now.graph passing c.args.id d) (sym c.in-Outward.is)

pub returns-in_ok-in_lines-in-Inward : goal.returns-in_ok-in_lines-in-Inward
returns-in_ok-in_lines-in-Inward c =
    let passing : EdgeKey × Edge → Bool = λ entry. passes_test c.args.self.now.graph c.args.test.now entry.1.labels entry.1.props in
    c.in_ok-in_lines-in-Inward.ensures
    ∙ ap (λ es. in_lines es) (filter-both (λ entry. not entry.1.undirected) passing (edges_to c.args.self.now.graph c.args.id))
    ∙ ap (λ d. lines_at c.args.self.now.graph passing c.args.id d) (sym c.in-Inward.is)

pub returns-in_ok-lines_of_both-in-Undirected : goal.returns-in_ok-lines_of_both-in-Undirected
returns-in_ok-lines_of_both-in-Undirected c =
    let passing : EdgeKey × Edge → Bool = λ entry. passes_test c.args.self.now.graph c.args.test.now entry.1.labels entry.1.props in
    c.in_ok-lines_of_both-in-Undirected.ensures
    ∙ ap (λ es. out_lines es ++ in_lines (filter (λ entry. entry.1.undirected && passing entry) (edges_to c.args.self.now.graph c.args.id))) (filter-both (λ entry. entry.1.undirected) passing (edges_from c.args.self.now.graph c.args.id))
    ∙ ap (λ es. out_lines (filter passing (undirected (edges_from c.args.self.now.graph c.args.id))) ++ in_lines es) (filter-both (λ entry. entry.1.undirected) passing (edges_to c.args.self.now.graph c.args.id))
    ∙ ap (λ d. lines_at c.args.self.now.graph passing c.args.id d) (sym c.in-Undirected.is)
