use Rattle.std.proofs.Common.{◌+◌, drop, sym, ap, ◌∙◌}
use Rattle.graph_model.specs.ListCalls.{names_known}
use Rattle.map_graph.proofs.Names.{split_at, known_one, unknown_one}
use Rattle.map_graph.proofs.map_graph.MapGraph.all_known.Goals as goal

pub loop-atom-preserved : goal.loop-atom-preserved
loop-atom-preserved c =
    let split = split_at c.as_slice-atom-items.result.now c.loop-atom.atom-index c.atom-item.result c.loop-atom-test.true c.atom-item.is in
    sym (known_one c.args.self.now.graph c.atom-item.result (drop (c.loop-atom.atom-index + 1) c.as_slice-atom-items.result.now) c.in_default.ensures)
    ∙ ap (names_known c.args.self.now.graph) (sym split) ∙ c.loop-atom.invariant

pub returns-in-Err : goal.returns-in-Err
returns-in-Err c =
    let split = split_at c.as_slice-atom-items.result.now c.loop-atom.atom-index c.atom-item.result c.loop-atom-test.true c.atom-item.is in
    unknown_one c.args.self.now.graph c.atom-item.result c.in-Err.refusal (drop (c.loop-atom.atom-index + 1) c.as_slice-atom-items.result.now) c.in-Err.ensures
    ∙ ap (names_known c.args.self.now.graph) (sym split) ∙ c.loop-atom.invariant
