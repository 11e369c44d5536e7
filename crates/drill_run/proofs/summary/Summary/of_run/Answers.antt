use Rattle.std.proofs.Common.{◌∙◌}
use Rattle.drill_run.proofs.Looking.{summed}
use Rattle.drill_run.proofs.summary.Summary.of_run.Goals as goal

pub returns : goal.returns
returns c =
    summed c.args.run.graph.shape c.args.run.graph.graph c.args.from c.args.run.printed c.as_slice.result.now (c.as_slice.ensures ∙ c.in_ok-replies.ensures)
    c.vertices-item.result c.edges-item.result c.parts-item.result c.levels-item.result c.vertices-item.is c.edges-item.is c.parts-item.is c.levels-item.is
    _ _ _ _ _ c.count_told.ensures c.count_told-in-len4.ensures c.parts_told.ensures c.deepest_told.ensures c.full_count-full.ensures
