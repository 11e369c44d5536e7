use Rattle.std.proofs.Common.{◌≡◌, suc, ◌-◌, ◌<◌, length, map, drop, ap, ◌∙◌, arith}
use Rattle.graph_model.specs.Maps.{set_of, add}
use Rattle.graph_model.specs.ListCalls.{other_end}
use Rattle.graph_parts.proofs.OrderedMaps.{added}
use Rattle.map_graph.proofs.EdgeLines.{end_more}
use Rattle.map_graph.proofs.map_graph.lists.other_ends.Goals as goal

pub loop-left-preserved : goal.loop-left-preserved
loop-left-preserved c =
    let n = c.loop-left.left - 1 in
    let whole : c.loop-left.left ≡ suc n = omega (arith, c.loop-left-test.true) in
    let below : n < length c.args.lines.now = omega (arith, c.loop-left-test.true, c.loop-left.invariant.within) in
    record {
      within = omega (arith, c.loop-left.invariant.within);
      ends =
          added c.other_end.result c.loop-left.ends.keys c.insert.new.self.keys c.in_ok-insert.ensures.keys ∙ ap (λ e. add e c.loop-left.ends.keys) c.other_end.ensures
          ∙ ap (add (other_end c.args.id c.at.result.now)) (c.loop-left.invariant.ends ∙ ap (λ m. set_of (map (other_end c.args.id) (drop m c.args.lines.now))) whole)
          ∙ end_more c.args.id c.args.lines.now n c.at.result.now below c.at.ensures;
    }
