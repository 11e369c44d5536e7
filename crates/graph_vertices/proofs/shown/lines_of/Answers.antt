use Rattle.std.proofs.Common.{refl}
use Rattle.graph_vertices.proofs.Lines.{lined_more}
use Rattle.graph_vertices.proofs.shown.lines_of.Goals as goal

pub loop-place-preserved : goal.loop-place-preserved
loop-place-preserved c =
    lined_more c.args.types.now c.args.props.now c.loop-place.place c.at-prop.result.now c.at.result.now (record { name = c.at.result.now.name; value = c.in_ok-value.value }) _ _
    c.loop-place.invariant c.at-prop.ensures c.at.ensures refl c.in_ok-value.ensures c.in_ok-push.ensures.ok
