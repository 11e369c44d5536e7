use Rattle.std.proofs.Common.{◌∙◌, ◌==◌}
use Rattle.graph_vertices.proofs.Values.{apart_is, equal_is, kept_more, left_out}
use Rattle.graph_vertices.proofs.got.values_with.Goals as goal
use Rattle.graph_vertices.proofs.got.values_with.Goals.{then-prop-number+in_ok-copy+in_ok-push, else-prop-number}

pub loop-place-preserved : goal.loop-place-preserved
loop-place-preserved c = elim c.if-prop-number.branch [
  | then-prop-number+in_ok-copy+in_ok-push w ↦
      kept_more (λ prop. prop.number == c.args.number) (λ prop. prop.value) c.args.props.now c.loop-place.place c.at-prop.result.now c.at-prop.ensures _
      c.loop-place.invariant (equal_is c.at-prop.result.now.number c.args.number w.if-prop-number.true) w.in_ok-copy.ensures (w.values-is ∙ w.in_ok-push.ensures.ok)
  | else-prop-number w ↦
      w.values-is ∙ left_out (λ prop. prop.number == c.args.number) (λ prop. prop.value) c.args.props.now c.loop-place.place c.at-prop.result.now c.at-prop.ensures
      c.loop-place.invariant (apart_is c.at-prop.result.now.number c.args.number w.if-prop-number.false)
]
