use Rattle.std.proofs.Common.{ap, arith}
use Rattle.graph_model.specs.Lookups.{values_at}
use Rattle.graph_model.specs.Sizes.{words_of_props, words_of_values}
use Rattle.graph_parts.proofs.Props.{words-left}
use Rattle.graph_parts.proofs.held_props.HeldProps.remove.Goals as goal

pub invariant_of-self : goal.invariant_of-self
invariant_of-self c =
    let props = c.self.inside.values in
    let left = words-left props c.args.ty c.forget.ensures.ordered in
    let weighed = ap (λ es. words_of_values (values_at es c.args.ty)) c.self.view_is in
    (omega (arith, left, weighed, c.words_at.ensures.value, ap words_of_props c.forget.ensures.left, c.self.invariant.0), omega (arith, c.self.invariant.1))
