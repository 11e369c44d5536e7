use Rattle.std.proofs.Common.{[], ◌∷◌, ◌++◌, ap, arith}
use Rattle.graph_model.specs.Maps.{with_at}
use Rattle.graph_model.specs.Lookups.{values_at}
use Rattle.graph_model.specs.Sizes.{words_of_props}
use Rattle.graph_parts.proofs.Props.{words-added}
use Rattle.graph_parts.proofs.Rows.{rises}
use Rattle.graph_parts.proofs.held_props.HeldProps.words_adding.Goals as goal

pub returns-clause-value : goal.returns-clause-value
returns-clause-value c =
    let value = c.args.value.now in
    omega (
      arith,
      words-added c.self.inside.values c.args.ty value (rises c.self.inside.values c.len-count.ensures.ordered),
      c.words_of_value.ensures.value,
      ap (λ es. words_of_props (with_at es c.args.ty (values_at es c.args.ty ++ value ∷ []))) c.self.view_is,
    )
