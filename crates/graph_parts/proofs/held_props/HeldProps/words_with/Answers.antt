use Rattle.std.proofs.Common.{[], ◌∷◌, ap, arith}
use Rattle.graph_model.specs.Maps.{with_at}
use Rattle.graph_model.specs.Lookups.{values_at}
use Rattle.graph_model.specs.Sizes.{words_of_values, words_of_props}
use Rattle.graph_parts.proofs.Props.{words-with, words-within, words-one}
use Rattle.graph_parts.proofs.Rows.{rises}
use Rattle.graph_parts.proofs.held_props.HeldProps.words_with.Goals as goal

pub returns-clause-value : goal.returns-clause-value
returns-clause-value c =
    let props = c.self.inside.values in
    let value = c.args.value.now in
    omega (
      arith,
      words-with props c.args.ty (value ∷ []) (rises props c.len-count.ensures.ordered),
      words-one value,
      words-within props c.args.ty,
      c.words_at.ensures.value,
      ap (λ es. words_of_props (with_at es c.args.ty (value ∷ []))) c.self.view_is,
      ap (λ es. words_of_values (values_at es c.args.ty)) c.self.view_is,
    )
