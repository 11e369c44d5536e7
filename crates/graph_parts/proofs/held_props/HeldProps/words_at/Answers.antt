use Rattle.std.proofs.Common.{Some, None, ap, ◌∙◌, arith}
use Rattle.graph_model.specs.Lookups.{values_at}
use Rattle.graph_model.specs.Sizes.{words_of_values, words_of_props}
use Rattle.graph_parts.proofs.Props.{words-found, words-within}
use Rattle.graph_parts.proofs.held_props.HeldProps.words_at.Goals as goal

pub words_of_values-requires : goal.words_of_values-requires
words_of_values-requires c =
    let props = c.self.inside.values in
    omega (arith, words-found props c.args.ty (Some c.in-Some.values.now) c.in-Some.ensures, words-within props c.args.ty, c.self.invariant)

pub returns-in-Some-clause-value : goal.returns-in-Some-clause-value
returns-in-Some-clause-value c =
    c.words_of_values.ensures ∙ words-found c.self.inside.values c.args.ty (Some c.in-Some.values.now) c.in-Some.ensures ∙ ap (λ es. words_of_values (values_at es c.args.ty)) c.self.view_is

pub returns-in-Some-clause-within : goal.returns-in-Some-clause-within
returns-in-Some-clause-within c =
    let props = c.self.inside.values in
    omega (arith, c.words_of_values.ensures, words-found props c.args.ty (Some c.in-Some.values.now) c.in-Some.ensures, words-within props c.args.ty, ap words_of_props c.self.view_is)

pub returns-in-None-clause-value : goal.returns-in-None-clause-value
returns-in-None-clause-value c = words-found c.self.inside.values c.args.ty None c.in-None.ensures ∙ ap (λ es. words_of_values (values_at es c.args.ty)) c.self.view_is
