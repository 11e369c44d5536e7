use Rattle.std.proofs.Common.{◌≡◌, [], ◌∷◌, sym, ap, ◌∙◌, arith}
use Rattle.graph_model.specs.Maps.{with_at}
use Rattle.graph_model.specs.Sizes.{words_of_props}
use Rattle.graph_parts.proofs.held_props.HeldProps.set.Goals as goal

pub invariant_of-self-2 : goal.invariant_of-self-2
invariant_of-self-2 c =
    let put : c.put.new.self ≡ with_at c.args.self.now c.args.ty (c.args.value ∷ []) =
    c.in_ok-put.ensures.ok ∙ ap (λ values. with_at c.self.inside.values c.args.ty values) c.in_ok-one_value.ensures ∙ ap (λ es. with_at es c.args.ty (c.args.value ∷ [])) c.self.view_is in
    (c.words_with-words.ensures.value ∙ ap words_of_props (sym put), omega (arith, c.words_with-words.ensures.value, c.requires))
