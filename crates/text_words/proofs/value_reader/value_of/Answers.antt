use Rattle.std.proofs.Common.{rules, ◌≡◌, List, ℕ, [], ◌∷◌, ◌++◌, ap, ◌∙◌, refl}
use Rattle.std.specs.List.{flat_map}
use Rattle.gdi_kinds.specs.Texts.{IsText}
use Rattle.gdi_kinds.specs.declared.value.Value.TheVariants as value
use Rattle.text_words.specs.Spelling.{quoted_byte}
use Rattle.text_words.proofs.ValueLemmas.{value_read, no_quoted_value}
use Rattle.text_words.proofs.value_reader.value_of.Goals as goal

pub returns-in-Some-2 : goal.returns-in-Some-2
returns-in-Some-2 c =
    let told : (c.in-Some-after_byte.quoted.now ≡ flat_map quoted_byte c.in-Some-2.text ++ 34 ∷ []) × IsText c.in-Some-2.text = search rules in
    value_read c.args.word.now (value.Text c.in-Some-2.text) (c.in-Some-after_byte.ensures ∙ ap (λ (q : List ℕ). 34 ∷ q) told.0) told.1

pub returns-in-None : goal.returns-in-None
returns-in-None c =
    let none : (text : List ℕ) → IsText text → (c.in-Some-after_byte.quoted.now ≡ flat_map quoted_byte text ++ 34 ∷ []) → ⊥ = search rules in
    record { misspelled = no_quoted_value c.args.word.now c.in-Some-after_byte.quoted.now c.in-Some-after_byte.ensures none; is = refl }

pub returns-in-Some-int_of : goal.returns-in-Some-int_of
returns-in-Some-int_of c = value_read c.args.word.now _ (search rules) (search rules)
