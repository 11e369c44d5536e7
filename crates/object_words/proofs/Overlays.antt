-- What contents are once others are put over them.
use Rattle.std.proofs.Common.{◌≡◌, ℕ, Bool, true, false, cond, List, [], ◌∷◌, refl, sym, ap, ◌∙◌, Option, Some, None}
use Rattle.std.specs.Option.{unwrap_or}
use Rattle.std.specs.Ordering.{eq_by_cmp}
use Rattle.rma_layout.specs.Placement.{Place}
use Rattle.object_words.specs.Contents.{Contents, place_cmp, words_at, content_of, with_words, overlay, IsByRisingObject, IsSameContents}
use Rattle.object_words.proofs.Places.{words_at-with_words, places_equal, once, in_order_behind}

pub content-with_words : (contents : Contents) (object : Place) (words : List ℕ) (other : Place)
    → content_of (with_words contents object words) other ≡ cond (eq_by_cmp place_cmp other object) words (content_of contents other)
content-with_words contents object words other =
    ap (λ o. unwrap_or o []) (words_at-with_words contents object words other)
    ∙ elim (eq_by_cmp place_cmp other object) as (λ b. unwrap_or (cond b (Some words) (words_at contents other)) [] ≡ cond b words (content_of contents other)) [ true ↦ refl | false ↦ refl ]

-- an object with these words put over what it has
abbrev pub put_over : Option (List ℕ) → List ℕ → List ℕ
put_over over under = unwrap_or over under

shadowed : (b : Bool) (over : Option (List ℕ)) (words under : List ℕ) → (b ≡ true → over ≡ None)
    → put_over over (cond b words under) ≡ put_over (cond b (Some words) over) under
shadowed true over words under none = ap (λ o. put_over o words) (none refl)
shadowed false over words under none = refl

pub content-overlay : (contents writes : Contents) (object : Place) → IsByRisingObject writes
    → content_of (overlay contents writes) object ≡ put_over (words_at writes object) (content_of contents object)
content-overlay contents [] object h = refl
content-overlay contents (one ∷ more) object h =
    content-overlay (with_words contents one.0 one.1) more object (in_order_behind one more h)
    ∙ (ap (put_over (words_at more object)) (content-with_words contents one.0 one.1 object)
    ∙ shadowed (eq_by_cmp place_cmp object one.0) (words_at more object) one.1 (content_of contents object)
    (λ tie. ap (words_at more) (places_equal object one.0 tie) ∙ once one.0 one.1 more h))

-- contents that are the same stay so
pub same-overlay : (one other writes : Contents) → IsByRisingObject writes → IsSameContents one other → IsSameContents (overlay one writes) (overlay other writes)
same-overlay one other writes h same object =
    content-overlay one writes object h
    ∙ (ap (put_over (words_at writes object)) (same object)
    ∙ sym (content-overlay other writes object h))
