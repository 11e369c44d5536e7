-- How many objects are made, and how many may be.
use Rattle.std.proofs.Common.{◌≡◌, ◌≢◌, ℕ, zero, suc, ◌<◌, ◌≤◌, Bool, true, false, cond, not, ◌&&◌, List, [], ◌∷◌, Option, Some, None, IsSome, refl, sym, ap, ◌∙◌, arith, ◌⊎◌, inl, inr}
use Rattle.std.specs.Option.{unwrap_or}
use Rattle.std.specs.Ordering.{eq_by_cmp}
use Rattle.std.specs.Prelude.{is_some}
use Rattle.std.proofs.lemmas.Bool.Decides.{nat_tests}
use Rattle.rma_layout.specs.Shape.{Shape, reserved_blocks}
use Rattle.rma_layout.specs.Placement.{Place, IsReserved}
use Rattle.object_words.specs.Contents.{Contents, place_cmp, content_of, words_at, with_words, is_empty, Agrees, IsSameContents}
use Rattle.object_words.specs.Blocks.{total_below, one_if, on_rank, is_reserved, made_objects, empty_objects}
use Rattle.object_words.proofs.Places.{same_places, words_at-with_words, places_equal}
use Rattle.object_store.specs.Plain.{is_vacant, IsFirstVacant, IsNoneVacant}

pub total_same : (n : ℕ) (f g : ℕ → ℕ) → ((k : ℕ) → k < n → f k ≡ g k) → total_below n f ≡ total_below n g
unfolding total_below
total_same zero f g h = refl
total_same (suc n) f g h = omega (arith, total_same n f g (λ k less. h k (omega arith)), h n (omega arith))

total_le : (n : ℕ) (f g : ℕ → ℕ) → ((k : ℕ) → f k ≤ g k) → total_below n f ≤ total_below n g
unfolding total_below
total_le zero f g h = omega arith
total_le (suc n) f g h = omega (arith, total_le n f g h, h n)

here_or_below : (n k : ℕ) → k < suc n → (k ≡ n) ⊎ (k < n)
here_or_below n k h = grind arith

pub total_less : (n : ℕ) (f g : ℕ → ℕ) → ((k : ℕ) → f k ≤ g k) → (k : ℕ) → k < n → f k < g k → total_below n f < total_below n g
unfolding total_below
total_less zero f g h k below less = absurd (omega arith)
total_less (suc n) f g h k below less =
    elim (here_or_below n k below) [
      | inl here ↦ omega (arith, total_le n f g h, ap f here, ap g here)
      | inr there ↦ omega (arith, total_less n f g h k there less, h n)
    ]

one_of_two : (free written : Bool) → one_if (free && written) ≤ one_if free
one_of_two true true = omega arith
one_of_two true false = omega arith
one_of_two false written = omega arith

-- an object that is not vacant and is free of words is written
counted : (unreserved empty written : Bool) → (unreserved ≡ true → (empty && not written) ≡ false)
    → one_if (unreserved && empty && written) ≡ one_if (unreserved && empty)
counted false empty written h = refl
counted true false written h = refl
counted true true true h = refl
counted true true false h = absurd (cc (h refl))

less_by_one : (unreserved empty written : Bool) → unreserved ≡ true → (empty && not written) ≡ true
    → one_if (unreserved && empty && written) < one_if (unreserved && empty)
less_by_one false empty written u v = absurd (cc u)
less_by_one true false written u v = absurd (cc v)
less_by_one true true true u v = absurd (cc v)
less_by_one true true false u v = omega arith

is_unreserved : (shape : Shape) (block : ℕ) → not (is_reserved shape block) ≡ true → reserved_blocks shape ≤ block
is_unreserved shape block h = grind (arith, nat_tests)

is_not_reserved : (shape : Shape) (block : ℕ) → reserved_blocks shape ≤ block → not (is_reserved shape block) ≡ true
is_not_reserved shape block h = grind (arith, nat_tests)

-- where no object is vacant, as many are made as may be
pub all_made : (shape : Shape) (committed store writes : Contents) (rank : ℕ) → IsSameContents committed store → IsNoneVacant shape committed writes rank
    → made_objects shape store writes rank ≡ empty_objects shape store rank
all_made shape committed store writes rank same none =
    total_same shape.blocks _ _ (λ block within.
    counted (not (is_reserved shape block)) (is_empty (content_of store (on_rank rank block))) (is_some (words_at writes (on_rank rank block)))
    (λ unreserved. ap (λ words. is_empty words && not (is_some (words_at writes (on_rank rank block)))) (sym (same (on_rank rank block))) ∙ none block (is_unreserved shape block unreserved) within))

-- where one is vacant, fewer are made
pub not_all_made : (shape : Shape) (committed store writes : Contents) (rank : ℕ) (object : Place) → IsSameContents committed store → IsFirstVacant shape committed writes rank object
    → made_objects shape store writes rank < empty_objects shape store rank
not_all_made shape committed store writes rank object same first =
    let here : object ≡ on_rank rank object.block = same_places object (on_rank rank object.block) first.on refl in
    total_less shape.blocks _ _
    (λ block. one_of_two (not (is_reserved shape block) && is_empty (content_of store (on_rank rank block))) (is_some (words_at writes (on_rank rank block))))
    object.block first.within
    (less_by_one (not (is_reserved shape object.block)) (is_empty (content_of store (on_rank rank object.block))) (is_some (words_at writes (on_rank rank object.block)))
    (is_not_reserved shape object.block first.unreserved)
    (ap (λ words. is_empty words && not (is_some (words_at writes (on_rank rank object.block)))) (sym (same (on_rank rank object.block)))
    ∙ (ap (is_vacant committed writes) (sym here) ∙ first.vacant)))

-- ---- writing to an object makes none, where it may be written

reserved_is : (shape : Shape) (block : ℕ) → IsReserved shape block → is_reserved shape block ≡ true
reserved_is shape block reserved = grind (arith, nat_tests)

not_empty : (words : List ℕ) → words ≢ [] → is_empty words ≡ false
not_empty [] some = absurd (some refl)
not_empty (w ∷ ws) some = refl

-- what was read and found not empty is not empty
read_not_empty : (reads contents : Contents) (object : Place) → Agrees reads contents → content_of reads object ≢ [] → content_of contents object ≢ []
read_not_empty reads contents object agrees some = cases (words_at reads object) refl
  where
    cases : (o : Option (List ℕ)) → words_at reads object ≡ o → content_of contents object ≢ []
    cases None none = absurd (some (ap (λ o. unwrap_or o []) none))
    cases (Some words) is = λ none. some (ap (λ o. unwrap_or o []) is ∙ (sym (agrees object words is) ∙ none))

counted_alike : (reserved empty written : Bool) → (reserved ≡ true) ⊎ (written ≡ true) ⊎ (empty ≡ false)
    → one_if (not reserved && empty && true) ≡ one_if (not reserved && empty && written)
counted_alike true empty written may = refl
counted_alike false false written may = refl
counted_alike false true true may = refl
counted_alike false true false (inl never) = absurd (cc never)
counted_alike false true false (inr (inl never)) = absurd (cc never)
counted_alike false true false (inr (inr never)) = absurd (cc never)

module _ (shape : Shape) (contents writes : Contents) (object : Place) (words : List ℕ) (rank : ℕ) where
  abbrev counts : ℕ → Option (List ℕ) → ℕ
  counts block wrote = one_if (not (is_reserved shape block) && is_empty (content_of contents (on_rank rank block)) && is_some wrote)

  abbrev SameCount : ℕ → Type 0
  SameCount block = counts block (words_at (with_words writes object words) (on_rank rank block)) ≡ counts block (words_at writes (on_rank rank block))

  put_at : (block : ℕ) (tie : Bool) → eq_by_cmp place_cmp (on_rank rank block) object ≡ tie
      → counts block (words_at (with_words writes object words) (on_rank rank block)) ≡ counts block (cond tie (Some words) (words_at writes (on_rank rank block)))
  put_at block tie is = ap (counts block) (words_at-with_words writes object words (on_rank rank block) ∙ ap (λ b. cond b (Some words) (words_at writes (on_rank rank block))) is)

  pub written_made : (reads : Contents) → Agrees reads contents → IsReserved shape object.block ⊎ IsSome (words_at writes object) ⊎ (content_of reads object ≢ [])
      → made_objects shape contents (with_words writes object words) rank ≡ made_objects shape contents writes rank
  written_made reads agrees may = total_same shape.blocks _ _ (λ block _. cases block (eq_by_cmp place_cmp (on_rank rank block) object) refl)
    where
      told : (block : ℕ) → on_rank rank block ≡ object → (is_reserved shape block ≡ true) ⊎ (is_some (words_at writes (on_rank rank block)) ≡ true) ⊎ (is_empty (content_of contents (on_rank rank block)) ≡ false)
      told block here = elim may [
        | inl reserved ↦ inl (ap (λ (p : Place). is_reserved shape p.block) here ∙ reserved_is shape object.block reserved)
        | inr (inl wrote) ↦ inr (inl (ap (λ p. is_some (words_at writes p)) here ∙ wrote))
        | inr (inr some) ↦ inr (inr (ap (λ p. is_empty (content_of contents p)) here ∙ not_empty (content_of contents object) (read_not_empty reads contents object agrees some)))
      ]

      cases : (block : ℕ) (tie : Bool) → eq_by_cmp place_cmp (on_rank rank block) object ≡ tie → SameCount block
      cases block true tie =
          put_at block true tie
          ∙ counted_alike (is_reserved shape block) (is_empty (content_of contents (on_rank rank block))) (is_some (words_at writes (on_rank rank block))) (told block (places_equal (on_rank rank block) object tie))
      cases block false tie = put_at block false tie

  -- nor on another rank
  pub made_elsewhere : (object.rank ≢ rank) → made_objects shape contents (with_words writes object words) rank ≡ made_objects shape contents writes rank
  made_elsewhere other = total_same shape.blocks _ _ (λ block _. cases block (eq_by_cmp place_cmp (on_rank rank block) object) refl)
    where
      cases : (block : ℕ) (tie : Bool) → eq_by_cmp place_cmp (on_rank rank block) object ≡ tie → SameCount block
      cases block true tie = absurd (other (ap (λ (p : Place). p.rank) (sym (places_equal (on_rank rank block) object tie))))
      cases block false tie = put_at block false tie
