-- The worked transaction: what is read of an object of two words.
use Rattle.std.proofs.Common.{◌≡◌, ◌≢◌, ℕ, ◌+◌, ◌-◌, ◌*◌, ◌/◌, ◌%◌, ◌<◌, List, [], ◌∷◌, length, get_or, cond, refl, sym, ap, ◌∙◌, subst, inl, arith, Some, None}
use Rattle.std.proofs.lemmas.Nat.{div-mul-add, mod-mul-add}
use Rattle.object_words.specs.Contents.{content_of}
use Rattle.object_words.specs.Entries.{Entry, store_after}
use Rattle.rma_layout.specs.Shape.{Shape}
use Rattle.rma_layout.specs.Placement.{Place, IsReserved}
use Rattle.window_rule.specs.View.{View}
use Rattle.window_rule.specs.Known.{known_of, without_known}
use Rattle.window_rule.specs.Objects.{BeginsAt}
use Rattle.window_rule.specs.Lengths.{Measures}
use Rattle.window_rule.specs.Reads.{MayGet, Gets, IsAt}
use Rattle.window_rule.specs.Truths.{IsTrueView}
use Rattle.window_rule.specs.Pairs.{pair_of}
use Rattle.window_rule.proofs.LockLemmas.{same_place-refl}
use Rattle.window_rule.proofs.PairSteps.{own_block, reserved_length, some_blocks}

first_at : (object : Place) (chain : List Place) → BeginsAt object chain → 0 < length chain
    → IsAt chain 0 object
first_at object [] begins some_block = absurd (omega arith)
first_at object (first ∷ more) begins some_block = (some_block, begins)

pub pair_two : (content : List ℕ) → length content ≡ 2
    → pair_of content ≡ Some (get_or content 0 0, get_or content 1 0)
pair_two [] two = absurd (omega arith)
pair_two (first ∷ []) two = absurd (omega arith)
pair_two (first ∷ (second ∷ [])) two = refl
pair_two (first ∷ (second ∷ (third ∷ more))) two = absurd (omega arith)

pub pair_none : (content : List ℕ) → length content ≢ 2 → pair_of content ≡ None
pair_none [] two = refl
pair_none (first ∷ []) two = refl
pair_none (first ∷ (second ∷ [])) two = absurd (two refl)
pair_none (first ∷ (second ∷ (third ∷ more))) two = refl

module _ {N : Type 0} (fits : Shape → Entry N → Type 0) (shape : Shape) (object : Place)
    (low : IsReserved shape object.block) (wide : 4 < shape.words)
    (before : View N) (found : ℕ) (view : View N) (told : Measures object before found view)
    (truths : IsTrueView fits shape view) where
  known_now : known_of view.known object ≡ Some told.known
  known_now =
      ap (λ v. known_of v.known object) told.view
      ∙ ap (λ t. cond t (Some told.known) (known_of (without_known before.known object) object))
      (same_place-refl object)

  some_block : 0 < length told.known.chain
  some_block =
      omega (
        arith,
        truths.full object told.known known_now,
        reserved_length shape object told.known.content low,
        some_blocks (length told.known.content) (shape.words - 1),
      )

  pub may_get : MayGet view object
  may_get =
      inl (
        object,
        told.known,
        known_now,
        own_block object told.known.chain
            (truths.lies object told.known known_now).begins some_block,
      )

  -- what the history gives is what is known
  pub stored : content_of (store_after view.seen) object ≡ told.known.content
  stored = (truths.knows object told.known known_now).1

  word_at : (k word : ℕ) (after : View N) → found ≡ 2 → k < 2
      → Gets shape object (1 + k) view word after → word ≡ get_or told.known.content k 0
  word_at k word after two below gets =
      let per = shape.words - 1 in
      let sum : 0 * per + k ≡ k = omega arith in
      let row : k / per ≡ 0 = ap (λ n. n / per) (sym sum) ∙ div-mul-add 0 per k (omega arith) in
      let column : k % per ≡ k = ap (λ n. n % per) (sym sum) ∙ mod-mul-add 0 per k (omega arith) in
      (gets.known object told.known 0 known_now
      (first_at object told.known.chain
      (truths.lies object told.known known_now).begins some_block)).payload
      k (omega (arith, told.found_is)) (sym row) (ap (λ j. 1 + j) (sym column))

  pub two_words : (first second : ℕ) (once twice out : View N) → found ≡ 2
      → Gets shape object 1 view first once → once ≡ view → Gets shape object 2 once second twice
      → out.seen ≡ view.seen
      → Some (first, second) ≡ pair_of (content_of (store_after out.seen) object)
  two_words first second once twice out two gets same gets_again seen =
      let again = subst (λ v. Gets shape object 2 v second twice) same gets_again in
      let firsts = word_at 0 first once two (omega arith) gets in
      let seconds = word_at 1 second twice two (omega arith) again in
      (λ i. Some (firsts i, seconds i))
      ∙ (sym (pair_two told.known.content (sym told.found_is ∙ two))
      ∙ sym (ap pair_of (ap (λ l. content_of (store_after l) object) seen ∙ stored)))

  pub not_two_words : (out : View N) → found ≢ 2 → out.seen ≡ view.seen
      → None ≡ pair_of (content_of (store_after out.seen) object)
  not_two_words out not_two seen =
      sym (ap pair_of (ap (λ l. content_of (store_after l) object) seen ∙ stored)
      ∙ pair_none told.known.content (λ two. not_two (told.found_is ∙ two)))
