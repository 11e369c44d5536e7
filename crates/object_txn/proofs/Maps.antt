-- What stands in contents once words are put.
use Rattle.std.proofs.Common.{◌≡◌, ◌≢◌, ℕ, Bool, true, false, cond, List, [], ◌∷◌, refl, sym, ap, ◌∙◌, subst, Some}
use Rattle.std.specs.Ordering.{is_eq, eq_by_cmp}
use Rattle.std.specs.declared.cmp.Ordering.{Ordering}
use Rattle.std.specs.declared.cmp.Ordering.TheVariants.{Less, Equal, Greater}
use Rattle.std.specs.FinMap.Entries.{by_order}
use Rattle.rma_layout.specs.Placement.{Place}
use Rattle.object_words.specs.Contents.{Contents, IsByRisingObject, place_cmp, with_words, words_at}
use Rattle.object_words.proofs.Places.{in_order-with_words, in_order_behind, once, places_equal, words_at-with_words}

pub words_at_other : (contents : Contents) (object : Place) (words : List ℕ) (other : Place) → other ≢ object
    → words_at (with_words contents object words) other ≡ words_at contents other
words_at_other contents object words other ne =
    words_at-with_words contents object words other
    ∙ ap (λ b. cond b (Some words) (words_at contents other)) (no_tie (eq_by_cmp place_cmp other object) refl)
  where
    no_tie : (b : Bool) → eq_by_cmp place_cmp other object ≡ b → b ≡ false
    no_tie true e = absurd (ne (places_equal other object e))
    no_tie false e = refl

some_is : (one other : List ℕ) → Some one ≡ Some other → one ≡ other
some_is one other e = cc e

abbrev placed : Place → List ℕ → (Place × List ℕ) → Contents → Ordering → Contents
placed object words one more o = by_order o ((object, words) ∷ one ∷ more) ((one.0, words) ∷ more) (one ∷ with_words more object words)

-- to put what stands there changes nothing
pub with_words_again : (contents : Contents) (object : Place) (words : List ℕ) → IsByRisingObject contents
    → words_at contents object ≡ Some words → with_words contents object words ≡ contents
with_words_again [] object words rising there = absurd (cc there)
with_words_again (one ∷ more) object words rising there =
    by_cases (place_cmp object one.0) refl (with_words_again more object words (in_order_behind one more rising))
  where
    found : (o : Ordering) → place_cmp object one.0 ≡ o
        → cond (is_eq o) (Some one.1) (words_at more object) ≡ Some words
    found o e = ap (λ p. cond (is_eq p) (Some one.1) (words_at more object)) (sym e) ∙ there

    by_cases : (o : Ordering) → place_cmp object one.0 ≡ o
        → (words_at more object ≡ Some words → with_words more object words ≡ more) → placed object words one more (place_cmp object one.0) ≡ one ∷ more
    by_cases Less e rest =
        let put : with_words (one ∷ more) object words ≡ (object, words) ∷ one ∷ more = ap (placed object words one more) e in
        let none = once object words (one ∷ more) (subst IsByRisingObject put (in_order-with_words (one ∷ more) object words rising)) in
        absurd (cc (sym none ∙ there))
    by_cases Equal e rest = ap (placed object words one more) e ∙ ap (λ w. (one.0, w) ∷ more) (sym (some_is one.1 words (found Equal e)))
    by_cases Greater e rest = ap (placed object words one more) e ∙ ap (λ l. one ∷ l) (rest (found Greater e))
