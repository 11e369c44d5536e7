-- The order of objects, and what is found under it.
use Rattle.std.proofs.Common.{◌≡◌, ℕ, Bool, true, false, cond, ◌&&◌, List, [], ◌∷◌, refl, sym, ap, ◌∙◌, subst, Some, None}
use Rattle.std.specs.Ordering.{nat_cmp, ordering_then, is_eq, is_lt, eq_by_cmp}
use Rattle.std.specs.declared.cmp.Ordering.{Ordering}
use Rattle.std.specs.declared.cmp.Ordering.TheVariants.{Less, Equal, Greater}
use Rattle.std.specs.Cmp.{IsTotalOrder, then_total, on_total, nat_cmp_total, tied_itself}
use Rattle.std.specs.FinMap.{nat_cmp-IsAntisymmetric}
use Rattle.std.specs.FinMap.Entries.{find-put, is_sorted-put, below_all}
use lib.Dec.{T}
use Rattle.rma_layout.specs.Placement.{Place}
use Rattle.object_words.specs.Contents.{Contents, place_cmp, words_at, with_words, IsByRisingObject}

pub place_cmp_total : IsTotalOrder place_cmp
place_cmp_total = then_total (on_total (λ (p : Place). p.rank) nat_cmp_total) (on_total (λ (p : Place). p.block) nat_cmp_total)

both_tie : (one other : Ordering) → ordering_then one other ≡ Equal → (one ≡ Equal) × (other ≡ Equal)
both_tie Less other e = absurd (cc e)
both_tie Equal other e = (refl, e)
both_tie Greater other e = absurd (cc e)

pub same_places : (p q : Place) → p.rank ≡ q.rank → p.block ≡ q.block → p ≡ q
same_places p q r b i = record { rank = r i; block = b i }

-- only equal objects tie
pub places_that_tie : (p q : Place) → place_cmp p q ≡ Equal → p ≡ q
places_that_tie p q e =
    let parts = both_tie (nat_cmp p.rank q.rank) (nat_cmp p.block q.block) e in
    same_places p q (nat_cmp-IsAntisymmetric p.rank q.rank parts.0) (nat_cmp-IsAntisymmetric p.block q.block parts.1)

pub place_ties_itself : (p : Place) → eq_by_cmp place_cmp p p ≡ true
place_ties_itself p = ap is_eq (tied_itself place_cmp_total p)

is_tie : (o : Ordering) → is_eq o ≡ true → o ≡ Equal
is_tie Less e = absurd (cc e)
is_tie Equal e = refl
is_tie Greater e = absurd (cc e)

pub places_equal : (p q : Place) → eq_by_cmp place_cmp p q ≡ true → p ≡ q
places_equal p q e = places_that_tie p q (is_tie (place_cmp p q) e)

-- what is found once words are put
pub words_at-with_words : (contents : Contents) (object : Place) (words : List ℕ) (other : Place)
    → words_at (with_words contents object words) other ≡ cond (eq_by_cmp place_cmp other object) (Some words) (words_at contents other)
words_at-with_words contents object words other = find-put place_cmp place_cmp_total other object words contents

pub words_at_here : (contents : Contents) (object : Place) (words : List ℕ) → words_at (with_words contents object words) object ≡ Some words
words_at_here contents object words =
    words_at-with_words contents object words object ∙ ap (λ b. cond b (Some words) (words_at contents object)) (place_ties_itself object)

pub to_T : (b : Bool) → b ≡ true → T b
to_T b e = subst T (sym e) tt

pub of_T : (b : Bool) → T b → b ≡ true
of_T true h = refl
of_T false h = absurd h

first : (a b : Bool) → T (a && b) → T a
first true b h = tt
first false b h = absurd h

second : (a b : Bool) → T (a && b) → T b
second true b h = h
second false b h = absurd h

less : (o : Ordering) → T (is_lt o) → is_eq o ≡ false
less Less h = refl
less Equal h = absurd h
less Greater h = absurd h

-- what is below all objects is not found
not_below : (object : Place) (contents : Contents) → T (below_all place_cmp object contents) → words_at contents object ≡ None
not_below object [] h = refl
not_below object (one ∷ more) h =
    ap (λ b. cond b (Some one.1) (words_at more object)) (less (place_cmp object one.0) (first (is_lt (place_cmp object one.0)) _ h))
    ∙ not_below object more (second (is_lt (place_cmp object one.0)) _ h)

-- of contents in order, no object stands again behind the first one
pub once : (object : Place) (words : List ℕ) (more : Contents) → IsByRisingObject ((object, words) ∷ more) → words_at more object ≡ None
once object words more h = not_below object more (first (below_all place_cmp object more) _ (to_T _ h))

pub in_order_behind : (one : Place × List ℕ) (more : Contents) → IsByRisingObject (one ∷ more) → IsByRisingObject more
in_order_behind one more h = of_T _ (second (below_all place_cmp one.0 more) _ (to_T _ h))

pub in_order-with_words : (contents : Contents) (object : Place) (words : List ℕ) → IsByRisingObject contents → IsByRisingObject (with_words contents object words)
in_order-with_words contents object words h =
    of_T _ (is_sorted-put place_cmp place_cmp_total object words contents (to_T _ h))
