-- Maps as lists in order: what their keys decide, what is found in them, and lists that are made of their entries.
use Rattle.std.proofs.Common.{◌≡◌, ℕ, Bool, true, false, cond, ltb, ◌&&◌, List, [], ◌∷◌, ◌++◌, map, Option, Some, None, is_some, refl, sym, ap, ◌∙◌, arith}
use Rattle.std.specs.Prelude.{IsSomeAnd}
use Rattle.std.specs.List.{AllByRecursion, filter, list_any}
use Rattle.std.specs.Ordering.{nat_cmp, is_eq, is_lt, ordering_reverse}
use Rattle.std.specs.declared.cmp.Ordering.{Ordering}
use Rattle.std.specs.declared.cmp.Ordering.TheVariants.{Less, Equal, Greater}
use Rattle.std.specs.Cmp.{IsTotalOrder, tied_itself}
use Rattle.std.specs.FinMap.{IsAntisymmetric}
use Rattle.std.specs.FinMap.Entries.{find, below_all, is_sorted, is_some-find}
use Rattle.std.proofs.lemmas.Bool.{and_parts, and_from}
use Rattle.std.proofs.lemmas.Bool.Decides.{nat_tests}
use Rattle.graph_model.specs.Maps.{Map, IsMap, keys}
use Rattle.graph_model.proofs.Entries.{All-filter, All-find}
use Rattle.holder_codec.specs.Order.{is_rising}

pub is_less : (a b : ℕ) → is_lt (nat_cmp a b) ≡ true → ltb a b ≡ true
is_less a b less = grind (arith, nat_tests)

-- the value that is there
pub some_of : {X : Type 0} (o : Option X) → is_some o ≡ true → (x : X) × (o ≡ Some x)
some_of (Some x) there = (x, refl)
some_of None there = absurd cc

pub All-over_map : {X Y : Type 0} (P : Y → Type 0) (f : X → Y) (xs : List X) → AllByRecursion (λ x. P (f x)) xs → AllByRecursion P (map f xs)
All-over_map P f [] all = tt
All-over_map P f (x ∷ xs) all = (all.0, All-over_map P f xs all.1)

pub All-append : {X : Type 0} (P : X → Type 0) (xs ys : List X) → AllByRecursion P xs → AllByRecursion P ys → AllByRecursion P (xs ++ ys)
All-append P [] ys a b = b
All-append P (x ∷ xs) ys a b = (a.0, All-append P xs ys a.1 b)

pub All-both : {X : Type 0} (P Q S : X → Type 0) → ((x : X) → P x → Q x → S x) → (xs : List X) → AllByRecursion P xs → AllByRecursion Q xs → AllByRecursion S xs
All-both P Q S both [] p q = tt
All-both P Q S both (x ∷ xs) p q = (both x p.0 q.0, All-both P Q S both xs p.1 q.1)

pub All-always : {X : Type 0} {P : X → Type 0} → ((x : X) → P x) → (xs : List X) → AllByRecursion P xs
All-always always [] = tt
All-always always (x ∷ xs) = (always x, All-always always xs)

-- what holds of those that pass a test
pub All-unfilter : {X : Type 0} (p : X → Bool) (P : X → Type 0) (xs : List X) → AllByRecursion P (filter p xs) → AllByRecursion (λ x. p x ≡ true → P x) xs
All-unfilter p P [] all = tt
All-unfilter p P (x ∷ xs) all =
    elim (p x) as (λ b. p x ≡ b → AllByRecursion P (cond b (x ∷ filter p xs) (filter p xs)) → (p x ≡ true → P x) × AllByRecursion (λ y. p y ≡ true → P y) xs) [
      | true ↦ λ _ those. (λ _. those.0, All-unfilter p P xs those.1)
      | false ↦ λ fails those. (λ passes. absurd (cc (fails, passes)), All-unfilter p P xs those)
    ] refl all

pub map-back : {X Y : Type 0} (f : X → Y) (back : Y → X) → ((x : X) → back (f x) ≡ x) → (xs : List X) → map back (map f xs) ≡ xs
map-back f back is [] = refl
map-back f back is (x ∷ xs) = λ i. is x i ∷ map-back f back is xs i

-- two lists that a function with a way back makes equal
pub same_from_map : {X Y : Type 0} (f : X → Y) (back : Y → X) → ((x : X) → back (f x) ≡ x) → (xs ys : List X) → map f xs ≡ map f ys → xs ≡ ys
same_from_map f back is xs ys same = sym (map-back f back is xs) ∙ ap (map back) same ∙ map-back f back is ys

-- two lists of which two functions make the same, where that tells the elements
pub same_from_maps : {X Y : Type 0} (P Q : X → Type 0) (f h : X → Y) → ((a b : X) → P a → Q b → f a ≡ h b → a ≡ b)
    → (xs ys : List X) → AllByRecursion P xs → AllByRecursion Q ys → map f xs ≡ map h ys → xs ≡ ys
same_from_maps P Q f h told [] [] p q same = refl
same_from_maps P Q f h told [] (y ∷ ys) p q same = absurd cc
same_from_maps P Q f h told (x ∷ xs) [] p q same = absurd cc
same_from_maps P Q f h told (x ∷ xs) (y ∷ ys) p q same =
    let first : f x ≡ h y = cc in
    let rest : map f xs ≡ map h ys = cc in
    λ i. told x y p.0 q.0 first i ∷ same_from_maps P Q f h told xs ys p.1 q.1 rest i

pub All-from_maps : {X Y : Type 0} (f h : X → Y) (xs : List X) → map f xs ≡ map h xs → AllByRecursion (λ x. f x ≡ h x) xs
All-from_maps f h [] same = tt
All-from_maps f h (x ∷ xs) same =
    let first : f x ≡ h x = cc in
    let rest : map f xs ≡ map h xs = cc in
    (first, All-from_maps f h xs rest)

-- the fronts of two lists, where a test tells a front from what is behind it
pub same_fronts : {X : Type 0} (p : X → Bool) (xs ys zs ws : List X) → AllByRecursion (λ x. p x ≡ false) xs → AllByRecursion (λ x. p x ≡ true) ys
    → AllByRecursion (λ x. p x ≡ false) zs → AllByRecursion (λ x. p x ≡ true) ws → xs ++ ys ≡ zs ++ ws → xs ≡ zs
same_fronts p [] ys [] ws a b c d same = refl
same_fronts p [] [] (z ∷ zs) ws a b c d same = absurd cc
same_fronts p [] (y ∷ ys) (z ∷ zs) ws a b c d same =
    let first : y ≡ z = cc in
    absurd (cc (ap p first, b.0, c.0))
same_fronts p (x ∷ xs) ys [] [] a b c d same = absurd cc
same_fronts p (x ∷ xs) ys [] (w ∷ ws) a b c d same =
    let first : x ≡ w = cc in
    absurd (cc (ap p first, a.0, d.0))
same_fronts p (x ∷ xs) ys (z ∷ zs) ws a b c d same =
    let first : x ≡ z = cc in
    let rest : xs ++ ys ≡ zs ++ ws = cc in
    λ i. first i ∷ same_fronts p xs ys zs ws a.1 b c.1 d rest i

pub none_of : {X : Type 0} (o : Option X) → is_some o ≡ false → o ≡ None
none_of None none = refl
none_of (Some x) none = absurd cc

pub rising-append : {X : Type 0} (before : X → X → Bool) (A B : X → Type 0) → ((x y : X) → A x → B y → before x y ≡ true)
    → (xs ys : List X) → AllByRecursion A xs → AllByRecursion B ys → is_rising before xs ≡ true → is_rising before ys ≡ true → is_rising before (xs ++ ys) ≡ true
rising-append before A B keeps [] ys a b r s = s
rising-append before A B keeps (x ∷ []) [] a b r s = refl
rising-append before A B keeps (x ∷ []) (y ∷ ys) a b r s = and_from (before x y) (is_rising before (y ∷ ys)) (keeps x y a.0 b.0) s
rising-append before A B keeps (x ∷ z ∷ xs) ys a b r s =
    let parts = and_parts (before x z) (is_rising before (z ∷ xs)) r in
    and_from (before x z) (is_rising before ((z ∷ xs) ++ ys)) parts.0 (rising-append before A B keeps (z ∷ xs) ys a.1 b parts.1 s)

pub some_and : {X : Type 0} (P : X → Type 0) (o : Option X) → IsSomeAnd o P → (x : X) × (o ≡ Some x) × P x
some_and P (Some x) is = (x, refl, is)
some_and P None is = absurd is

module _ {K : Type 0} (R : K → K → Ordering) where
  below_by_keys : {X Y : Type 0} (k : K) (es : Map K X) (fs : Map K Y) → keys es ≡ keys fs → below_all R k es ≡ below_all R k fs
  below_by_keys k [] [] same = refl
  below_by_keys k [] (f ∷ fs) same = absurd cc
  below_by_keys k (e ∷ es) [] same = absurd cc
  below_by_keys k (e ∷ es) (f ∷ fs) same =
      let first : e.0 ≡ f.0 = cc in
      let rest : keys es ≡ keys fs = cc in
      λ i. is_lt (R k (first i)) && below_by_keys k es fs rest i

  sorted_by_keys : {X Y : Type 0} (es : Map K X) (fs : Map K Y) → keys es ≡ keys fs → is_sorted R es ≡ is_sorted R fs
  sorted_by_keys [] [] same = refl
  sorted_by_keys [] (f ∷ fs) same = absurd cc
  sorted_by_keys (e ∷ es) [] same = absurd cc
  sorted_by_keys (e ∷ es) (f ∷ fs) same =
      let first : e.0 ≡ f.0 = cc in
      let rest : keys es ≡ keys fs = cc in
      ap (λ k. below_all R k es && is_sorted R es) first ∙ λ i. below_by_keys f.0 es fs rest i && sorted_by_keys es fs rest i

  -- a map has its keys in order, whatever stands at them
  pub IsMap-by_keys : {X Y : Type 0} (es : Map K X) (fs : Map K Y) → keys es ≡ keys fs → IsMap R fs → IsMap R es
  IsMap-by_keys es fs same sorted = sorted_by_keys es fs same ∙ sorted

  -- what has a value in one has a value in the other
  pub find-by_keys : {X Y : Type 0} (es : Map K X) (fs : Map K Y) (k : K) (x : X) → keys es ≡ keys fs → find R k es ≡ Some x → (y : Y) × (find R k fs ≡ Some y)
  find-by_keys es fs k x same found =
      some_of (find R k fs) (is_some-find R k fs ∙ ap (list_any (λ q. is_eq (R k q))) (sym same) ∙ sym (is_some-find R k es) ∙ ap is_some found)

  pub none-by_keys : {X Y : Type 0} (es : Map K X) (fs : Map K Y) (k : K) → keys es ≡ keys fs → find R k es ≡ None → find R k fs ≡ None
  none-by_keys es fs k same none =
      none_of (find R k fs) (is_some-find R k fs ∙ ap (list_any (λ q. is_eq (R k q))) (sym same) ∙ sym (is_some-find R k es) ∙ ap is_some none)

  pub All-below : {X : Type 0} (k : K) (es : Map K X) → below_all R k es ≡ true → AllByRecursion (λ entry. is_lt (R k entry.0) ≡ true) es
  All-below k [] below = tt
  All-below k (e ∷ es) below =
      let parts = and_parts (is_lt (R k e.0)) (below_all R k es) below in
      (parts.0, All-below k es parts.1)

  not_tied : (o : Ordering) → is_lt o ≡ true → is_eq (ordering_reverse o) ≡ false
  not_tied Less lt = refl
  not_tied Equal lt = absurd cc
  not_tied Greater lt = absurd cc

  module _ {X : Type 0} (total : IsTotalOrder R) (ties : IsAntisymmetric R) where
    -- what is found behind the first entry is found in all
    behind_first : (e : K × X) (es : Map K X) (k : K) (x : X) → below_all R e.0 es ≡ true → find R k es ≡ Some x → find R k (e ∷ es) ≡ Some x
    behind_first e es k x below found =
        let above : is_lt (R e.0 k) ≡ true = All-find R ties (λ entry. is_lt (R e.0 entry.0) ≡ true) k x es (All-below e.0 es below) found in
        let apart : is_eq (R k e.0) ≡ false = ap is_eq (total.antisymm k e.0) ∙ not_tied (R e.0 k) above in
        ap (λ b. cond b (Some e.1) (find R k es)) apart ∙ found

    -- what holds wherever something is found holds of each entry
    pub All-from_find : (P : K × X → Type 0) (es : Map K X) → IsMap R es → ((k : K) (x : X) → find R k es ≡ Some x → P (k, x)) → AllByRecursion P es
    All-from_find P [] sorted each = tt
    All-from_find P (e ∷ es) sorted each =
        let parts = and_parts (below_all R e.0 es) (is_sorted R es) sorted in
        let first : find R e.0 (e ∷ es) ≡ Some e.1 = ap (λ o. cond (is_eq o) (Some e.1) (find R e.0 es)) (tied_itself total e.0) in
        (each e.0 e.1 first, All-from_find P es parts.1 (λ k x found. each k x (behind_first e es k x parts.0 found)))

    -- what is found among the entries that pass a test is found among all, and passes
    pub found_of_filter : (p : K × X → Bool) (es : Map K X) (k : K) (x : X) → IsMap R es → find R k (filter p es) ≡ Some x → (find R k es ≡ Some x) × (p (k, x) ≡ true)
    found_of_filter p es k x sorted found =
        let each = All-from_find (λ entry. find R entry.0 es ≡ Some entry.1) es sorted (λ _ _ there. there) in
        let kept = All-filter _ (λ entry. (find R entry.0 es ≡ Some entry.1) × (p entry ≡ true)) p (λ _ passes there. (there, passes)) es each in
        All-find R ties (λ entry. (find R entry.0 es ≡ Some entry.1) × (p entry ≡ true)) k x (filter p es) kept found

  -- what is made of a map's entries rises by another order, where entries of which P holds keep the order
  pub rising-map : {X Y : Type 0} (P : K × X → Type 0) (before : Y → Y → Bool) (f : K × X → Y)
      → ((a b : K × X) → P a → P b → is_lt (R a.0 b.0) ≡ true → before (f a) (f b) ≡ true)
      → (es : Map K X) → AllByRecursion P es → IsMap R es → is_rising before (map f es) ≡ true
  rising-map P before f keeps [] all sorted = refl
  rising-map P before f keeps (a ∷ []) all sorted = refl
  rising-map P before f keeps (a ∷ b ∷ es) all sorted =
      let parts = and_parts (below_all R a.0 (b ∷ es)) (is_sorted R (b ∷ es)) sorted in
      let first = and_parts (is_lt (R a.0 b.0)) (below_all R a.0 es) parts.0 in
      and_from (before (f a) (f b)) (is_rising before (map f (b ∷ es))) (keeps a b all.0 all.1.0 first.0) (rising-map P before f keeps (b ∷ es) all.1 parts.1)
