-- Lists of entries: what keeps them in order, and what holds of each.
use Rattle.std.proofs.Common.{◌≡◌, ℕ, Bool, true, false, cond, List, [], ◌∷◌, ◌++◌, Option, Some, None, is_some, refl, sym, ap, subst, true≢false}
use Rattle.std.specs.Prelude.{IsSome, IsSomeAnd}
use Rattle.std.proofs.Math.Dec.{T}
use Rattle.std.specs.List.{AllByRecursion, filter}
use Rattle.std.specs.Option.{unwrap_or}
use Rattle.std.specs.Ordering.{nat_cmp, is_eq, is_lt, ordering_then}
use Rattle.std.specs.declared.cmp.Ordering.{Ordering}
use Rattle.std.specs.declared.cmp.Ordering.TheVariants.{Less, Equal, Greater}
use Rattle.std.specs.Cmp.{IsTotalOrder, nat_cmp_total}
use Rattle.std.specs.FinMap.{IsAntisymmetric, nat_cmp-IsAntisymmetric}
use Rattle.std.specs.FinMap.Entries.{put, find, by_order, below_all, is_sorted, is_sorted-put}
use Rattle.std.proofs.lemmas.Bool.{and_parts, and_from}
use Rattle.std.proofs.lemmas.Cmp.{on_total, then_total}
use Rattle.graph_model.specs.Maps.{IsMap, IsSet}
use Rattle.graph_model.specs.Graph.{EdgeKey, edge_cmp}

pub same_value : {A : Type 0} (x y : A) → Some x ≡ Some y → x ≡ y
same_value x y is = ap (λ found. unwrap_or found x) is

pub nothing : {A B : Type 0} (x : A) → None ≡ Some x → B
nothing x is = absurd (true≢false (sym (ap is_some is)))

pub never : {A : Type 0} → false ≡ true → A
never is = absurd (true≢false (sym is))

pub some-there : {X : Type 0} (o : Option X) (P : X → Type 0) → IsSomeAnd o P → IsSome o
some-there None P there = absurd there
some-there (Some v) P there = refl

is_true : (b : Bool) → T b → b ≡ true
is_true true h = refl
is_true false h = absurd h

holds : (b : Bool) → b ≡ true → T b
holds b is = subst T (sym is) tt

pub All-map : {X : Type 0} (P Q : X → Type 0) → ((x : X) → P x → Q x) → (xs : List X) → AllByRecursion P xs → AllByRecursion Q xs
All-map P Q f [] all = tt
All-map P Q f (x ∷ xs) all = (f x all.0, All-map P Q f xs all.1)

pub All-filter : {X : Type 0} (P Q : X → Type 0) (p : X → Bool) → ((x : X) → p x ≡ true → P x → Q x) → (xs : List X) → AllByRecursion P xs → AllByRecursion Q (filter p xs)
All-filter P Q p f [] all = tt
All-filter P Q p f (x ∷ xs) all =
    let rest = All-filter P Q p f xs all.1 in
    elim (p x) as (λ b. p x ≡ b → AllByRecursion Q (cond b (x ∷ filter p xs) (filter p xs))) [
      | true ↦ λ is. (f x is all.0, rest)
      | false ↦ λ _. rest
    ] refl

pub All-push : {X : Type 0} (P : X → Type 0) (xs : List X) (x : X) → AllByRecursion P xs → P x → AllByRecursion P (xs ++ x ∷ [])
All-push P [] x all here = (here, tt)
All-push P (y ∷ ys) x all here = (all.0, All-push P ys x all.1 here)

pub IsSet-filter : (p : ℕ → Bool) (ns : List ℕ) → IsSet ns → IsSet (filter p ns)
IsSet-filter p [] set = tt
IsSet-filter p (n ∷ ns) set =
    let rest = IsSet-filter p ns set.1 in
    elim (p n) as (λ b. IsSet (cond b (n ∷ filter p ns) (filter p ns))) [ true ↦ (All-filter _ _ p (λ _ _ above. above) ns set.0, rest) | false ↦ rest ]

module _ {K X : Type 0} (R : K → K → Ordering) where
  pub IsMap-put : IsTotalOrder R → (k : K) (v : X) (es : List (K × X)) → IsMap R es → IsMap R (put R k v es)
  IsMap-put total k v es sorted = is_true _ (is_sorted-put R total k v es (holds _ sorted))

  pub below-filter : (p : K × X → Bool) (k : K) (es : List (K × X)) → below_all R k es ≡ true → below_all R k (filter p es) ≡ true
  below-filter p k [] below = refl
  below-filter p k (e ∷ es) below =
      let parts = and_parts (is_lt (R k e.0)) (below_all R k es) below in
      let rest = below-filter p k es parts.1 in
      elim (p e) as (λ b. below_all R k (cond b (e ∷ filter p es) (filter p es)) ≡ true) [ true ↦ and_from _ _ parts.0 rest | false ↦ rest ]

  pub IsMap-filter : (p : K × X → Bool) (es : List (K × X)) → IsMap R es → IsMap R (filter p es)
  IsMap-filter p [] sorted = refl
  IsMap-filter p (e ∷ es) sorted =
      let parts = and_parts (below_all R e.0 es) (is_sorted R es) sorted in
      let rest = IsMap-filter p es parts.1 in
      elim (p e) as (λ b. is_sorted R (cond b (e ∷ filter p es) (filter p es)) ≡ true) [ true ↦ and_from _ _ (below-filter p e.0 es parts.0) rest | false ↦ rest ]

  module _ (same : IsAntisymmetric R) (P : K × X → Type 0) where
    pub All-put : (k : K) (v : X) (es : List (K × X)) → P (k, v) → AllByRecursion P es → AllByRecursion P (put R k v es)
    All-put k v [] here all = (here, tt)
    All-put k v (e ∷ es) here all =
        elim (R k e.0) as (λ r. R k e.0 ≡ r → AllByRecursion P (by_order r ((k, v) ∷ e ∷ es) ((e.0, v) ∷ es) (e ∷ put R k v es))) [
          | Less ↦ λ _. (here, all)
          | Equal ↦ λ tied. (subst (λ q. P (q, v)) (same k e.0 tied) here, all.1)
          | Greater ↦ λ _. (all.0, All-put k v es here all.1)
        ] refl

    pub All-find : (q : K) (v : X) (es : List (K × X)) → AllByRecursion P es → find R q es ≡ Some v → P (q, v)
    All-find q v [] all there = nothing v there
    All-find q v (e ∷ es) all there =
        elim (R q e.0) as (λ r. R q e.0 ≡ r → cond (is_eq r) (Some e.1) (find R q es) ≡ Some v → P (q, v)) [
          | Less ↦ λ _ later. All-find q v es all.1 later
          | Equal ↦ λ tied found. subst (λ k. P (k, v)) (sym (same q e.0 tied)) (subst (λ x. P (e.0, x)) (same_value e.1 v found) all.0)
          | Greater ↦ λ _ later. All-find q v es all.1 later
        ] refl there

pub edge_cmp_total : IsTotalOrder edge_cmp
edge_cmp_total = then_total (on_total (λ (key : EdgeKey). key.source) nat_cmp_total) (on_total (λ (key : EdgeKey). key.ordinal) nat_cmp_total)

pub edge_cmp_same : IsAntisymmetric edge_cmp
edge_cmp_same a b =
    elim (nat_cmp a.source b.source) as (λ r. nat_cmp a.source b.source ≡ r → ordering_then r (nat_cmp a.ordinal b.ordinal) ≡ Equal → a ≡ b) [
      | Less ↦ λ _ tied. absurd (subst (λ r. T (is_eq r)) (sym tied) tt)
      | Equal ↦ λ sources ordinals. λ i. record { source = nat_cmp-IsAntisymmetric a.source b.source sources i; ordinal = nat_cmp-IsAntisymmetric a.ordinal b.ordinal ordinals i }
      | Greater ↦ λ _ tied. absurd (subst (λ r. T (is_eq r)) (sym tied) tt)
    ] refl
