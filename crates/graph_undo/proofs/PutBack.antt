-- Maps as lists in order: what is put back where it was leaves the map that was.
use Rattle.std.proofs.Common.{◌≡◌, ℕ, ◌+◌, arith, Bool, true, false, not, ◌||◌, cond, [], ◌∷◌, Option, Some, None, refl, ap, sym, subst, ◌∙◌}
use Rattle.std.specs.List.{AllByRecursion, filter, sum_by}
use Rattle.std.specs.Option.{option_map_or}
use Rattle.std.proofs.lemmas.List.Sums.{sum_by-cons}
use Rattle.std.specs.List.Sorted.{IsStrictlySortedBy}
use Rattle.std.specs.Map.{keys_of}
use Rattle.std.specs.Ordering.{is_eq, ordering_reverse}
use Rattle.std.specs.declared.cmp.Ordering.{Ordering}
use Rattle.std.specs.declared.cmp.Ordering.TheVariants.{Less, Equal, Greater}
use Rattle.std.specs.Cmp.{IsTotalOrder, tied_itself}
use Rattle.std.specs.FinMap.{IsAntisymmetric}
use Rattle.std.specs.FinMap.Entries.{put, find, by_order}
use Rattle.std.proofs.lemmas.Map.Keys.{sorted_head, sorted_tail}
use Rattle.graph_model.specs.Maps.{Map}
use Rattle.graph_model.proofs.Entries.{same_value, nothing, All-filter}

module _ {K X : Type 0} (R : K → K → Ordering) (total : IsTotalOrder R) (same : IsAntisymmetric R) where
  abbrev Above : K → Map K X → Type 0
  Above k es = AllByRecursion (λ y. R k y ≡ Less) (keys_of es)

  pub above-later : (k m : K) (es : Map K X) → R k m ≡ Less → Above m es → Above k es
  above-later k m [] less above = tt
  above-later k m (e ∷ es) less above = (total.trans k m e.0 less above.0, above-later k m es less above.1)

  pub find-above : (k : K) (es : Map K X) → Above k es → find R k es ≡ None
  find-above k [] above = refl
  find-above k (e ∷ es) above = ap (λ r. cond (is_eq r) (Some e.1) (find R k es)) above.0 ∙ find-above k es above.1

  pub put-above : (k : K) (x : X) (es : Map K X) → Above k es → put R k x es ≡ (k, x) ∷ es
  put-above k x [] above = refl
  put-above k x (e ∷ es) above = ap (λ r. by_order r ((k, x) ∷ e ∷ es) ((e.0, x) ∷ es) (e ∷ put R k x es)) above.0

  -- a value that is there already
  pub put-same : (k : K) (x : X) (es : Map K X) → IsStrictlySortedBy R (keys_of es) → find R k es ≡ Some x → put R k x es ≡ es
  put-same k x [] rises there = nothing x there
  put-same k x (e ∷ es) rises there =
      elim (R k e.0) as (λ r. R k e.0 ≡ r → cond (is_eq r) (Some e.1) (find R k es) ≡ Some x → by_order r ((k, x) ∷ e ∷ es) ((e.0, x) ∷ es) (e ∷ put R k x es) ≡ e ∷ es) [
        | Less ↦ λ less later. nothing x (sym (find-above k es (above-later k e.0 es less (sorted_head R e.0 _ rises))) ∙ later)
        | Equal ↦ λ _ is. ap (λ y. (e.0, y) ∷ es) (sym (same_value e.1 x is))
        | Greater ↦ λ _ later. ap (λ rest. e ∷ rest) (put-same k x es (sorted_tail R e.0 _ rises) later)
      ] refl there

  -- a value in the place of another
  pub put-put : (k : K) (x w : X) (es : Map K X) → put R k x (put R k w es) ≡ put R k x es
  put-put k x w [] = ap (λ r. by_order r ((k, x) ∷ (k, w) ∷ []) ((k, x) ∷ []) ((k, w) ∷ (k, x) ∷ [])) (tied_itself total k)
  put-put k x w (e ∷ es) =
      elim (R k e.0) as (λ r. R k e.0 ≡ r → put R k x (by_order r ((k, w) ∷ e ∷ es) ((e.0, w) ∷ es) (e ∷ put R k w es)) ≡ by_order r ((k, x) ∷ e ∷ es) ((e.0, x) ∷ es) (e ∷ put R k x es)) [
        | Less ↦ λ _. ap (λ r. by_order r ((k, x) ∷ (k, w) ∷ e ∷ es) ((k, x) ∷ e ∷ es) ((k, w) ∷ put R k x (e ∷ es))) (tied_itself total k)
        | Equal ↦ λ tied. ap (λ r. by_order r ((k, x) ∷ (e.0, w) ∷ es) ((e.0, x) ∷ es) ((e.0, w) ∷ put R k x es)) tied
        | Greater ↦ λ more. ap (λ r. by_order r ((k, x) ∷ e ∷ put R k w es) ((e.0, x) ∷ put R k w es) (e ∷ put R k x (put R k w es))) more ∙ ap (λ rest. e ∷ rest) (put-put k x w es)
      ] refl

  module _ (k : K) (named : K × X → Bool) (agrees : (e : K × X) → is_eq (R k e.0) ≡ named e) where
    abbrev unnamed : Map K X → Map K X
    unnamed es = filter (λ e. not (named e)) es

    unnamed-cons : (e : K × X) (es : Map K X) (b : Bool) → is_eq (R k e.0) ≡ b → unnamed (e ∷ es) ≡ cond (not b) (e ∷ unnamed es) (unnamed es)
    unnamed-cons e es b is = ap (λ t. cond (not t) (e ∷ unnamed es) (unnamed es)) (sym (agrees e) ∙ is)

    -- one that isn't there
    pub out-absent : (es : Map K X) → find R k es ≡ None → unnamed es ≡ es
    out-absent [] none = refl
    out-absent (e ∷ es) none =
        elim (is_eq (R k e.0)) as (λ b. is_eq (R k e.0) ≡ b → cond b (Some e.1) (find R k es) ≡ None → unnamed (e ∷ es) ≡ e ∷ es) [
          | true ↦ λ _ some. nothing e.1 (sym some)
          | false ↦ λ other later. unnamed-cons e es false other ∙ ap (λ rest. e ∷ rest) (out-absent es later)
        ] refl none

    -- one that was put in
    pub out-put : (w : X) (es : Map K X) → unnamed (put R k w es) ≡ unnamed es
    out-put w [] = unnamed-cons (k, w) [] true (ap is_eq (tied_itself total k))
    out-put w (e ∷ es) =
        elim (R k e.0) as (λ r. R k e.0 ≡ r → unnamed (by_order r ((k, w) ∷ e ∷ es) ((e.0, w) ∷ es) (e ∷ put R k w es)) ≡ unnamed (e ∷ es)) [
          | Less ↦ λ _. unnamed-cons (k, w) (e ∷ es) true (ap is_eq (tied_itself total k))
          | Equal ↦ λ tied. unnamed-cons (e.0, w) es true (ap is_eq tied) ∙ sym (unnamed-cons e es true (ap is_eq tied))
          | Greater ↦ λ more. unnamed-cons e (put R k w es) false (ap is_eq more) ∙ ap (λ rest. e ∷ rest) (out-put w es) ∙ sym (unnamed-cons e es false (ap is_eq more))
        ] refl

    -- one that was taken out
    pub put-out : (x : X) (es : Map K X) → IsStrictlySortedBy R (keys_of es) → put R k x (unnamed es) ≡ put R k x es
    put-out x [] rises = refl
    put-out x (e ∷ es) rises =
        elim (R k e.0) as (λ r. R k e.0 ≡ r → put R k x (unnamed (e ∷ es)) ≡ by_order r ((k, x) ∷ e ∷ es) ((e.0, x) ∷ es) (e ∷ put R k x es)) [
          | Less ↦ λ less.
              let above : Above k (e ∷ es) = (less, above-later k e.0 es less (sorted_head R e.0 _ rises)) in
              ap (put R k x) (out-absent (e ∷ es) (find-above k (e ∷ es) above)) ∙ put-above k x (e ∷ es) above
          | Equal ↦ λ tied.
              let above : Above k es = subst (λ m. Above m es) (sym (same k e.0 tied)) (sorted_head R e.0 _ rises) in
              ap (put R k x) (unnamed-cons e es true (ap is_eq tied) ∙ out-absent es (find-above k es above)) ∙ put-above k x es above ∙ ap (λ m. (m, x) ∷ es) (same k e.0 tied)
          | Greater ↦ λ more.
              ap (put R k x) (unnamed-cons e es false (ap is_eq more))
              ∙ ap (λ r. by_order r ((k, x) ∷ e ∷ unnamed es) ((e.0, x) ∷ unnamed es) (e ∷ put R k x (unnamed es))) more
              ∙ ap (λ rest. e ∷ rest) (put-out x es (sorted_tail R e.0 _ rises))
        ] refl

  -- entries put in one after the other, the first one last
  abbrev pub all_put : Map K X → Map K X → Map K X
  all_put [] es = es
  all_put (d ∷ ds) es = put R d.0 d.1 (all_put ds es)

  put-behind : (e : K × X) (k : K) (x : X) (es : Map K X) → R e.0 k ≡ Less → put R k x (e ∷ es) ≡ e ∷ put R k x es
  put-behind e k x es less =
      ap (λ r. by_order r ((k, x) ∷ e ∷ es) ((e.0, x) ∷ es) (e ∷ put R k x es)) (total.antisymm k e.0 ∙ ap ordering_reverse less)

  all_put-behind : (e : K × X) (ds es : Map K X) → Above e.0 ds → all_put ds (e ∷ es) ≡ e ∷ all_put ds es
  all_put-behind e [] es above = refl
  all_put-behind e (d ∷ ds) es above = ap (put R d.0 d.1) (all_put-behind e ds es above.1) ∙ put-behind e d.0 d.1 (all_put ds es) above.0

  pub above-passing : (p : K × X → Bool) (k : K) (es : Map K X) → Above k es → Above k (filter p es)
  above-passing p k [] above = tt
  above-passing p k (e ∷ es) above =
      elim (p e) as (λ b. Above k (cond b (e ∷ filter p es) (filter p es))) [ true ↦ (above.0, above-passing p k es above.1) | false ↦ above-passing p k es above.1 ]

  -- those that pass one test, put back to those that pass another
  pub put_back-passing : (p q : K × X → Bool) (es : Map K X) → IsStrictlySortedBy R (keys_of es) → all_put (filter p es) (filter q es) ≡ filter (λ e. p e || q e) es
  put_back-passing p q [] rises = refl
  put_back-passing p q (e ∷ es) rises =
      let head = sorted_head R e.0 (keys_of es) rises in
      let later = put_back-passing p q es (sorted_tail R e.0 (keys_of es) rises) in
      let behind : all_put (filter p es) (e ∷ filter q es) ≡ e ∷ all_put (filter p es) (filter q es) = all_put-behind e (filter p es) (filter q es) (above-passing p e.0 es head) in
      let both : Map K X = filter (λ e. p e || q e) es in
      elim (p e) as (λ b. all_put (cond b (e ∷ filter p es) (filter p es)) (filter q (e ∷ es)) ≡ cond (b || q e) (e ∷ both) both) [
        | true ↦ elim (q e) as (λ b. put R e.0 e.1 (all_put (filter p es) (cond b (e ∷ filter q es) (filter q es))) ≡ e ∷ both) [
          | true ↦ ap (put R e.0 e.1) (behind ∙ ap (λ rest. e ∷ rest) later) ∙ ap (λ r. by_order r (e ∷ e ∷ both) (e ∷ both) (e ∷ put R e.0 e.1 both)) (tied_itself total e.0)
          | false ↦ ap (put R e.0 e.1) later ∙ put-above e.0 e.1 both (above-passing (λ e. p e || q e) e.0 es head)
        ]
        | false ↦ elim (q e) as (λ b. all_put (filter p es) (cond b (e ∷ filter q es) (filter q es)) ≡ cond b (e ∷ both) both) [
          | true ↦ behind ∙ ap (λ rest. e ∷ rest) later
          | false ↦ later
        ]
      ]

  -- ---- the order of the keys

  above-put : (m k : K) (v : X) (es : Map K X) → R m k ≡ Less → Above m es → Above m (put R k v es)
  above-put m k v [] less above = (less, tt)
  above-put m k v (e ∷ es) less above =
      elim (R k e.0) as (λ r. Above m (by_order r ((k, v) ∷ e ∷ es) ((e.0, v) ∷ es) (e ∷ put R k v es))) [
        | Less ↦ (less, above)
        | Equal ↦ above
        | Greater ↦ (above.0, above-put m k v es less above.1)
      ]

  pub rises-put : (k : K) (v : X) (es : Map K X) → IsStrictlySortedBy R (keys_of es) → IsStrictlySortedBy R (keys_of (put R k v es))
  unfolding IsStrictlySortedBy
  rises-put k v [] rises = (tt, tt)
  rises-put k v (e ∷ es) rises =
      elim (R k e.0) as (λ r. R k e.0 ≡ r → IsStrictlySortedBy R (keys_of (by_order r ((k, v) ∷ e ∷ es) ((e.0, v) ∷ es) (e ∷ put R k v es)))) [
        | Less ↦ λ less. ((less, above-later k e.0 es less (sorted_head R e.0 _ rises)), rises)
        | Equal ↦ λ _. rises
        | Greater ↦ λ more.
            let less : R e.0 k ≡ Less = total.antisymm e.0 k ∙ ap ordering_reverse more in
            (above-put e.0 k v es less (sorted_head R e.0 _ rises), rises-put k v es (sorted_tail R e.0 _ rises))
      ] refl

  pub rises-passing : (p : K × X → Bool) (es : Map K X) → IsStrictlySortedBy R (keys_of es) → IsStrictlySortedBy R (keys_of (filter p es))
  unfolding IsStrictlySortedBy
  rises-passing p [] rises = tt
  rises-passing p (e ∷ es) rises =
      let later = rises-passing p es (sorted_tail R e.0 _ rises) in
      elim (p e) as (λ b. IsStrictlySortedBy R (keys_of (cond b (e ∷ filter p es) (filter p es)))) [
        | true ↦ (above-passing p e.0 es (sorted_head R e.0 _ rises), later)
        | false ↦ later
      ]

  -- ---- sums over the entries

  module _ (f : K × X → ℕ) where
    -- what stands at a key, if anything does
    abbrev pub weight : K → Option X → ℕ
    weight k o = option_map_or (λ x. f (k, x)) o 0

    pub sum-put : (k : K) (v : X) (es : Map K X) → IsStrictlySortedBy R (keys_of es) → sum_by f (put R k v es) + weight k (find R k es) ≡ sum_by f es + f (k, v)
    sum-put k v [] rises = omega (arith, sum_by-cons f (k, v) [])
    sum-put k v (e ∷ es) rises =
        elim (R k e.0) as (λ r. R k e.0 ≡ r → sum_by f (by_order r ((k, v) ∷ e ∷ es) ((e.0, v) ∷ es) (e ∷ put R k v es)) + weight k (cond (is_eq r) (Some e.1) (find R k es)) ≡ sum_by f (e ∷ es) + f (k, v)) [
          | Less ↦ λ less. omega (arith, sum_by-cons f (k, v) (e ∷ es), ap (weight k) (find-above k es (above-later k e.0 es less (sorted_head R e.0 _ rises))))
          | Equal ↦ λ tied. omega (arith, sum_by-cons f (e.0, v) es, sum_by-cons f e es, ap (λ q. f (q, v)) (same k e.0 tied), ap (λ q. f (q, e.1)) (same k e.0 tied))
          | Greater ↦ λ _. omega (arith, sum_by-cons f e (put R k v es), sum_by-cons f e es, sum-put k v es (sorted_tail R e.0 _ rises))
        ] refl

    pub sum-out : (k : K) (named : K × X → Bool) (agrees : (e : K × X) → is_eq (R k e.0) ≡ named e) (es : Map K X) → IsStrictlySortedBy R (keys_of es)
        → sum_by f (filter (λ e. not (named e)) es) + weight k (find R k es) ≡ sum_by f es
    sum-out k named agrees [] rises = refl
    sum-out k named agrees (e ∷ es) rises =
        let later = sum-out k named agrees es (sorted_tail R e.0 _ rises) in
        let left : Map K X = filter (λ e. not (named e)) es in
        elim (R k e.0) as (λ r. R k e.0 ≡ r → sum_by f (filter (λ e. not (named e)) (e ∷ es)) + weight k (cond (is_eq r) (Some e.1) (find R k es)) ≡ sum_by f (e ∷ es)) [
          | Less ↦ λ is. omega (arith, ap (sum_by f) (unnamed-cons k named agrees e es false (ap is_eq is)), sum_by-cons f e left, sum_by-cons f e es, later)
          | Equal ↦ λ tied.
              let above : Above k es = subst (λ m. Above m es) (sym (same k e.0 tied)) (sorted_head R e.0 _ rises) in
              omega (arith, ap (sum_by f) (unnamed-cons k named agrees e es true (ap is_eq tied)), sum_by-cons f e es, later, ap (weight k) (find-above k es above), ap (λ q. f (q, e.1)) (same k e.0 tied))
          | Greater ↦ λ is. omega (arith, ap (sum_by f) (unnamed-cons k named agrees e es false (ap is_eq is)), sum_by-cons f e left, sum_by-cons f e es, later)
        ] refl

  -- what is found at another key
  pub find-other : (k q : K) (named : K × X → Bool) (agrees : (e : K × X) → is_eq (R k e.0) ≡ named e) (es : Map K X) → is_eq (R q k) ≡ false → find R q (filter (λ e. not (named e)) es) ≡ find R q es
  find-other k q named agrees [] other = refl
  find-other k q named agrees (e ∷ es) other =
      let later = find-other k q named agrees es other in
      elim (R k e.0) as (λ r. R k e.0 ≡ r → find R q (filter (λ e. not (named e)) (e ∷ es)) ≡ find R q (e ∷ es)) [
        | Less ↦ λ is. ap (find R q) (unnamed-cons k named agrees e es false (ap is_eq is)) ∙ ap (λ o. cond (is_eq (R q e.0)) (Some e.1) o) later
        | Equal ↦ λ tied.
            let apart : is_eq (R q e.0) ≡ false = ap (λ m. is_eq (R q m)) (sym (same k e.0 tied)) ∙ other in
            ap (find R q) (unnamed-cons k named agrees e es true (ap is_eq tied)) ∙ later ∙ sym (ap (λ b. cond b (Some e.1) (find R q es)) apart)
        | Greater ↦ λ is. ap (find R q) (unnamed-cons k named agrees e es false (ap is_eq is)) ∙ ap (λ o. cond (is_eq (R q e.0)) (Some e.1) o) later
      ] refl

  -- each entry is found by its key
  found-behind : (e : K × X) (es ds : Map K X) → Above e.0 ds → AllByRecursion (λ d. find R d.0 es ≡ Some d.1) ds → AllByRecursion (λ d. find R d.0 (e ∷ es) ≡ Some d.1) ds
  found-behind e es [] above all = tt
  found-behind e es (d ∷ ds) above all =
      (ap (λ r. cond (is_eq r) (Some e.1) (find R d.0 es)) (total.antisymm d.0 e.0 ∙ ap ordering_reverse above.0) ∙ all.0, found-behind e es ds above.1 all.1)

  each-found : (es : Map K X) → IsStrictlySortedBy R (keys_of es) → AllByRecursion (λ d. find R d.0 es ≡ Some d.1) es
  each-found [] rises = tt
  each-found (e ∷ es) rises =
      (ap (λ r. cond (is_eq r) (Some e.1) (find R e.0 es)) (tied_itself total e.0), found-behind e es es (sorted_head R e.0 _ rises) (each-found es (sorted_tail R e.0 _ rises)))

  pub find-entries : (p : K × X → Bool) (es : Map K X) → IsStrictlySortedBy R (keys_of es) → AllByRecursion (λ d. find R d.0 es ≡ Some d.1) (filter p es)
  find-entries p es rises = All-filter _ _ p (λ _ _ is. is) es (each-found es rises)
