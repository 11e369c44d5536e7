-- Which rank `full_rank` names: one that is short, where there is one.
use Rattle.std.proofs.Common.{◌≡◌, ℕ, zero, suc, ◌+◌, ◌<◌, ◌≤◌, Bool, true, false, cond, not, List, [], ◌∷◌, ◌||◌, if◌then◌else◌, Option, Some, None, refl, sym, ap, subst, ◌∙◌, arith, true≢false}
use Rattle.std.specs.Prelude as prelude
use Rattle.std.specs.Prelude.{◌==◌, nat_lt, IsSome}
use Rattle.std.specs.List.{count_by, range_with_len}
use Rattle.std.specs.Option.{option_or}
use Rattle.std.proofs.lemmas.Bool.{cond-true, cond-false, or_left, or_right, or_from, not_from_true, not-true, ltb-true, lt-ltb, eq-eqb}
use Rattle.std.proofs.lemmas.List.Sums.{sum_by-cons}
use Rattle.gdi_kinds.specs.declared.call.Call.{Call}
use Rattle.rma_layout.specs.Shape.{Shape}
use Rattle.graph_model.specs.Graph.{Graph}
use Rattle.gdi_kinds.specs.Calls.{is_writing}
use Rattle.graph_model.specs.Capacity.{blocks_used_on, blocks_needed_on, makes, short_at_make, short_at_commit, full_rank}
use Rattle.graph_model.proofs.Entries.{same_value, nothing}
use Rattle.graph_model.specs.Laws.{IsShortOn, AbortIsNeverFull, LookingTransactionIsNeverFull, NamedRankIsShort, ShortTransactionIsFull}

pub abort_never_full : AbortIsNeverFull
unfolding full_rank
abort_never_full shape g txn aborts = cond-true (txn.aborts || not (is_writing txn)) _ _ (or_left _ _ aborts)

pub looking_never_full : LookingTransactionIsNeverFull
unfolding full_rank
looking_never_full shape g txn looks = cond-true (txn.aborts || not (is_writing txn)) _ _ (or_right _ _ looks)

-- how often a rank stands in a list
abbrev times : ℕ → List ℕ → ℕ
times rank ranks = count_by (λ r. r == rank) ranks

times-cons : (rank r : ℕ) (rs : List ℕ) → times rank (r ∷ rs) ≡ cond (r == rank) 1 0 + times rank rs
times-cons rank r rs = sum_by-cons (λ x. cond (x == rank) 1 0) r rs

times-itself : (r : ℕ) (rs : List ℕ) → times r (r ∷ rs) ≡ 1 + times r rs
times-itself r rs = times-cons r r rs ∙ ap (λ same. cond same 1 0 + times r rs) (eq-eqb r r refl)

module _ (shape : Shape) (g : Graph) where
  short_at_make-short : (earlier ranks : List ℕ) (r : ℕ) → short_at_make shape g earlier ranks ≡ Some r → shape.blocks < blocks_used_on shape g r + (times r earlier + times r ranks)
  short_at_make-short earlier [] r is = nothing r is
  short_at_make-short earlier (rank ∷ ranks) r is =
      let now = blocks_used_on shape g rank + times rank earlier + 1 in
      elim (nat_lt shape.blocks now) as (λ b. nat_lt shape.blocks now ≡ b → (if b then Some rank else short_at_make shape g (rank ∷ earlier) ranks) ≡ Some r → shape.blocks < blocks_used_on shape g r + (times r earlier + times r (rank ∷ ranks))) [
        | true ↦ λ short found. subst (λ x. shape.blocks < blocks_used_on shape g x + (times x earlier + times x (rank ∷ ranks))) (same_value rank r found) (omega (arith, ltb-true _ _ short, times-itself rank ranks))
        | false ↦ λ _ later. omega (arith, short_at_make-short (rank ∷ earlier) ranks r later, times-cons r rank earlier, times-cons r rank ranks)
      ] refl is

  short_at_make-named : (cs : List Call) (r : ℕ) → short_at_make shape g [] (makes shape g cs) ≡ Some r → shape.blocks < blocks_used_on shape g r + blocks_needed_on shape g cs r
  short_at_make-named cs r is = omega (arith, short_at_make-short [] (makes shape g cs) r is)

find-passes : (p : ℕ → Bool) (xs : List ℕ) (x : ℕ) → prelude.find p xs ≡ Some x → p x ≡ true
find-passes p [] x is = nothing x is
find-passes p (y ∷ ys) x is =
    elim (p y) as (λ b. p y ≡ b → (if b then Some y else prelude.find p ys) ≡ Some x → p x ≡ true) [
      | true ↦ λ passes found. subst (λ z. p z ≡ true) (same_value y x found) passes
      | false ↦ λ _ later. find-passes p ys x later
    ] refl is

pub find-in_range : (p : ℕ → Bool) (start n x : ℕ) → start ≤ x → x < start + n → p x ≡ true → IsSome (prelude.find p (range_with_len start n))
find-in_range p start zero x above below passes = absurd (omega arith)
find-in_range p start (suc n) x above below passes =
    elim (p start) as (λ b. p start ≡ b → IsSome (if b then Some start else prelude.find p (range_with_len (start + 1) n))) [
      | true ↦ λ _. refl
      | false ↦ λ fails. find-in_range p (start + 1) n x (omega (arith, differs fails)) (omega arith) passes
    ] refl
  where
    apart : p start ≡ false → start ≡ x → ⊥
    apart fails is = true≢false (sym passes ∙ ap p (sym is) ∙ fails)

    differs : p start ≡ false → start < x
    differs fails = omega (arith, above, apart fails)

pub named_rank_short : NamedRankIsShort
unfolding full_rank
named_rank_short shape g txn r is =
    let at_make = short_at_make shape g [] (makes shape g txn.calls) in
    let at_commit = short_at_commit shape g txn.calls in
    elim (txn.aborts || not (is_writing txn)) as (λ b. (if b then None else option_or at_make at_commit) ≡ Some r → IsShortOn shape g txn r) [
      | true ↦ λ never. nothing r never
      | false ↦ elim at_make as (λ made. at_make ≡ made → option_or made at_commit ≡ Some r → IsShortOn shape g txn r) [
        | Some x ↦ λ made found. short_at_make-named shape g txn.calls r (made ∙ found)
        | None ↦ λ _ found. ltb-true _ _ (find-passes (λ rank. nat_lt shape.blocks (blocks_used_on shape g rank + blocks_needed_on shape g txn.calls rank)) _ r found)
      ] refl
    ] is

some_of : (p q : Option ℕ) → IsSome q → IsSome (option_or p q)
some_of None q there = there
some_of (Some x) q there = refl

pub short_full : ShortTransactionIsFull
unfolding full_rank
short_full shape g txn rank commits writes in_range short =
    let test = λ (r : ℕ). nat_lt shape.blocks (blocks_used_on shape g r + blocks_needed_on shape g txn.calls r) in
    let at_commit : IsSome (short_at_commit shape g txn.calls) = find-in_range test 0 shape.ranks rank (omega arith) (omega arith) (lt-ltb _ _ short) in
    let goes_on = or_from txn.aborts (not (is_writing txn)) (not-true _ commits) (not_from_true _ writes) in
    subst IsSome (sym (cond-false (txn.aborts || not (is_writing txn)) None _ goes_on)) (some_of (short_at_make shape g [] (makes shape g txn.calls)) (short_at_commit shape g txn.calls) at_commit)
