-- Free lists under walks and exchanges.
use Rattle.std.proofs.Common.{◌≡◌, ◌≢◌, ℕ, zero, suc, ◌+◌, ◌≤◌, ◌<◌, ◌^◌, cond, List, [], ◌∷◌, length, refl, sym, ap, ◌∙◌, arith, eq-eqb, ne_eqb}
use Rattle.std.specs.List.{AllByRecursion}
use Rattle.rma_layout.specs.Placement.{Place}
use Rattle.free_list.specs.Heads.{first_of, tag_of, next_head}
use Rattle.free_list.specs.Lists.{AreThreaded, IsFreeList, behind, number_to, walked_list}
use Rattle.free_list.specs.Exchanges.{Exchange, Headed, Pop, Push, after_exchange, after_exchanges}

at_place : (rank first : ℕ) (block : Place) → block.rank ≡ rank → first ≡ block.block
    → (let here : Place = record { rank = rank; block = first } in here ≡ block)
at_place rank first block r b = λ k. record { rank = sym r k; block = b k }

pub list_is_walked : (nexts : Place → ℕ) (rank most first : ℕ) (list : List Place)
    → first ≡ number_to list → AreThreaded nexts list
    → AllByRecursion (λ (block : Place). block.rank ≡ rank) list
    → AllByRecursion (λ (block : Place). block.block ≢ 0) list
    → length list ≤ most → walked_list nexts rank most first ≡ list
list_is_walked nexts rank zero first [] is h on some few = refl
list_is_walked nexts rank zero first (block ∷ more) is h on some few = absurd (omega arith)
list_is_walked nexts rank (suc n) first [] is h on some few =
    let here : Place = record { rank = rank; block = first } in
    ap (λ b. cond b [] (here ∷ walked_list nexts rank n (nexts here))) (eq-eqb first 0 is)
list_is_walked nexts rank (suc n) first (block ∷ more) is h on some few =
    let here : Place = record { rank = rank; block = first } in
    let same : here ≡ block = at_place rank first block on.0 is in
    let rest = list_is_walked nexts rank n (nexts here) more (ap nexts same ∙ h.0) h.1 on.1 some.1
    (omega arith) in
    ap (λ b. cond b [] (here ∷ walked_list nexts rank n (nexts here)))
    (ne_eqb first 0 (λ none. some.0 (sym is ∙ none)))
    ∙ (λ k. same k ∷ rest k)

first_after : (head block : ℕ) → block < 2 ^ 20 → first_of (next_head head block) ≡ block
first_after head block small = omega arith

pub pop_leaves : (heads later : ℕ → ℕ) (nexts : Place → ℕ) (rank : ℕ) (block : Place)
    (more : List Place) → IsFreeList heads nexts rank (block ∷ more) → nexts block < 2 ^ 20
    → later rank ≡ next_head (heads rank) (nexts block) → IsFreeList later nexts rank more
pop_leaves heads later nexts rank block more h small is = record {
  first = ap first_of is ∙ (first_after (heads rank) (nexts block) small ∙ h.threaded.0);
  threaded = h.threaded.1;
  one_rank = h.one_rank.1;
}

pub push_first : (heads later : ℕ → ℕ) (nexts : Place → ℕ) (block : Place) (list : List Place)
    → IsFreeList heads nexts block.rank list → nexts block ≡ first_of (heads block.rank)
    → block.block < 2 ^ 20 → later block.rank ≡ next_head (heads block.rank) block.block
    → IsFreeList later nexts block.rank (block ∷ list)
push_first heads later nexts block list h leads small is = record {
  first = ap first_of is ∙ first_after (heads block.rank) block.block small;
  threaded = (leads ∙ h.first, h.threaded);
  one_rank = (refl, h.one_rank);
}

tag_after : (head block : ℕ) → tag_of head + 1 ≤ tag_of (next_head head block)
tag_after head block = omega arith

rises_once : (exchange : Exchange) (one : Headed)
    → tag_of one.head + 1 ≤ tag_of (after_exchange exchange one).head
rises_once Pop one = tag_after one.head (number_to (behind one.list))
rises_once (Push block) one = tag_after one.head block.block

pub tags_rise : (done : List Exchange) (one : Headed)
    → tag_of one.head + length done ≤ tag_of (after_exchanges done one).head
tags_rise [] one = omega arith
tags_rise (exchange ∷ more) one =
    omega (arith, rises_once exchange one, tags_rise more (after_exchange exchange one))

pub found_again : (done : List Exchange) (one : Headed)
    → (after_exchanges done one).head ≡ one.head → done ≡ []
found_again [] one same = refl
found_again (exchange ∷ more) one same =
    let tag = ap tag_of same in absurd (omega (arith, tags_rise (exchange ∷ more) one, tag))
