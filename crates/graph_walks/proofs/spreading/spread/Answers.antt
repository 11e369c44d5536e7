use Rattle.std.proofs.Common.{◌≡◌, ℕ, suc, ◌+◌, ◌*◌, ◌<◌, ◌≤◌, ◌&&◌, List, length, Some, None, true, if◌then◌else◌, sym, ap, subst, ◌∙◌, arith}
use Rattle.std.specs.Prelude.{is_none}
use Rattle.std.proofs.Common.{Vec, Global}
use Rattle.std.specs.List.{range_with_len, list_any, slice_get}
use Rattle.std.specs.Option.{option_or}
use Rattle.graph_walks.specs.Marks.{mark_at}
use Rattle.graph_walks.specs.Naming.{IsNaming}
use Rattle.graph_walks.specs.Steps.{leads, LeadsInto}
use Rattle.graph_walks.proofs.Naming.{IsSpreading, spread-start, spread-more, spread-not, spread-end, fewer, no_more, smaller, no_front, at-has, one_if_some, unnamed}
use Rattle.graph_walks.proofs.Renaming.{range-has, range-rises, range-get}
use Rattle.graph_walks.proofs.Bools.{seen_some, seen_none, from_none}
use Rattle.graph_walks.proofs.spreading.spread.Goals as goal

into : (n : ℕ) (hops : List (ℕ × ℕ)) → ((i t : ℕ) → leads hops i t ≡ true → (i < n) × (t < n)) → LeadsInto hops (range_with_len 0 n)
into n hops within = λ i t led. range-has 0 n t (omega arith) (let inside = (within i t led).1 in omega (arith, inside))

place_is : (n place : ℕ) → place < n → slice_get (range_with_len 0 n) place ≡ Some place
place_is n place below = range-get 0 n place below ∙ (let same : 0 + place ≡ place = omega arith in ap Some same)

pub returns-then-not-mark-clause-more : goal.returns-then-not-mark-clause-more
returns-then-not-mark-clause-more c =
    let n = length c.args.steps.now.ids in
    let up : suc c.args.place ≡ c.args.place + 1 = omega arith in
    let is = place_is n c.args.place c.requires.place in
    subst (λ k. IsNaming c.args.steps.now.hops (range_with_len 0 n) k (mark_at c.mark.new.self)) up
    (spread-not c.args.steps.now.hops (range_with_len 0 n) (range-rises 0 n) c.requires.two_way (into n c.args.steps.now.hops c.len-count.ensures.within) c.args.place c.args.place is
    (at-has (range_with_len 0 n) c.args.place c.args.place is) (mark_at c.args.names.now) c.requires.so_far (seen_some (mark_at c.args.names.now c.args.place) (sym c.mark.ensures.free ∙ c.if-not-mark.true))
    (mark_at c.mark.new.self) c.mark.ensures.marks)

pub loop-next-init : goal.loop-next-init
loop-next-init c =
    let n = length c.args.steps.now.ids in
    record {
      len = c.mark.ensures.len;
      spreads = subst (λ (front : List ℕ). IsSpreading c.args.steps.now.hops c.args.place (mark_at c.args.names.now) (mark_at c.mark.new.self) front) (sym c.in_ok-front.ensures.items)
          (spread-start c.args.steps.now.hops (range_with_len 0 n) c.requires.two_way (into n c.args.steps.now.hops c.len-count.ensures.within) c.args.place (mark_at c.args.names.now) c.args.place (mark_at c.mark.new.self) c.requires.so_far
          (seen_none (mark_at c.args.names.now c.args.place) (sym c.mark.ensures.free ∙ c.if-not-mark.false)) c.mark.ensures.marks);
    }

pub loop-next-preserved : goal.loop-next-preserved
loop-next-preserved c =
    let n = length c.args.steps.now.ids in
    record {
      len = c.in_ok-next_front.ensures.len ∙ c.loop-next.invariant.len;
      spreads = subst (λ (v : Vec ℕ Global). IsSpreading c.args.steps.now.hops c.args.place (mark_at c.args.names.now) (mark_at c.next_front.new.marks) v.items) (sym c.swap.ensures.x_after)
          (spread-more c.args.steps.now.hops (range_with_len 0 n) c.requires.two_way (into n c.args.steps.now.hops c.len-count.ensures.within) c.args.place (mark_at c.args.names.now) (mark_at c.loop-next.names)
          (mark_at c.next_front.new.marks) c.loop-next.front.items c.next_front.new.next.items c.loop-next.invariant.spreads
          (λ j. c.in_ok-next_front.ensures.marks j
          ∙ ap (λ (vs : List ℕ). option_or (mark_at c.loop-next.names j) (if list_any (λ x. leads c.args.steps.now.hops x j) vs then Some c.args.place else None)) c.deref.ensures.value)
          (λ j. c.in_ok-next_front.ensures.next j
          ∙ from_none c.clear.new.self.items j (is_none (mark_at c.loop-next.names j) && list_any (λ x. leads c.args.steps.now.hops x j) c.deref.result.now) c.clear.ensures.items
          ∙ ap (λ (vs : List ℕ). is_none (mark_at c.loop-next.names j) && list_any (λ x. leads c.args.steps.now.hops x j) vs) c.deref.ensures.value));
    }

pub loop-next-smaller : goal.loop-next-smaller
loop-next-smaller c =
    let n = length c.args.steps.now.ids in
    let some : 0 < length c.loop-next.front.items = omega (arith, c.loop-next-test.true, c.len.ensures, c.loop-next.front.ok.0) in
    let marked = λ (j : ℕ).
    c.in_ok-next_front.ensures.marks j
    ∙ ap (λ (vs : List ℕ). option_or (mark_at c.loop-next.names j) (if list_any (λ x. leads c.args.steps.now.hops x j) vs then Some c.args.place else None)) c.deref.ensures.value in
    let fresh = λ (j : ℕ).
    c.in_ok-next_front.ensures.next j
    ∙ from_none c.clear.new.self.items j (is_none (mark_at c.loop-next.names j) && list_any (λ x. leads c.args.steps.now.hops x j) c.deref.result.now) c.clear.ensures.items
    ∙ ap (λ (vs : List ℕ). is_none (mark_at c.loop-next.names j) && list_any (λ x. leads c.args.steps.now.hops x j) vs) c.deref.ensures.value in
    subst (λ (v : Vec ℕ Global). 2 * unnamed (mark_at c.next_front.new.marks) (range_with_len 0 n) + one_if_some v.items < 2 * unnamed (mark_at c.loop-next.names) (range_with_len 0 n) + one_if_some c.loop-next.front.items) (sym c.swap.ensures.x_after)
    (smaller c.loop-next.front.items c.next_front.new.next.items _ _ some
    (fewer c.args.steps.now.hops (range_with_len 0 n) c.requires.two_way (into n c.args.steps.now.hops c.len-count.ensures.within) c.args.place (mark_at c.args.names.now) (mark_at c.loop-next.names)
    (mark_at c.next_front.new.marks) c.loop-next.front.items c.next_front.new.next.items c.loop-next.invariant.spreads marked fresh)
    (no_more c.args.steps.now.hops (range_with_len 0 n) c.requires.two_way (into n c.args.steps.now.hops c.len-count.ensures.within) c.args.place (mark_at c.args.names.now) (mark_at c.loop-next.names)
    (mark_at c.next_front.new.marks) c.loop-next.front.items c.next_front.new.next.items c.loop-next.invariant.spreads marked fresh))

pub returns-clause-more : goal.returns-clause-more
returns-clause-more c =
    let n = length c.args.steps.now.ids in
    let up : suc c.args.place ≡ c.args.place + 1 = omega arith in
    let is = place_is n c.args.place c.requires.place in
    let none : length c.loop-next.front.items ≤ 0 = omega (arith, c.loop-next-test.false, c.len.ensures, c.loop-next.front.ok.0) in
    subst (λ k. IsNaming c.args.steps.now.hops (range_with_len 0 n) k (mark_at c.loop-next.names)) up
    (spread-end c.args.steps.now.hops (range_with_len 0 n) (range-rises 0 n) c.requires.two_way (into n c.args.steps.now.hops c.len-count.ensures.within) c.args.place c.args.place is
    (at-has (range_with_len 0 n) c.args.place c.args.place is) (mark_at c.args.names.now) c.requires.so_far (mark_at c.loop-next.names)
    (subst (λ (front : List ℕ). IsSpreading c.args.steps.now.hops c.args.place (mark_at c.args.names.now) (mark_at c.loop-next.names) front) (no_front c.loop-next.front.items none) c.loop-next.invariant.spreads))
