-- The blocks that an empty graph uses: those that are reserved.
use Rattle.std.proofs.Common.{◌≡◌, ℕ, zero, suc, ◌+◌, ◌-◌, ◌*◌, ◌/◌, ◌<◌, ◌≤◌, Bool, true, false, List, [], ◌++◌, map, if◌then◌else◌, refl, sym, ap, subst, ◌∙◌, arith}
use Rattle.std.specs.Prelude.{◌==◌, nat_lt, max}
use Rattle.std.specs.List.{sum_by, range_with_len}
use Rattle.std.proofs.lemmas.List.{append-nil}
use Rattle.std.proofs.lemmas.List.Sums.{sum_by-cons}
use native.Mathlib.Nat.{div-eq_of_lt}
use Rattle.rma_layout.specs.Shape.{Shape, reserved_blocks}
use Rattle.rma_layout.specs.Ranges.{IsInRange}
use Rattle.graph_model.specs.Graph.{empty_graph}
use Rattle.graph_model.specs.Sizes.{blocks_of_words}
use Rattle.graph_model.specs.WellFormed.{IsWellFormed}
use Rattle.graph_model.specs.Capacity.{Object, words_of_reserved, blocks_of_object, blocks_used_on}
use Rattle.graph_model.specs.Capacity.Object.{Reserved}
use Rattle.map_graph.specs.Plain.{Plain}
use Rattle.plain_graph.specs.declared.rooms.Rooms.{Rooms}
use Rattle.plain_graph.specs.Rooms.{taken_on}
use Rattle.plain_graph.specs.Used.{AreUsed, IsKept}

no_words : (shape : Shape) (rank block : ℕ) → words_of_reserved shape empty_graph rank block ≡ 0
no_words shape rank block = pick (block == 0) (rank == 0) (nat_lt shape.buckets block)
  where
    pick : (first front slot : Bool) → (if first then (if front then 0 else 0) else (if slot then 0 else 2 * 0)) ≡ 0
    pick true true slot = refl
    pick true false slot = refl
    pick false front true = refl
    pick false front false = refl

one_block : (shape : Shape) → 8 ≤ shape.words → blocks_of_words shape 0 ≡ 1
one_block shape least =
    let none : (0 + (shape.words - 1 - 1)) / (shape.words - 1) ≡ 0 = div-eq_of_lt (omega (arith, least)) in
    ap (max 1) none

reserved_each : (shape : Shape) (rank first n : ℕ) → 8 ≤ shape.words → sum_by (blocks_of_object shape empty_graph rank) (map Reserved (range_with_len first n)) ≡ n
reserved_each shape rank first zero least = refl
reserved_each shape rank first (suc n) least =
    omega (
      arith,
      sum_by-cons (blocks_of_object shape empty_graph rank) (Reserved first) (map Reserved (range_with_len (first + 1) n)),
      ap (blocks_of_words shape) (no_words shape rank first) ∙ one_block shape least,
      reserved_each shape rank (first + 1) n least,
    )

used_first : (shape : Shape) (rank : ℕ) → 8 ≤ shape.words → blocks_used_on shape empty_graph rank ≡ reserved_blocks shape
used_first shape rank least =
    let first : List Object = map Reserved (range_with_len 0 (reserved_blocks shape)) in
    let none : List Object = [] in
    ap (sum_by (blocks_of_object shape empty_graph rank)) (append-nil (first ++ none) ∙ append-nil first)
    ∙ reserved_each shape rank 0 (reserved_blocks shape) least

pub empty_kept : (shape : Shape) (plain : Plain) (used : Rooms) → IsInRange shape → plain.shape ≡ shape → plain.graph ≡ empty_graph → IsWellFormed plain.graph
    → ((rank : ℕ) → rank < 64 → taken_on used rank ≡ reserved_blocks shape) → IsKept plain used
empty_kept shape plain used range same empty well counts = record {
  well_formed = well;
  counted = subst (λ s. AreUsed s plain.graph used) (sym same) (subst (λ h. AreUsed shape h used) (sym empty)
      (λ rank below. counts rank (omega (arith, below, range.ranks.1)) ∙ sym (used_first shape rank range.words.0)));
}
