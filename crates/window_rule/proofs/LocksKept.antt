-- The part on locks: which steps keep it.
use Rattle.std.proofs.Common.{◌≡◌, ◌≢◌, ℕ, ◌+◌, cond, List, map, set, sym, ap, ◌∙◌, subst, inl, inr, arith, Option, Some}
use mathlib.Core.Option.{some}
use lib.ListN.{get_elem?}
use lib.Seq.{map-set}
use Rattle.atomic_table.proofs.Lists.{at_map, at_set}
use Rattle.rma_layout.specs.declared.word.Word.TheVariants.{Lock}
use Rattle.rma_layout.specs.Shape.{Shape}
use Rattle.rma_layout.specs.Placement.{Place, IsBlock, same_place}
use Rattle.window_rule.specs.View.{View, Hold, Locks}
use Rattle.window_rule.specs.Locks.{hold_of, in_all, shares_of, lasting_of, marks_of}
use Rattle.window_rule.specs.LocksHold.{IsCounted, LocksHold}
use Rattle.window_rule.specs.Words.{Words, with_word}
use Rattle.window_rule.specs.Words.{locks_in}
use Rattle.window_rule.specs.Lawful.{locks_of}
use Rattle.window_rule.proofs.Sums.{sum_by-set_at}
use Rattle.window_rule.proofs.LockLemmas.{place_cases, same_place-refl, same_place-false}

-- what a count over all views becomes when one view's lock on the object does
pub in_all-set : (count : Option Hold → ℕ) (object : Place) (all : List Locks) (id : ℕ)
    (old new : Locks) → get_elem? all id ≡ some old
    → in_all count object (set all id new) + count
    (hold_of old object) ≡ in_all count object all + count (hold_of new object)
in_all-set count object all id old new there = sum_by-set_at
    (λ locks. count (hold_of locks object)) all id old new there

in_all-set_other : (count : Option Hold → ℕ) (object : Place) (all : List Locks) (id : ℕ)
    (old new : Locks) → get_elem? all id ≡ some old
    → hold_of new object ≡ hold_of old object
    → in_all count object (set all id new) ≡ in_all count object all
in_all-set_other count object all id old new there same =
    let counted : count (hold_of new object) ≡ count (hold_of old object) = ap count same in
    omega (arith, in_all-set count object all id old new there)

-- whatever the counts of an object are once one view's lock on it has gone from one hold to
-- another, this word has them
abbrev pub Recounts : Place → List Locks → ℕ → Option Hold → Option Hold → Type 0
Recounts object all word before after = (shares lasting marks : ℕ)
    → shares + shares_of before ≡ in_all shares_of object all + shares_of after
    → lasting + lasting_of before ≡ in_all lasting_of object all + lasting_of after
    → marks + marks_of before ≡ in_all marks_of object all + marks_of after
    → IsCounted word shares lasting marks

-- an object that the step is not on
counted_elsewhere : (word after : ℕ) (all : List Locks) (id : ℕ) (old new : Locks) (object : Place)
    → get_elem? all id ≡ some old
    → after ≡ word → hold_of new object ≡ hold_of old object
    → IsCounted word (in_all shares_of object all) (in_all lasting_of object all)
    (in_all marks_of object all)
    → IsCounted after (in_all shares_of object (set all id new))
    (in_all lasting_of object (set all id new)) (in_all marks_of object (set all id new))
counted_elsewhere word after all id old new object there same held h =
    let shares = in_all-set_other shares_of object all id old new there held in
    let lasting = in_all-set_other lasting_of object all id old new there held in
    let marks = in_all-set_other marks_of object all id old new there held in
    record {
      word_is = omega (arith, h.word_is);
      one_mark = omega (arith, h.one_mark);
      apart = λ one. lasting ∙ h.apart (sym marks ∙ one);
    }

-- it is kept by a step on the lock word of an object, that changes one view's lock on this object
-- and counts it
module _ {N : Type 0} (shape : Shape) (words : Words) (object : Place) (new : ℕ)
    (views : List (View N)) (id : ℕ) (before after : View N)
    (block : IsBlock shape object) (there : get_elem? views id ≡ some before)
    (others : (other : Place) → other ≢ object
    → hold_of after.locks other ≡ hold_of before.locks other)
    (recount : Recounts object (map locks_of views) new (hold_of before.locks object)
    (hold_of after.locks object))
    (h : LocksHold shape (locks_in words) (map locks_of views)) where
  abbrev all_after : List Locks
  all_after = map locks_of (set views id after)

  counted_at : (other : Place) → IsBlock shape other
      → IsCounted (locks_in (with_word words (Lock object) new) other)
      (in_all shares_of other all_after) (in_all lasting_of other all_after)
      (in_all marks_of other all_after)
  counted_at other is_block =
      let all = map locks_of views in
      let old = at_map locks_of views id before there in
      let Counted : ℕ → Place → Type 0 = λ word p.
      IsCounted word (in_all shares_of p (set all id after.locks))
      (in_all lasting_of p (set all id after.locks))
      (in_all marks_of p (set all id after.locks)) in
      subst (λ locks. IsCounted (locks_in (with_word words (Lock object) new) other)
      (in_all shares_of other locks) (in_all lasting_of other locks)
      (in_all marks_of other locks))
      (sym (map-set locks_of views id after)) (elim (place_cases other object) [
        | inl same ↦
            subst (Counted (cond (same_place other object) new (words (Lock other)))) (sym same)
            (subst (λ b. Counted (cond b new (words (Lock other))) object)
            (sym (ap (λ p. same_place p object) same ∙ same_place-refl object))
            (recount _ _ _
            (in_all-set shares_of object all id before.locks after.locks old)
            (in_all-set lasting_of object all id before.locks after.locks old)
            (in_all-set marks_of object all id before.locks after.locks old)))
        | inr ne ↦
            counted_elsewhere (words (Lock other)) _ all id before.locks after.locks other old
            (ap (λ b. cond b new (words (Lock other))) (same_place-false other object ne))
            (others other ne) (h.counted other is_block)
      ])

  blocks_after : (j : ℕ) (locks : Locks) (other : Place) (hold : Hold)
      → get_elem? all_after j ≡ some locks
      → hold_of locks other ≡ Some hold → IsBlock shape other
  blocks_after j locks other hold at is =
      elim (at_set (map locks_of views) id j after.locks locks
      (sym (ap (λ l. get_elem? l j) (map-set locks_of views id after)) ∙ at)) [
        | inl here ↦ elim (place_cases other object) [
          | inl same ↦ subst (IsBlock shape) (sym same) block
          | inr ne ↦
              h.of_blocks id before.locks other hold (at_map locks_of views id before there)
              (sym (others other ne) ∙ (ap (λ l. hold_of l other) here.1 ∙ is))
        ]
        | inr else ↦ h.of_blocks j locks other hold else.1 is
      ]

  pub LocksHold-at : LocksHold shape (locks_in (with_word words (Lock object) new)) all_after
  LocksHold-at = record { counted = counted_at; of_blocks = blocks_after }
