-- What one view's locks and places rule out in other views.
use Rattle.std.proofs.Common.{◌≡◌, ◌≢◌, ℕ, List, ap, arith, Option, Some, None}
use mathlib.Core.Option.{some}
use lib.ListN.{get_elem?}
use Rattle.rma_layout.specs.Shape.{Shape}
use Rattle.rma_layout.specs.Placement.{Place, IsBlock}
use Rattle.window_rule.specs.View.{Hold, Shared, Marked, Returning, Locks, GatePlace, AsWriter, AsWhole}
use Rattle.window_rule.specs.Locks.{hold_of, in_all, lasting_of, marks_of}
use Rattle.window_rule.specs.LocksHold.{LocksHold}
use Rattle.window_rule.specs.GateHolds.{GateHolds, lasting_writers_of, lasting_wholes_of}
use Rattle.window_rule.specs.ContentsHold.{Lasts}
use Rattle.window_rule.proofs.Sums.{one_in_sum, two_in_sum}

no_lock : (hold : Option Hold) → lasting_of hold ≡ 0 → marks_of hold ≡ 0 → ¬ Lasts hold
no_lock None l m h = h
no_lock (Some Shared) l m h = omega arith
no_lock (Some Marked) l m h = omega arith
no_lock (Some Returning) l m h = h

-- where a view has an object marked, no other has a lock on it that lasts
pub mark_excludes : (shape : Shape) (word_of : Place → ℕ) (all : List Locks) (id j : ℕ)
    (mine theirs : Locks) (object : Place)
    → LocksHold shape word_of all → IsBlock shape object → get_elem? all id ≡ some mine
    → get_elem? all j ≡ some theirs → j ≢ id
    → hold_of mine object ≡ Some Marked → ¬ Lasts (hold_of theirs object)
mark_excludes shape word_of all id j mine theirs object h block here there ne marked =
    let counted = h.counted object block in
    let mark : marks_of (hold_of mine object) ≡ 1 = ap marks_of marked in
    let marks = two_in_sum
    (λ locks. marks_of (hold_of locks object)) all id j mine theirs ne here there in
    let lasting = one_in_sum (λ locks. lasting_of (hold_of locks object)) all j theirs there in
    let none : in_all lasting_of object all ≡ 0 = counted.apart (omega (arith, counted.one_mark)) in
    no_lock (hold_of theirs object) (omega arith) (omega (arith, counted.one_mark))

-- where a view has a writer's place, no view has a whole one
pub writer_excludes : (word : ℕ) (places : List GatePlace) (id j : ℕ) (theirs : GatePlace)
    → GateHolds word places
    → get_elem? places id ≡ some AsWriter → get_elem? places j ≡ some theirs → theirs ≢ AsWhole
writer_excludes word places id j theirs h here there whole =
    let writer = one_in_sum lasting_writers_of places id AsWriter here in
    let wholes = one_in_sum lasting_wholes_of places j theirs there in
    let one : lasting_wholes_of theirs ≡ 1 = ap lasting_wholes_of whole in
    omega (arith, h.apart (omega arith))
