-- The part on the gate: which steps keep it, and what it says of its word.
use Rattle.std.proofs.Common.{◌≡◌, ℕ, ◌+◌, ◌≤◌, List, [], ◌∷◌, map, length, set, refl, sym, ap, ◌∙◌, subst, arith}
use Rattle.std.specs.List.{sum_by}
use Rattle.std.proofs.lemmas.List.Sums.{sum_by-cons}
use mathlib.Core.Option.{some}
use lib.ListN.{get_elem?}
use lib.Seq.{map-set}
use Rattle.atomic_table.proofs.Lists.{at_map}
use Rattle.object_words.specs.Entries.{Entry}
use Rattle.rma_layout.specs.declared.word.Word.TheVariants.{Commit}
use Rattle.rma_layout.specs.Shape.{Shape}
use Rattle.window_rule.specs.View.{View, GatePlace, Outside, AsWriter, AsWhole, WriterReturning, WholeReturning, spent}
use Rattle.window_rule.specs.Words.{Words}
use Rattle.window_rule.specs.RightsHold.{Stake, stake_of, IsAlone}
use Rattle.window_rule.specs.GateHolds.{GateHolds, IsGateCounted, writers_of, wholes_of, lasting_writers_of, lasting_wholes_of}
use Rattle.window_rule.specs.Lawful.{IsLawful}
use Rattle.window_rule.proofs.Sums.{sum_by-set_at, sum_by-mono, sum_by-of_map, sum_of_one}
use Rattle.window_rule.proofs.RightsKept.{rights_are_counted, others_are_spent}

-- whatever the counts are once one view's place has become another, this word has them
abbrev pub GateRecounts : List GatePlace → ℕ → GatePlace → GatePlace → Type 0
GateRecounts all word before after = (writers wholes lasting_writers lasting_wholes : ℕ)
    → writers + writers_of before ≡ sum_by writers_of all + writers_of after
    → wholes + wholes_of before ≡ sum_by wholes_of all + wholes_of after
    → lasting_writers + lasting_writers_of before ≡ sum_by lasting_writers_of all
    + lasting_writers_of after
    → lasting_wholes + lasting_wholes_of before ≡ sum_by lasting_wholes_of all
    + lasting_wholes_of after
    → IsGateCounted word writers wholes lasting_writers lasting_wholes

abbrev pub gate_of : {N : Type 0} → View N → GatePlace
gate_of view = view.gate

-- it is kept by a step on the gate word that changes one view's place and counts it
pub GateHolds-at : {N : Type 0} (new : ℕ) (views : List (View N)) (id : ℕ) (before after : View N)
    → get_elem? views id ≡ some before
    → GateRecounts (map gate_of views) new before.gate after.gate
    → GateHolds new (map gate_of (set views id after))
GateHolds-at {N} new views id before after there recount =
    let old = at_map gate_of views id before there in
    subst (GateHolds new) (sym (map-set gate_of views id after)) (recount _ _ _ _
    (sum_by-set_at writers_of (map gate_of views) id before.gate after.gate old)
    (sum_by-set_at wholes_of (map gate_of views) id before.gate after.gate old)
    (sum_by-set_at lasting_writers_of (map gate_of views) id before.gate after.gate old)
    (sum_by-set_at lasting_wholes_of (map gate_of views) id before.gate after.gate old))

places_of : GatePlace → ℕ
places_of place = writers_of place + wholes_of place

one_place : (place : GatePlace) → places_of place ≤ 1
unfolding places_of
one_place Outside = omega arith
one_place AsWriter = omega arith
one_place AsWhole = omega arith
one_place WriterReturning = omega arith
one_place WholeReturning = omega arith

places_by_rights : {N : Type 0} (view : View N) (rights : List ℕ) → view.rights ≡ rights
    → (rights ≡ [] → view ≡ spent)
    → places_of view.gate ≤ length rights
unfolding places_of
places_by_rights {N} view [] e h =
    let nothing : places_of view.gate ≡ 0 = ap (λ (v : View N). places_of v.gate) (h refl) in
    omega arith
places_by_rights {N} view (right ∷ more) e h = omega (arith, one_place view.gate)

lasting_writer : (place : GatePlace) → lasting_writers_of place ≤ writers_of place
lasting_writer Outside = omega arith
lasting_writer AsWriter = omega arith
lasting_writer AsWhole = omega arith
lasting_writer WriterReturning = omega arith
lasting_writer WholeReturning = omega arith

lasting_whole : (place : GatePlace) → lasting_wholes_of place ≤ wholes_of place
lasting_whole Outside = omega arith
lasting_whole AsWriter = omega arith
lasting_whole AsWhole = omega arith
lasting_whole WriterReturning = omega arith
lasting_whole WholeReturning = omega arith

-- places that are to last are places
pub lasting_writers-le : (all : List GatePlace)
    → sum_by lasting_writers_of all ≤ sum_by writers_of all
lasting_writers-le all = sum_by-mono lasting_writers_of writers_of all
    (λ j place there. lasting_writer place)

pub lasting_wholes-le : (all : List GatePlace) → sum_by lasting_wholes_of all ≤ sum_by wholes_of all
lasting_wholes-le all = sum_by-mono lasting_wholes_of wholes_of all
    (λ j place there. lasting_whole place)

sum_of_both : (all : List GatePlace)
    → sum_by (λ place. writers_of place + wholes_of place) all ≡ sum_by writers_of all
    + sum_by wholes_of all
sum_of_both [] = refl
sum_of_both (place ∷ more) =
    omega (
      arith,
      sum_of_both more,
      sum_by-cons (λ p. writers_of p + wholes_of p) place more,
      sum_by-cons writers_of place more,
      sum_by-cons wholes_of place more,
    )

module _ {N : Type 0} (fits : Shape → Entry N → Type 0) (shape : Shape) (words : Words)
    (views : List (View N)) (h : IsLawful fits shape words views) where
  -- a view has no place where it has no right, so there are no more places than ranks
  pub places-le-ranks : sum_by writers_of (map gate_of views) + sum_by wholes_of
      (map gate_of views) ≤ shape.ranks
  unfolding places_of
  places-le-ranks =
      omega (
        arith,
        sum_by-mono (λ (v : View N). places_of v.gate) (λ (v : View N). length v.rights) views
            (λ j v there. places_by_rights v v.rights refl (h.holds.spent j v there)),
        sum_of_both (map gate_of views),
        sum_by-of_map gate_of (λ place. writers_of place + wholes_of place) views,
        sum_by-of_map stake_of (λ (stake : Stake). length stake.rights) views,
        rights_are_counted shape (words Commit) (map stake_of views) h.holds.rights,
      )

  -- beside a view that is alone no other has a place
  pub alone_places : (id : ℕ) (view : View N) (count : GatePlace → ℕ)
      → get_elem? views id ≡ some view → IsAlone shape view → count Outside ≡ 0
      → sum_by count (map gate_of views) ≡ count view.gate
  alone_places id view count there alone zero_outside =
      sum_by-of_map gate_of count views
      ∙ sum_of_one (λ (v : View N). count v.gate) views id view there
      (λ j other ne found.
      let no_right = others_are_spent shape
      (words Commit) views id j view other h.holds.rights there alone ne found in
      ap (λ (v : View N). count v.gate) (h.holds.spent j other found no_right) ∙ zero_outside)
