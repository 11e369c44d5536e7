-- Objects are opened one after the other.
use Rattle.std.proofs.Common.{◌≡◌, ◌<◌, ◌≤◌, ◌||◌, Bool, true, false, cond, List, [], ◌∷◌, ◌⊎◌, inl, inr, refl, sym, ap, ◌∙◌, arith, Some, None}
use Rattle.std.specs.Prelude.{is_some}
use Rattle.rma_layout.specs.Placement.{Place, same_place}
use Rattle.object_words.specs.Blocks.{one_if}
use Rattle.window_rule.specs.View.{View, Dirt, Marked}
use Rattle.window_rule.specs.Commit.{flagged}
use Rattle.window_rule.specs.Dirty.{dirt_of}
use Rattle.window_rule.specs.Locks.{hold_of}
use Rattle.window_rule.specs.Partition.{times}
use Rattle.window_rule.specs.Stamping.{MayStamp, stamped, toggled, toggled_from, without_opened}
use Rattle.window_rule.specs.StampsHold.{opened_of}
use Rattle.window_rule.proofs.LockLemmas.{place_cases, same_place-false, same_place-refl}
use Rattle.window_rule.proofs.StampSteps.{opened-without_other, opened-without_same}
use Rattle.object_txn.specs.declared.plan.Plan.{Plan}
use Rattle.object_txn.specs.Plans.{AreOpened, AreToClose, OnlyOpened, objects_in}

pub opened-none : (all : List Plan) (opened : List (Place × Bool)) → opened ≡ [] → AreOpened all all opened
opened-none all opened none = record {
  some = λ object. omega arith;
  done = λ object some left. absurd (omega (arith, some, left));
  others = λ object _. ap (λ (o : List (Place × Bool)). opened_of o object) none;
}

module _ (all more : List Plan) (plan : Plan) (opened : List (Place × Bool)) (was : AreOpened all (plan ∷ more) opened) where
  here : one_if (same_place plan.at plan.at) ≡ 1
  here = ap one_if (same_place-refl plan.at)

  pub closed_before : opened_of opened plan.at ≡ None
  closed_before = was.others plan.at (inr (omega (arith, here)))

  toggled_is : toggled opened plan.at ≡ (plan.at, false) ∷ opened
  toggled_is = ap (λ o. toggled_from o opened plan.at) closed_before

  pub opened-more : ((object : Place) → times object (objects_in all) ≤ 1) → (now : List (Place × Bool)) → now ≡ toggled opened plan.at → AreOpened all more now
  opened-more once now is = record {
    some = λ object. omega (arith, was.some object);
    done = λ object some left. ap (λ (o : List (Place × Bool)). opened_of o object) (is ∙ toggled_is) ∙ elim (place_cases object plan.at) [
      | inl same ↦ ap (λ (p : Place). cond (same_place plan.at p) (Some false) (opened_of opened p)) same
          ∙ ap (λ b. cond b (Some false) (opened_of opened plan.at)) (same_place-refl plan.at)
      | inr differ ↦
          let gone : one_if (same_place plan.at object) ≡ 0 = ap one_if (same_place-false plan.at object (λ e. differ (sym e))) in
          ap (λ b. cond b (Some false) (opened_of opened object)) (same_place-false plan.at object (λ e. differ (sym e)))
          ∙ was.done object some (omega (arith, gone, left))
    ];
    others = λ object which. ap (λ (o : List (Place × Bool)). opened_of o object) (is ∙ toggled_is) ∙ elim (place_cases object plan.at) [
      | inl same ↦ absurd (never object same which)
      | inr differ ↦
          ap (λ b. cond b (Some false) (opened_of opened object)) (same_place-false plan.at object (λ e. differ (sym e)))
          ∙ was.others object (still object which)
    ];
  }
    where
      never : (object : Place) → object ≡ plan.at → (times object (objects_in all) ≡ 0) ⊎ (0 < times object (objects_in more)) → ⊥
      never object same (inl none) = let this : one_if (same_place plan.at object) ≡ 1 = ap (λ p. one_if (same_place plan.at p)) same ∙ here in
          omega (arith, none, this, was.some object)
      never object same (inr left) = let this : one_if (same_place plan.at object) ≡ 1 = ap (λ p. one_if (same_place plan.at p)) same ∙ here in
          omega (arith, left, this, was.some object, once object)

      still : (object : Place) → (times object (objects_in all) ≡ 0) ⊎ (0 < times object (objects_in more))
          → (times object (objects_in all) ≡ 0) ⊎ (0 < times object (objects_in (plan ∷ more)))
      still object (inl none) = inl none
      still object (inr left) = inr (omega (arith, left))

  pub may_open : {N : Type 0} (first view : View N) → OnlyOpened first view → view.stamps.opened ≡ opened → hold_of first.locks plan.at ≡ Some Marked → first.dirty ≡ [] → MayStamp view plan.at
  may_open first view only is marked clean = record {
    marked = ap (λ v. hold_of v.locks plan.at) only ∙ marked;
    clean = ap (λ v. dirt_of v.dirty plan.at) only ∙ ap (λ (d : List Dirt). dirt_of d plan.at) clean;
    committed = λ some. cc (sym (ap (λ (o : List (Place × Bool)). opened_of o plan.at) is ∙ closed_before) ∙ some);
  }

pub only_opened : {N : Type 0} (first before after : View N) (object : Place) → OnlyOpened first before → after ≡ stamped object before → OnlyOpened first after
only_opened {N} first before after object only is =
    is ∙ (ap (λ (v : View N). record v { stamps = record v.stamps { opened = toggled before.stamps.opened object } }) only
    ∙ ap (λ (v : View N). record first { stamps = record first.stamps { opened = v.stamps.opened } }) (sym is))

-- Objects are closed one after the other.
module _ (more : List Plan) (plan : Plan) (opened : List (Place × Bool)) (was : AreToClose (plan ∷ more) opened) where
  is_open : opened_of opened plan.at ≡ Some true
  is_open = let at_one : one_if (same_place plan.at plan.at) ≡ 1 = ap one_if (same_place-refl plan.at) in was.left_open plan.at (omega (arith, at_one))

  pub may_close : {N : Type 0} (first view : View N) → OnlyOpened first view → view.stamps.opened ≡ opened → hold_of first.locks plan.at ≡ Some Marked
      → first.dirty ≡ [] → MayStamp view plan.at
  may_close first view only is marked clean = record {
    marked = ap (λ v. hold_of v.locks plan.at) only ∙ marked;
    clean = ap (λ v. dirt_of v.dirty plan.at) only ∙ ap (λ (d : List Dirt). dirt_of d plan.at) clean;
    committed = λ some. cc (sym is_open ∙ (sym (ap (λ (o : List (Place × Bool)). opened_of o plan.at) is) ∙ some));
  }

  pub to_close-less : ((object : Place) → times object (objects_in (plan ∷ more)) ≤ 1) → (now : List (Place × Bool)) → now ≡ toggled opened plan.at → AreToClose more now
  to_close-less once now is = record {
    left_open = λ object left. found object
        ∙ (opened-without_other opened plan.at object (λ same. absurd (omega (arith, left, once object, one_there object same)))
        ∙ was.left_open object (omega (arith, left)));
    others = λ object none. found object ∙ elim (place_cases object plan.at) [
      | inl same ↦ ap (opened_of (without_opened opened plan.at)) same ∙ opened-without_same opened plan.at
      | inr differ ↦
          let gone : one_if (same_place plan.at object) ≡ 0 = ap one_if (same_place-false plan.at object (λ e. differ (sym e))) in
          opened-without_other opened plan.at object differ ∙ was.others object (omega (arith, gone, none))
    ];
  }
    where
      found : (object : Place) → opened_of now object ≡ opened_of (without_opened opened plan.at) object
      found object = ap (λ (o : List (Place × Bool)). opened_of o object) (is ∙ ap (λ f. toggled_from f opened plan.at) is_open)

      one_there : (object : Place) → object ≡ plan.at → one_if (same_place plan.at object) ≡ 1
      one_there object same = ap (λ p. one_if (same_place plan.at p)) same ∙ ap one_if (same_place-refl plan.at)

-- where none is left, none is open
pub none_open : (opened : List (Place × Bool)) → AreToClose [] opened → opened ≡ []
none_open [] was = refl
none_open (one ∷ more) was =
    let here : opened_of (one ∷ more) one.0 ≡ Some one.1 = ap (λ b. cond b (Some one.1) (opened_of more one.0)) (same_place-refl one.0) in
    cc (sym here ∙ was.others one.0 refl)

-- what is open once an entry was made
flagged_none : (dirty : List Dirt) (opened : List (Place × Bool)) (object : Place) → opened_of opened object ≡ None → opened_of (flagged dirty opened) object ≡ None
flagged_none dirty [] object none = refl
flagged_none dirty (one ∷ more) object none = by_cases (same_place one.0 object) refl (λ h. flagged_none dirty more object h) none
  where
    by_cases : (b : Bool) → same_place one.0 object ≡ b → (opened_of more object ≡ None → opened_of (flagged dirty more) object ≡ None) → cond b (Some one.1) (opened_of more object) ≡ None
        → cond (same_place one.0 object) (Some (one.1 || is_some (dirt_of dirty one.0))) (opened_of (flagged dirty more) object) ≡ None
    by_cases true e rest h = cc h
    by_cases false e rest h = ap (λ b. cond b (Some (one.1 || is_some (dirt_of dirty one.0))) (opened_of (flagged dirty more) object)) e ∙ rest h

flagged_some : (dirty : List Dirt) (opened : List (Place × Bool)) (object : Place) → opened_of opened object ≡ Some false → is_some (dirt_of dirty object) ≡ true
    → opened_of (flagged dirty opened) object ≡ Some true
flagged_some dirty [] object was dirt = cc was
flagged_some dirty (one ∷ more) object was dirt = elim (place_cases one.0 object) [
  | inl same ↦
      let here = ap (λ p. same_place p object) same ∙ same_place-refl object in
      let flag : Some one.1 ≡ Some false = sym (ap (λ b. cond b (Some one.1) (opened_of more object)) here) ∙ was in
      ap (λ b. cond b (Some (one.1 || is_some (dirt_of dirty one.0))) (opened_of (flagged dirty more) object)) here
      ∙ (ap (λ p. Some (one.1 || is_some (dirt_of dirty p))) same
      ∙ (ap (λ b. Some (one.1 || b)) dirt ∙ ap (λ b. Some (b || true)) (some_flag one.1 false flag)))
  | inr differ ↦
      ap (λ b. cond b (Some (one.1 || is_some (dirt_of dirty one.0))) (opened_of (flagged dirty more) object)) (same_place-false one.0 object differ)
      ∙ flagged_some dirty more object (sym (ap (λ b. cond b (Some one.1) (opened_of more object)) (same_place-false one.0 object differ)) ∙ was) dirt
]
  where
    some_flag : (one other : Bool) → Some one ≡ Some other → one ≡ other
    some_flag one other e = cc e

-- an entry made with all of these objects written leaves them to close
pub to_close : (plans : List Plan) (dirty : List Dirt) (opened now : List (Place × Bool)) → AreOpened plans [] opened → now ≡ flagged dirty opened
    → ((object : Place) → 0 < times object (objects_in plans) → is_some (dirt_of dirty object) ≡ true) → AreToClose plans now
to_close plans dirty opened now were is dirt = record {
  left_open = λ object some. ap (λ (o : List (Place × Bool)). opened_of o object) is
      ∙ flagged_some dirty opened object (were.done object some refl) (dirt object some);
  others = λ object none. ap (λ (o : List (Place × Bool)). opened_of o object) is ∙ flagged_none dirty opened object (were.others object (inl none));
}
