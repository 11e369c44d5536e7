-- The stamp of an object is raised: the object is opened, or closed.
use Rattle.std.proofs.Common.{◌≡◌, ◌≢◌, ℕ, zero, suc, ◌+◌, ◌*◌, ◌%◌, ◌^◌, ◌<◌, ◌≤◌, Bool, true, false, cond, List, [], ◌∷◌, map, set, get_or, refl, sym, ap, ◌∙◌, subst, inl, inr, arith, Option, Some, None}
use Rattle.std.proofs.lemmas.Bool.{cases_eq}
use mathlib.Core.Option.{some}
use lib.ListN.{get_elem?}
use Rattle.atomic_table.proofs.Lists.{at_map}
use Rattle.object_words.specs.Entries.{Entry, store_after}
use Rattle.rma_layout.specs.declared.word.Word.TheVariants.{Stamp, Commit, Gate}
use Rattle.rma_layout.specs.Shape.{Shape}
use Rattle.rma_layout.specs.Placement.{Place, IsBlock, same_place}
use Rattle.window_rule.specs.View.{View}
use Rattle.window_rule.specs.Words.{Words, with_word, locks_in, data_in, nexts_in, heads_in, stamps_in}
use Rattle.window_rule.specs.Locks.{hold_of}
use Rattle.window_rule.specs.Dirty.{dirt_of}
use Rattle.window_rule.specs.LocksHold.{LocksHold}
use Rattle.window_rule.specs.ContentsHold.{Lasts, AreHeld, holdings_of}
use Rattle.window_rule.specs.StampsHold.{StampsHold, IsOpened, IsOpenState, opened_of, open_state_of, opened_lists}
use Rattle.window_rule.specs.Stamping.{MayStamp, RaisesStamp, stamped, toggled, toggled_from, without_opened}
use Rattle.window_rule.specs.Lawful.{IsLawful, locks_of}
use Rattle.window_rule.specs.Permits.{Moment, Permits}
use Rattle.window_rule.proofs.Sums.{map-set_same}
use Rattle.window_rule.proofs.SpentKept.{SpentHold-live}
use Rattle.window_rule.proofs.LockLemmas.{place_cases, same_place-refl, same_place-false}
use Rattle.window_rule.proofs.ViewsKept.{EachView-set, part_before, part_after, part_other}
use Rattle.window_rule.proofs.Exclusions.{mark_excludes}
use Rattle.window_rule.proofs.DetachKept.{is_none}
use Rattle.window_rule.proofs.Frames.{RightsHold-same, GateHolds-same, HistoryHolds-same, IsPartition-same, DirtHolds-same, OwnBlocksHold-same, CellsHold-same, MemoryHolds-same, RoomHolds-same, NotesHold-same}

abbrev pub Opened : Type 0
Opened = List (Place × Bool)

pub opened-without_same : (opened : Opened) (object : Place)
    → opened_of (without_opened opened object) object ≡ None
opened-without_same [] object = refl
opened-without_same (one ∷ more) object =
    elim (place_cases one.0 object) [
      | inl same ↦
          ap (λ t. opened_of
          (cond t (without_opened more object) (one ∷ without_opened more object)) object)
          (ap (λ p. same_place p object) same ∙ same_place-refl object)
          ∙ opened-without_same more object
      | inr ne ↦
          ap (λ t. opened_of
          (cond t (without_opened more object) (one ∷ without_opened more object)) object)
          (same_place-false one.0 object ne)
          ∙ (ap (λ t. cond t (Some one.1) (opened_of (without_opened more object) object))
          (same_place-false one.0 object ne)
          ∙ opened-without_same more object)
    ]

pub opened-without_other : (opened : Opened) (object other : Place) → other ≢ object
    → opened_of (without_opened opened object) other ≡ opened_of opened other
opened-without_other [] object other ne = refl
opened-without_other (one ∷ more) object other ne =
    elim (place_cases one.0 object) [
      | inl same ↦
          ap (λ t. opened_of
          (cond t (without_opened more object) (one ∷ without_opened more object)) other)
          (ap (λ p. same_place p object) same ∙ same_place-refl object)
          ∙ (opened-without_other more object other ne
          ∙ sym (ap (λ t. cond t (Some one.1) (opened_of more other))
          (same_place-false one.0 other (λ e. ne (sym e ∙ same)))))
      | inr differ ↦
          ap (λ t. opened_of
          (cond t (without_opened more object) (one ∷ without_opened more object)) other)
          (same_place-false one.0 object differ)
          ∙ ap (λ r. cond (same_place one.0 other) (Some one.1) r)
          (opened-without_other more object other ne)
    ]

toggled-other : (found : Option Bool) (opened : Opened) (object other : Place) → other ≢ object
    → opened_of (toggled_from found opened object) other ≡ opened_of opened other
toggled-other None opened object other ne =
    ap (λ t. cond t (Some false) (opened_of opened other))
    (same_place-false object other (λ e. ne (sym e)))
toggled-other (Some written) opened object other ne = opened-without_other opened object other ne

toggled-opens : (opened : Opened) (object : Place) → opened_of opened object ≡ None
    → opened_of (toggled opened object) object ≡ Some false
toggled-opens opened object none =
    ap (λ found. opened_of (toggled_from found opened object) object) none
    ∙ ap (λ t. cond t (Some false) (opened_of opened object)) (same_place-refl object)

toggled-closes : (opened : Opened) (object : Place) (written : Bool)
    → opened_of opened object ≡ Some written → opened_of (toggled opened object) object ≡ None
toggled-closes opened object written found =
    ap (λ f. opened_of (toggled_from f opened object) object) found
    ∙ opened-without_same opened object

-- what is looked up by a view's number is of a view
opened_view : {N : Type 0} (views : List (View N)) (j : ℕ) (object : Place) (written : Bool)
    → opened_of (get_or (opened_lists views) j []) object ≡ Some written
    → (view : View N) × (get_elem? views j ≡ some view)
    × (opened_of view.stamps.opened object ≡ Some written)
opened_view [] j object written e = absurd (cc e)
opened_view (v ∷ vs) zero object written e = (v, refl, e)
opened_view (v ∷ vs) (suc j) object written e = opened_view vs j object written e

opener_is : (commits stamp id : ℕ) (opener : Option ℕ) (written : Bool)
    → IsOpened commits stamp id opener (Some written) → opener ≡ Some id
opener_is commits stamp id opener true h = h.0
opener_is commits stamp id opener false h = h

low_stamp : (commits stamp id : ℕ) (opener : Option ℕ)
    → IsOpened commits stamp id opener (Some true) → stamp < 2 * commits
low_stamp commits stamp id opener h = h.1

module _ {N : Type 0} (fits : Shape → Entry N → Type 0) (shape : Shape) (words : Words)
    (views : List (View N)) (id : ℕ) (before : View N)
    (now : Moment fits shape words views id before) (object : Place) (block : IsBlock shape object)
    (may : MayStamp before object) where
  abbrev after : View N
  after = stamped object before

  abbrev new_views : List (View N)
  new_views = set views id after

  -- no other view has the object open, since this one has it marked
  not_open : (j : ℕ) → j ≢ id → opened_of (get_or (opened_lists views) j []) object ≡ None
  not_open j ne = is_none (opened_of (get_or (opened_lists views) j []) object) (λ written e.
      let h = now.lawful.holds in
      let found = opened_view views j object written e in
      let marked = (h.stamps.each j found.0 found.1).marked object written found.2 in
      mark_excludes shape (locks_in words)
      (map locks_of views) id j before.locks found.0.locks object h.locks block
      (at_map locks_of views id before now.there)
      (at_map locks_of views j found.0 found.1) ne may.marked (subst Lasts (sym marked) tt))

  -- what the new stamp, and whoever has the object open from now on, have to be
  record IsRaised (new : ℕ) (who : Option ℕ) : Type 0 where
    bound : new ≤ 2 * words Commit + 1
    closed : who ≡ None → new % 2 ≡ 0
    odd : (j : ℕ) → who ≡ Some j → new % 2 ≡ 1
    mine : IsOpened (words Commit) new id who (opened_of after.stamps.opened object)
    theirs : (j : ℕ) → j ≢ id → who ≢ Some j

  abbrev with_opener : Option ℕ → Place → Option ℕ
  with_opener who other = cond (same_place other object) who (now.lawful.ground.opener other)

  -- a fact of the stamp and the opener of each object, where it holds of those of this one
  at_each : (new : ℕ) (who : Option ℕ) (P : Place → ℕ → Option ℕ → Type 0) → P object new who
      → ((other : Place) → other ≢ object
      → P other (words (Stamp other)) (now.lawful.ground.opener other))
      → (other : Place)
      → P other (stamps_in (with_word words (Stamp object) new) other) (with_opener who other)
  at_each new who P here elsewhere other =
      elim (place_cases other object) [
        | inl same ↦
            let test : same_place other object ≡ true = ap (λ p. same_place p object) same
            ∙ same_place-refl object in
            subst (λ t. P other (cond t new (words (Stamp other)))
            (cond t who (now.lawful.ground.opener other))) (sym test)
            (subst (λ p. P p new who) (sym same) here)
        | inr ne ↦
            subst (λ t. P other (cond t new (words (Stamp other)))
            (cond t who (now.lawful.ground.opener other)))
            (sym (same_place-false other object ne))
            (elsewhere other ne)
      ]

  opened_here : (j : ℕ) (other : Place) → other ≢ object
      → opened_of (get_or (opened_lists new_views) j []) other ≡ opened_of
      (get_or (opened_lists views) j []) other
  opened_here j other ne =
      elim (cases_eq j id) [
        | inl same ↦
            ap (λ k. opened_of (get_or (opened_lists new_views) k []) other) same
            ∙ (ap (λ o. opened_of o other)
            (part_after (λ (v : View N). v.stamps.opened) views id before after [] now.there)
            ∙ (toggled-other (opened_of before.stamps.opened object)
            before.stamps.opened object other ne
            ∙ sym (ap (λ k. opened_of (get_or (opened_lists views) k []) other) same
            ∙ ap (λ o. opened_of o other)
            (part_before (λ (v : View N). v.stamps.opened) views id before before
            [] now.there))))
        | inr differ ↦ ap (λ o. opened_of o other)
            (part_other (λ (v : View N). v.stamps.opened) views id before after
            [] now.there j differ)
      ]

  opened_mine : opened_of
      (get_or (opened_lists new_views) id []) object ≡ opened_of after.stamps.opened object
  opened_mine = ap (λ o. opened_of o object)
      (part_after (λ (v : View N). v.stamps.opened) views id before after [] now.there)

  opened_theirs : (j : ℕ) → j ≢ id → opened_of (get_or (opened_lists new_views) j []) object ≡ None
  opened_theirs j ne = ap (λ o. opened_of o object)
      (part_other (λ (v : View N). v.stamps.opened) views id before after [] now.there j ne)
      ∙ not_open j ne

  each_opened : (new : ℕ) (who : Option ℕ) → IsRaised new who → (j : ℕ) (other : Place)
      → IsBlock shape other
      → IsOpened (words Commit) (stamps_in (with_word words (Stamp object) new) other) j
      (with_opener who other) (opened_of (get_or (opened_lists new_views) j []) other)
  each_opened new who raised j other is_b =
      let P : Place → ℕ → Option ℕ → Type 0 = λ p stamp opener. IsBlock shape p
      → IsOpened (words Commit) stamp j opener
      (opened_of (get_or (opened_lists new_views) j []) p) in
      at_each new who P
      (λ _. elim (cases_eq j id) [
        | inl same ↦
            subst (λ k. IsOpened (words Commit) new k who
            (opened_of (get_or (opened_lists new_views) k []) object)) (sym same)
            (subst (IsOpened (words Commit) new id who) (sym opened_mine) raised.mine)
        | inr ne ↦ subst (IsOpened (words Commit) new j who) (sym (opened_theirs j ne))
            (raised.theirs j ne)
      ])
      (λ p ne is_p. subst (IsOpened (words Commit) (words (Stamp p)) j (now.lawful.ground.opener p))
      (sym (opened_here j p ne)) (now.lawful.holds.stamps.opened j p is_p))
      other is_b

  open_after : IsOpenState (open_state_of after)
  open_after = let was = now.lawful.holds.stamps.each id before now.there in record {
    marked = λ other written is. elim (place_cases other object) [
      | inl same ↦ ap (hold_of before.locks) same ∙ may.marked
      | inr ne ↦ was.marked other written
          (sym (toggled-other
          (opened_of before.stamps.opened object) before.stamps.opened object other ne) ∙ is)
    ];
    dirty = λ other dirt is none. elim (place_cases other object) [
      | inl same ↦ let e : None ≡ Some dirt = sym (ap (dirt_of before.dirty) same ∙ may.clean)
          ∙ is in cc e
      | inr ne ↦ was.dirty other dirt is
          (sym (toggled-other
          (opened_of before.stamps.opened object) before.stamps.opened object other ne) ∙ none)
    ];
  }

  stamps_after : (new : ℕ) (who : Option ℕ) → IsRaised new who
      → StampsHold shape (stamps_in (with_word words (Stamp object) new)) (words Commit)
      (with_opener who) new_views
  stamps_after new who raised = let h = now.lawful.holds.stamps in record {
    bound = at_each new who (λ p stamp opener. IsBlock shape p → stamp ≤ 2 * words Commit + 1)
        (λ _. raised.bound) (λ p ne. h.bound p);
    closed = at_each new who (λ p stamp opener. IsBlock shape p → opener ≡ None → stamp % 2 ≡ 0)
        (λ _. raised.closed) (λ p ne. h.closed p);
    odd = λ other j is_b. at_each new who (λ p stamp opener. IsBlock shape p → opener ≡ Some j
        → stamp % 2 ≡ 1) (λ _. raised.odd j) (λ p ne. h.odd p j) other is_b;
    opened = each_opened new who raised;
    each = EachView-set (open_state_of {N = N}) views id before after now.there (λ _. IsOpenState)
        (λ _. IsOpenState) open_after (λ j view ne at was. was) h.each;
  }

  raised_keeps : (new : ℕ) (who : Option ℕ) → IsRaised new who
      → IsLawful fits shape (with_word words (Stamp object) new) new_views
  raised_keeps new who raised =
      let h = now.lawful.holds in
      let ground = now.lawful.ground in
      let there = now.there in record {
        ground = record ground { opener = with_opener who };
        holds = record {
          rights = RightsHold-same shape views id before after there (words Commit) refl h.rights;
          spent = SpentHold-live views id after now.live h.spent;
          locks = subst (LocksHold shape (locks_in words))
              (sym (map-set_same locks_of views id before after there refl)) h.locks;
          gate = GateHolds-same shape views id before after there (words Gate) refl h.gate;
          history = HistoryHolds-same shape views id before after there fits
              (words Commit) ground.history refl refl h.history;
          objects = h.objects;
          lie = h.lie;
          free = h.free;
          blocks = IsPartition-same shape views id before after there ground.free ground.objects
              ground.owner refl h.blocks;
          contents = h.contents;
          dirt = DirtHolds-same shape views id before after there
              (store_after ground.history) ground.objects refl h.dirt;
          holdings = EachView-set (holdings_of {N = N}) views id before after there
              (λ _. AreHeld ground.objects) (λ _. AreHeld ground.objects)
              (h.holdings id before there) (λ j view ne at was. was) h.holdings;
          memory = MemoryHolds-same shape views id before after there refl h.memory;
          own = OwnBlocksHold-same shape views id before after there (nexts_in words) refl h.own;
          cells = CellsHold-same shape views id before after there (data_in words) refl h.cells;
          room = RoomHolds-same shape views id before after there refl h.room;
          notes = NotesHold-same shape views id before after there
              (heads_in words) ground.free refl h.notes;
          stamps = stamps_after new who raised;
        };
      }

  opened_now : IsOpened (words Commit) (words (Stamp object)) id (now.lawful.ground.opener object)
      (opened_of before.stamps.opened object)
  opened_now =
      subst (λ o. IsOpened (words Commit) (words (Stamp object)) id
      (now.lawful.ground.opener object) (opened_of o object))
      (part_before (λ (v : View N). v.stamps.opened) views id before before [] now.there)
      (now.lawful.holds.stamps.opened id object block)

  -- whoever has the object open, it is this view
  opener_mine : (j : ℕ) → now.lawful.ground.opener object ≡ Some j → j ≡ id
  opener_mine j e =
      elim (cases_eq j id) [
        | inl same ↦ same
        | inr ne ↦ absurd
            (subst (IsOpened (words Commit) (words (Stamp object)) j
            (now.lawful.ground.opener object)) (not_open j ne)
            (now.lawful.holds.stamps.opened j object block) e)
      ]

  abbrev next : ℕ
  next = (words (Stamp object) + 1) % 2 ^ 64

  opens : opened_of before.stamps.opened object ≡ None → IsRaised next (Some id)
  opens none =
      let h = now.lawful.holds in
      let nobody : now.lawful.ground.opener object ≡ None = is_none
      (now.lawful.ground.opener object) (λ j e.
      subst (IsOpened (words Commit) (words (Stamp object)) id (now.lawful.ground.opener object))
      none opened_now (e ∙ ap Some (opener_mine j e))) in
      let even = h.stamps.closed object block nobody in
      let low = h.stamps.bound object block in record {
        bound = omega (arith, h.rights.few_commits);
        closed = λ e. absurd (cc e);
        odd = λ j e. omega (arith, h.rights.few_commits);
        mine = subst (IsOpened (words Commit) next id (Some id))
            (sym (toggled-opens before.stamps.opened object none)) refl;
        theirs = λ j ne e. ne (sym (let same : id ≡ j = cc e in same));
      }

  closes : opened_of before.stamps.opened object ≡ Some true → IsRaised next None
  closes written =
      let h = now.lawful.holds in
      let mine = subst (IsOpened (words Commit) (words (Stamp object)) id
      (now.lawful.ground.opener object)) written opened_now in
      let odd = h.stamps.odd object id block
      (opener_is (words Commit) (words (Stamp object)) id
      (now.lawful.ground.opener object) true mine) in
      let low = low_stamp (words Commit) (words (Stamp object)) id
      (now.lawful.ground.opener object) mine in record {
        bound = omega (arith, h.rights.few_commits);
        closed = λ e. omega (arith, h.rights.few_commits);
        odd = λ j e. absurd (cc e);
        mine = subst (IsOpened (words Commit) next id None)
            (sym (toggled-closes before.stamps.opened object true written)) (λ e. cc e);
        theirs = λ j ne e. absurd (cc e);
      }

  stamp_lawful : (found : Option Bool) → opened_of before.stamps.opened object ≡ found
      → IsLawful fits shape (with_word words (Stamp object) next) new_views
  stamp_lawful None is = raised_keeps next (Some id) (opens is)
  stamp_lawful (Some true) is = raised_keeps next None (closes is)
  stamp_lawful (Some false) is = absurd (may.committed is)

pub stamp_permitted : {N : Type 0} (fits : Shape → Entry N → Type 0) (shape : Shape)
    (before : View N) (object : Place) → IsBlock shape object → MayStamp before object
    → Permits fits shape (Stamp object) (λ word. (word + 1) % 2 ^ 64) before
    (λ _ after. RaisesStamp object before after)
stamp_permitted fits shape before object block may = record {
  goes = λ words views id now small. record {
    after = stamped object before;
    lawful = stamp_lawful fits shape words views id before now object block may
        (opened_of before.stamps.opened object) refl;
    same_rights = refl;
    told = refl;
  };
}
