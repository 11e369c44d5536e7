-- An entry is committed: the whole invariant is kept.
use Rattle.std.proofs.Common.{◌≡◌, ◌≢◌, ℕ, zero, suc, ◌+◌, ◌*◌, ◌%◌, ◌^◌, ◌<◌, ◌≤◌, ◌==◌, min, ◌||◌, eqb, Bool, true, false, cond, List, [], ◌∷◌, ◌++◌, append-nil, append_assoc, map, length, length-append, set, get_or, refl, sym, ap, ◌∙◌, subst, inl, inr, arith, Option, Some, None, is_some}
use Rattle.std.specs.List.{AllByRecursion}
use Rattle.std.proofs.lemmas.List.Sums.{sum_by-cons}
use Rattle.std.proofs.lemmas.Bool.{cases_eq, cases_lt, cases_Bool, true≢false}
use Rattle.std.proofs.lemmas.Bool.Decides.{nat_tests}
use Rattle.std.proofs.lemmas.List.{length-map}
use mathlib.Core.Option.{some, some-ne-none}
use lib.ListN.{get_elem?}
use lib.Seq.{map-set}
use Rattle.atomic_table.proofs.Lists.{at_map, at_set}
use Rattle.rma_layout.specs.declared.word.Word.TheVariants.{Commit, Gate, Stamp}
use Rattle.rma_layout.specs.Shape.{Shape}
use Rattle.rma_layout.specs.Placement.{Place, IsBlock, same_place}
use Rattle.object_words.specs.Blocks.{on_rank as place_on}
use Rattle.object_words.specs.Contents.{content_of, Agrees}
use Rattle.object_words.specs.Entries.{Entry, store_after, HasBlocksOnEach}
use Rattle.object_words.proofs.Histories.{legal-push}
use Rattle.window_rule.specs.View.{View, Dirt}
use Rattle.window_rule.specs.Locks.{hold_of}
use Rattle.window_rule.specs.Dirty.{dirt_of}
use Rattle.window_rule.specs.Words.{Words, with_word, locks_in, sizes_in, data_in, nexts_in, heads_in, stamps_in}
use Rattle.window_rule.specs.RightsHold.{RightsHold, least_of, Stake, stake_of, right_count, AreRanks}
use Rattle.window_rule.specs.LocksHold.{LocksHold}
use Rattle.window_rule.specs.HistoryHolds.{AreHeard, past_of, HistoryHolds, IsChronicle, chronicle_of, is_among, numbers_from}
use Rattle.window_rule.specs.Objects.{Objects}
use Rattle.window_rule.specs.ContentsHold.{AreHeld, IsDirtOrNone, holdings_of, Lasts, AreCells, stash_of}
use Rattle.window_rule.specs.MemoryHolds.{Remembers, memory_of}
use Rattle.window_rule.specs.RoomHolds.{HasStock, stock_of, sum_below, count_on, asked_at, kept_at}
use Rattle.window_rule.specs.Partition.{Holder, FreeOf, OwnOf, Within, part_of, places_of, times}
use Rattle.window_rule.specs.StampsHold.{StampsHold, IsOpened, IsOpenState, open_state_of, opened_lists, opened_of}
use Rattle.window_rule.specs.Permits.{Moment, Permits}
use Rattle.window_rule.specs.Commit.{committed, flagged, released_from, MayCommit, Commits, need_of}
use Rattle.window_rule.specs.Lawful.{Holds, locks_of, dirts_of, owns_of}
use Rattle.window_rule.proofs.Sums.{map-set_same, sum_by-set_at, two_in_sum, sum_below-zero, sum_below-add}
use Rattle.window_rule.proofs.Counting.{sum_below-mono}
use Rattle.window_rule.proofs.SpentKept.{SpentHold-live}
use Rattle.window_rule.proofs.Exclusions.{mark_excludes}
use Rattle.window_rule.proofs.ViewsKept.{EachView-set, set_here_at, part_before, part_after, part_other}
use Rattle.window_rule.proofs.Frames.{GateHolds-same, IsPartition-same, OwnBlocksHold-same, NotesHold-same}
use Rattle.window_rule.proofs.DetachKept.{dirty_view, is_none}
use Rattle.window_rule.proofs.CommitKept.{contents_agree, dirt_holds, has_room, stored-other}
use Rattle.window_rule.proofs.LengthRead.{still_known}
use Rattle.window_rule.proofs.RoomKept.{used_by_history}
use Rattle.window_rule.proofs.OwnEntries.{numbers-push, own_in_history}
use Rattle.window_rule.proofs.LockLemmas.{place_cases, same_place-refl, same_place-false}

pub All-push : {X : Type 0} (P : X → Type 0) (xs : List X) (x : X) → AllByRecursion P xs → P x
    → AllByRecursion P (xs ++ x ∷ [])
All-push P [] x h last = (last, tt)
All-push P (y ∷ ys) x h last = (h.0, All-push P ys x h.1 last)

abbrev one_at : ℕ → ℕ → ℕ
one_at right rank = cond (eqb right rank) 1 0

-- a rank is among rights where it is counted there
pub among-counts : (rank : ℕ) (rights : List ℕ) → is_among rank rights ≡ true
    → 0 < right_count rank rights
among-counts rank [] e = absurd (true≢false (sym e))
among-counts rank (right ∷ more) e =
    elim (cases_eq right rank) [
      | inl same ↦ let one : one_at right rank ≡ 1 = grind (arith, nat_tests) in omega
          (arith, sum_by-cons (λ r. one_at r rank) right more)
      | inr ne ↦ let rest : is_among rank more ≡ true = grind (arith, nat_tests) in omega
          (arith, among-counts rank more rest, sum_by-cons (λ r. one_at r rank) right more)
    ]

among_behind : (b : Bool) (rank : ℕ) (more : List ℕ) → is_among rank more ≡ true
    → cond b true (is_among rank more) ≡ true
among_behind true rank more e = refl
among_behind false rank more e = e

-- the least right is one of the rights
pub among_least : (rights : List ℕ) → rights ≢ [] → is_among (least_of rights) rights ≡ true
among_least [] some_right = absurd (some_right refl)
among_least (right ∷ []) some_right = let same : (right == right) ≡ true = grind
    (arith, nat_tests) in ap (λ b. cond b true false) same
among_least (right ∷ (next ∷ more)) some_right =
    let rest = least_of (next ∷ more) in
    let in_rest = among_least (next ∷ more) (λ e. cc e) in
    elim (cases_lt right rest) [
      | inl first ↦
          let least : min right rest ≡ right = grind (arith, nat_tests) in
          let same : (right == right) ≡ true = grind (arith, nat_tests) in
          ap (λ n. cond (right == n) true (is_among n (next ∷ more))) least
          ∙ ap (λ b. cond b true (is_among right (next ∷ more))) same
      | inr later ↦
          let least : min right rest ≡ rest = grind (arith, nat_tests) in
          ap (λ n. cond (right == n) true (is_among n (next ∷ more))) least
          ∙ among_behind (right == rest) rest (next ∷ more) in_rest
    ]

pub among-below : (rank ranks : ℕ) (rights : List ℕ) → is_among rank rights ≡ true
    → AreRanks ranks rights → rank < ranks
among-below rank ranks [] e h = absurd (true≢false (sym e))
among-below rank ranks (right ∷ more) e h =
    elim (cases_eq right rank) [
      | inl same ↦ omega (arith, h.0)
      | inr ne ↦ let rest : is_among rank more ≡ true = grind (arith, nat_tests) in
          among-below rank ranks more rest h.1
    ]

-- the flags of open objects once they were committed
abbrev flag : Option Bool → Bool → Option Bool
flag None b = None
flag (Some written) b = Some (written || b)

opened-flagged : (dirty : List Dirt) (opened : List (Place × Bool)) (object : Place)
    → opened_of (flagged dirty opened) object ≡ flag (opened_of opened object)
    (is_some (dirt_of dirty object))
opened-flagged dirty [] object = refl
opened-flagged dirty (one ∷ more) object =
    elim (place_cases one.0 object) [
      | inl same ↦
          ap (λ t. cond t (Some (one.1 || is_some (dirt_of dirty one.0)))
          (opened_of (flagged dirty more) object))
          (ap (λ p. same_place p object) same ∙ same_place-refl object)
          ∙ (ap (λ p. Some (one.1 || is_some (dirt_of dirty p))) same
          ∙ sym (ap (λ t. flag (cond t (Some one.1) (opened_of more object))
          (is_some (dirt_of dirty object)))
          (ap (λ p. same_place p object) same ∙ same_place-refl object)))
      | inr ne ↦
          ap (λ t. cond t (Some (one.1 || is_some (dirt_of dirty one.0)))
          (opened_of (flagged dirty more) object)) (same_place-false one.0 object ne)
          ∙ (opened-flagged dirty more object
          ∙ sym (ap (λ t. flag (cond t (Some one.1) (opened_of more object))
          (is_some (dirt_of dirty object))) (same_place-false one.0 object ne)))
    ]

flag_kept : (found : Option Bool) (b written : Bool) → flag found b ≡ Some written
    → (was : Bool) × (found ≡ Some was)
flag_kept None b written e = absurd (cc e)
flag_kept (Some was) b written e = (was, refl)

-- one more commit leaves what is said of open objects true
later : (commits stamp j : ℕ) (opener : Option ℕ) (found : Option Bool)
    → IsOpened commits stamp j opener found → IsOpened (commits + 1) stamp j opener found
later commits stamp j opener None e = e
later commits stamp j opener (Some true) e = (e.0, omega (arith, e.1))
later commits stamp j opener (Some false) e = e

opener_of : (commits stamp j : ℕ) (opener : Option ℕ) (was : Bool)
    → IsOpened commits stamp j opener (Some was) → opener ≡ Some j
opener_of commits stamp j opener true e = e.0
opener_of commits stamp j opener false e = e

is_open : (commits stamp j : ℕ) (opener : Option ℕ) (written : Bool) → opener ≡ Some j
    → stamp < 2 * commits → IsOpened commits stamp j opener (Some written)
is_open commits stamp j opener true e low = (e, low)
is_open commits stamp j opener false e low = e

later_mine : (commits stamp j : ℕ) (opener : Option ℕ) (found : Option Bool) (b : Bool)
    → stamp ≤ 2 * commits + 1 → IsOpened commits stamp j opener found
    → IsOpened (commits + 1) stamp j opener (flag found b)
later_mine commits stamp j opener None b low e = e
later_mine commits stamp j opener (Some was) b low e = is_open (commits + 1) stamp j opener
    (was || b) (opener_of commits stamp j opener was e) (omega arith)

-- sums of which one has room to spare
spare_sum : (n : ℕ) (f g : ℕ → ℕ) (i spare : ℕ) → ((k : ℕ) → k < n → f k ≤ g k) → i < n
    → f i + spare ≤ g i → sum_below n f + spare ≤ sum_below n g
spare_sum zero f g i spare h below here = absurd (omega arith)
spare_sum (suc n) f g i spare h below here =
    elim (cases_eq i n) [
      | inl e ↦ let a : f i ≡ f n = ap f e in let b : g i ≡ g n = ap g e in omega
          (arith, sum_below-mono n f g (λ k less. h k (omega arith)))
      | inr ne ↦ omega (
        arith,
        spare_sum n f g i spare (λ k less. h k (omega arith)) (omega arith) here,
        h n (omega arith),
      )
    ]

view_at : {V : Type 0} (views : List V) (j : ℕ) → j < length views
    → (v : V) × (get_elem? views j ≡ some v)
view_at [] j h = absurd (omega arith)
view_at (v ∷ vs) zero h = (v, refl)
view_at (v ∷ vs) (suc j) h = view_at vs j (omega arith)

pub below_length : {V : Type 0} (views : List V) (j : ℕ) (v : V) → get_elem? views j ≡ some v
    → j < length views
below_length [] j v e = absurd (some-ne-none v (sym e))
below_length (x ∷ xs) zero v e = omega arith
below_length (x ∷ xs) (suc j) v e = omega (arith, below_length xs j v e)

module _ {N : Type 0} (fits : Shape → Entry N → Type 0) (shape : Shape) (words : Words)
    (views : List (View N)) (id : ℕ) (before : View N)
    (now : Moment fits shape words views id before)
    (entry : Entry N) (may : MayCommit fits shape before entry) where
  abbrev h : Holds fits shape words views now.lawful.ground
  h = now.lawful.holds

  abbrev history : List (Entry N)
  history = now.lawful.ground.history

  rank_in : is_among entry.rank before.rights ≡ true
  rank_in = ap (λ r. is_among r before.rights) may.rank ∙ among_least before.rights now.live

  abbrev objects : Objects
  objects = now.lawful.ground.objects

  abbrev after : View N
  after = committed history entry before

  abbrev new_views : List (View N)
  new_views = set views id after

  abbrev commits : ℕ
  commits = words Commit

  abbrev longer : List (Entry N)
  longer = history ++ entry ∷ []

  stake_there : get_elem? (map stake_of views) id ≡ some (stake_of before)
  stake_there = at_map stake_of views id before now.there

  rights_hold : RightsHold shape (commits + 1) (map stake_of new_views)
  rights_hold =
      subst (RightsHold shape (commits + 1)) (sym (map-set stake_of views id after)) (record {
        each_once = λ rank below. omega (
          arith,
          h.rights.each_once rank below,
          sum_by-set_at (λ (stake : Stake). right_count rank stake.rights) (map stake_of views) id
              (stake_of before) (stake_of after) stake_there,
        );
        are_ranks = λ j stake at. elim
            (at_set (map stake_of views) id j (stake_of after) stake at) [
              | inl here ↦ subst (λ (s : Stake). AreRanks shape.ranks s.rights) here.1
                  (h.rights.are_ranks id (stake_of before) stake_there)
              | inr else ↦ h.rights.are_ranks j stake else.1
            ];
        few_commits = omega (
          arith,
          h.rights.few_commits,
          may.allowed,
          sum_by-set_at (λ (stake : Stake). stake.allowance) (map stake_of views) id
              (stake_of before) (stake_of after) stake_there,
        );
      })

  -- another view has not the right under which the entry is made
  not_theirs : (j : ℕ) (view : View N) → j ≢ id → get_elem? views j ≡ some view
      → is_among entry.rank view.rights ≡ false
  not_theirs j view ne at =
      elim (cases_Bool (is_among entry.rank view.rights)) [
        | inl theirs ↦
            let below = among-below entry.rank shape.ranks before.rights rank_in
            (h.rights.are_ranks id (stake_of before) stake_there) in
            absurd (omega (
              arith,
              h.rights.each_once entry.rank below,
              two_in_sum (λ (stake : Stake). right_count entry.rank stake.rights)
                  (map stake_of views) id j (stake_of before) (stake_of view) ne stake_there
                  (at_map stake_of views j view at),
              among-counts entry.rank before.rights rank_in,
              among-counts entry.rank view.rights theirs,
            ))
        | inr not_in ↦ not_in
      ]

  -- what was read is in the store
  clean_of : (object : Place) → IsBlock shape object → Lasts (hold_of before.locks object)
      → dirt_of before.dirty object ≡ None → (j : ℕ)
      → dirt_of (get_or (dirts_of views) j []) object ≡ None
  clean_of object block lasts clean j =
      elim (cases_eq j id) [
        | inl same ↦ ap (λ k. dirt_of (get_or (dirts_of views) k []) object) same
            ∙ (ap (λ d. dirt_of d object)
            (part_before (λ (v : View N). v.dirty) views id before before [] now.there) ∙ clean)
        | inr ne ↦ is_none (dirt_of (get_or (dirts_of views) j []) object) (λ dirt e.
            let found = dirty_view views j object dirt e in
            mark_excludes shape (locks_in words)
            (map locks_of views) j id found.0.locks before.locks object h.locks block
            (at_map locks_of views j found.0 found.1)
            (at_map locks_of views id before now.there) (λ same. ne (sym same))
            ((h.holdings j found.0 found.1).marked object dirt found.2).0 lasts)
      ]

  reads_agree : Agrees entry.reads (store_after history)
  reads_agree object read is =
      let why = may.reads object read is in
      elim why.1 [
        | inl dirty ↦
            let mine = subst (λ d. IsDirtOrNone (content_of (store_after history) object)
            (objects object) id (dirt_of d object))
            (part_before (λ (v : View N). v.dirty) views id before before [] now.there)
            (h.dirt id object) in
            sym (subst (IsDirtOrNone (content_of (store_after history) object) (objects object) id)
            dirty.1 mine).kept ∙ dirty.2
        | inr known ↦
            let held = (h.holdings id before now.there).read object known.0 known.1 in
            let clean = clean_of object why.0 known.3 held.1 in
            let no_writer : (objects object).writer ≡ None = is_none (objects object).writer
            (λ j e. subst (IsDirtOrNone (content_of (store_after history) object)
            (objects object) j) (clean j) (h.dirt j object) e) in
            let stored : (objects object).content ≡ Some (content_of (store_after history) object) =
            h.contents object why.0 no_writer in
            let same : Some known.0.content ≡ Some (content_of (store_after history) object) =
            sym held.0.content_is ∙ stored in
            sym (let e : known.0.content ≡ content_of (store_after history) object = cc same in e)
            ∙ known.2
      ]

  room_suffices : HasBlocksOnEach shape (store_after history) entry.writes
  room_suffices rank below =
      let dirts = dirts_of views in
      let owns = owns_of views in
      let need = sum_below shape.blocks
      (λ b. need_of shape (place_on rank b) (dirt_of before.dirty (place_on rank b))) in
      let asks = λ (j : ℕ). sum_below shape.blocks (asked_at shape (get_or dirts j []) rank) in
      let keeps = λ (j : ℕ). sum_below shape.blocks (kept_at (get_or dirts j []) rank) in
      let has = λ (j : ℕ). count_on rank (places_of (get_or owns j [])) in
      let same_length : length dirts ≡ length views = length-map views (λ (v : View N). v.dirty) in
      let dirt_is : (j : ℕ) (v : View N) → get_elem? views j ≡ some v
      → get_or dirts j [] ≡ v.dirty = λ j v at. part_before
      (λ (x : View N). x.dirty) views j v v [] at in
      let own_is : (j : ℕ) (v : View N) → get_elem? views j ≡ some v
      → get_or owns j [] ≡ v.private = λ j v at. part_before
      (λ (x : View N). x.private) views j v v [] at in
      let each : (j : ℕ) → j < length dirts → asks j ≤ has j + keeps j = λ j less.
      let found = view_at views j (omega arith) in
      subst (λ d. sum_below shape.blocks (asked_at shape d rank) ≤ has j + sum_below shape.blocks
      (kept_at d rank)) (sym (dirt_is j found.0 found.1))
      (subst (λ o. sum_below shape.blocks (asked_at shape found.0.dirty rank) ≤ count_on rank
      (places_of o) + sum_below shape.blocks (kept_at found.0.dirty rank))
      (sym (own_is j found.0 found.1))
      (h.room j found.0 found.1 rank)) in
      let mine : asks id + need ≤ has id + keeps id =
      subst (λ d. sum_below shape.blocks
      (asked_at shape d rank) + need ≤ has id + sum_below shape.blocks (kept_at d rank))
      (sym (dirt_is id before now.there))
      (subst (λ o. sum_below shape.blocks (asked_at shape before.dirty rank) + need ≤ count_on rank
      (places_of o) + sum_below shape.blocks (kept_at before.dirty rank))
      (sym (own_is id before now.there))
      (may.room rank below)) in
      let spare = spare_sum (length dirts) asks (λ j. has j + keeps j) id need each
      (omega (arith, below_length views id before now.there)) mine in
      let sums = sum_below-add (length dirts) has keeps (λ j. has j + keeps j) (λ j. refl) in
      has_room shape history objects views id before after now.there entry may.maps.writes
      may.writes may.attached refl h.contents h.dirt rank
      (used_by_history shape (sizes_in words) (data_in words)
      (store_after history)
      objects dirts h.objects h.contents h.dirt h.lie rank 0 owns now.lawful.ground.free
      now.lawful.ground.owner need below h.blocks (omega arith))

  history_holds : HistoryHolds fits shape (commits + 1) longer new_views
  history_holds = record {
    counted = omega (arith, h.history.counted, length-append history (entry ∷ []));
    held = (id, after, set_here_at views id before after now.there, refl);
    each = EachView-set (chronicle_of {N = N}) views id before after now.there
        (λ _. IsChronicle history) (λ _. IsChronicle longer)
        (record {
          begins = ([], append-nil longer);
          rest = tt;
          own = ap (λ l. l ++ length history ∷ [])
              (own_in_history history (chronicle_of before) (h.history.each id before now.there))
              ∙ sym (numbers-push before.rights entry 0 history
              ∙ (let at : 0 + length history ≡ length history = omega arith in ap
              (λ b. numbers_from 0 before.rights history ++ cond b ((0 + length history) ∷ []) [])
              rank_in ∙ ap (λ n. numbers_from 0 before.rights history ++ n ∷ []) at));
        })
        (λ j view ne at was. record {
          begins = (
            was.begins.0 ++ entry ∷ [],
            sym (append_assoc view.seen was.begins.0 (entry ∷ []))
                ∙ ap (λ l. l ++ entry ∷ []) was.begins.1,
          );
          own = was.own;
          rest = All-push (λ (e : Entry N). is_among e.rank view.rights ≡ false)
              was.begins.0 entry was.rest (not_theirs j view ne at);
        }) h.history.each;
    heard = EachView-set (past_of {N = N}) views id before after now.there (λ _. AreHeard)
        (λ _. AreHeard) tt (λ j view ne at was. was) h.history.heard;
    legal = legal-push true shape history entry h.history.legal may.maps reads_agree
        (λ _. room_suffices);
    fitting = All-push (fits shape) history entry h.history.fitting may.fitting;
    ranked = All-push (λ (e : Entry N). e.rank < shape.ranks) history entry h.history.ranked
        (among-below entry.rank shape.ranks before.rights rank_in
        (h.rights.are_ranks id (stake_of before) stake_there));
  }

  stamps_hold : StampsHold shape (stamps_in words) (commits + 1) now.lawful.ground.opener new_views
  stamps_hold = record {
    bound = λ object block. omega (arith, h.stamps.bound object block);
    closed = h.stamps.closed;
    odd = h.stamps.odd;
    opened = λ j object block. elim (cases_eq j id) [
      | inl same ↦
          subst (λ k. IsOpened (commits + 1) (words (Stamp object)) k
          (now.lawful.ground.opener object)
          (opened_of (get_or (opened_lists new_views) k []) object)) (sym same)
          (subst (IsOpened (commits + 1) (words (Stamp object)) id
          (now.lawful.ground.opener object))
          (sym (ap (λ o. opened_of o object)
          (part_after (λ (v : View N). v.stamps.opened) views id before after [] now.there)
          ∙ opened-flagged before.dirty before.stamps.opened object))
          (later_mine commits (words (Stamp object)) id (now.lawful.ground.opener object)
          (opened_of before.stamps.opened object) (is_some (dirt_of before.dirty object))
          (h.stamps.bound object block)
          (subst (λ o. IsOpened commits (words (Stamp object)) id (now.lawful.ground.opener object)
          (opened_of o object))
          (part_before (λ (v : View N). v.stamps.opened) views id before before [] now.there)
          (h.stamps.opened id object block))))
      | inr ne ↦
          subst (λ o. IsOpened (commits + 1) (words (Stamp object)) j
          (now.lawful.ground.opener object) (opened_of o object))
          (sym (part_other (λ (v : View N). v.stamps.opened) views id before after
          [] now.there j ne))
          (later commits (words (Stamp object)) j (now.lawful.ground.opener object)
          (opened_of (get_or (opened_lists views) j []) object)
          (h.stamps.opened j object block))
    ];
    each = EachView-set (open_state_of {N = N}) views id before after now.there (λ _. IsOpenState)
        (λ _. IsOpenState)
        (record {
          marked = λ object written is.
              let was = flag_kept (opened_of before.stamps.opened object)
              (is_some (dirt_of before.dirty object)) written
              (sym (opened-flagged before.dirty before.stamps.opened object) ∙ is) in
              (h.stamps.each id before now.there).marked object was.0 was.1;
          dirty = λ object dirt is. absurd (cc is);
        }) (λ j view ne at was. was) h.stamps.each;
  }

  released_part : (holder : Holder)
      → part_of now.lawful.ground.free (owns_of views)
      (released_from objects id) holder ≡ part_of now.lawful.ground.free
      (owns_of views) objects holder
  released_part (FreeOf rank) = refl
  released_part (OwnOf j) = refl
  released_part (Within object) = refl

  none_dirty : HasStock shape (stock_of after)
  none_dirty rank = omega (arith, sum_below-zero shape.blocks)

  pub commit_keeps : Holds fits shape (with_word words Commit (commits + 1)) new_views
      (record now.lawful.ground { history = longer; objects = released_from objects id })
  commit_keeps = record {
    rights = rights_hold;
    spent = SpentHold-live views id after now.live h.spent;
    locks = subst (LocksHold shape (locks_in words))
        (sym (map-set_same locks_of views id before after now.there refl)) h.locks;
    gate = GateHolds-same shape views id before after now.there (words Gate) refl h.gate;
    history = history_holds;
    objects = h.objects;
    lie = h.lie;
    free = h.free;
    blocks = IsPartition-same shape views id before after now.there now.lawful.ground.free
        (released_from objects id) now.lawful.ground.owner refl
        (record {
          each = λ holder b. ap (times b) (released_part holder)
              ∙ h.blocks.each holder b;
          reserved = h.blocks.reserved;
        });
    contents = contents_agree shape history objects views id before after now.there entry
        may.maps.writes may.writes may.attached refl h.contents h.dirt;
    dirt = dirt_holds shape history objects views id before after now.there entry may.maps.writes
        may.writes may.attached refl h.contents h.dirt;
    holdings = EachView-set (holdings_of {N = N}) views id before after now.there
        (λ _. AreHeld objects) (λ _. AreHeld (released_from objects id))
        (let was = h.holdings id before now.there in
        record {
          read = λ object reading is.
              ((was.read object reading is).0, refl, (was.read object reading is).2);
          marked = λ object dirt is. absurd (cc is);
        })
        (λ j view ne at was. record { read = was.read; marked = was.marked }) h.holdings;
    own = OwnBlocksHold-same shape views id before after now.there (nexts_in words) refl h.own;
    memory = EachView-set (memory_of {N = N}) views id before after now.there (λ _. Remembers shape)
        (λ _. Remembers shape)
        (λ object known is. let still =
        still_known fits shape before words views id now.lawful.ground h now.there object
        known is in (
          still.0,
          stored-other shape history objects views id before after now.there entry
              may.maps.writes may.writes may.attached refl h.contents h.dirt object
              ((h.holdings id before now.there).read object known is).1 ∙ still.1,
        ))
        (λ j view ne at was. was) h.memory;
    cells = EachView-set (stash_of {N = N}) views id before after now.there
        (λ _. AreCells (data_in words)) (λ _. AreCells (data_in words))
        (λ block i word has e. h.cells id before now.there block i word (elim has [
          | inl own ↦ inl own
          | inr of_dirt ↦ absurd (cc of_dirt.2)
        ]) e) (λ j view ne at was. was) h.cells;
    room = EachView-set (stock_of {N = N}) views id before after now.there (λ _. HasStock shape)
        (λ _. HasStock shape) none_dirty (λ j view ne at was. was) h.room;
    notes = NotesHold-same shape views id before after now.there
        (heads_in words) now.lawful.ground.free refl h.notes;
    stamps = stamps_hold;
  }

pub commit_permitted : {N : Type 0} (fits : Shape → Entry N → Type 0) (shape : Shape)
    (before : View N) (entry : Entry N) → MayCommit fits shape before entry
    → Permits fits shape Commit (λ found. (found + 1) % 2 ^ 64) before (Commits entry before)
commit_permitted fits shape before entry may = record {
  goes = λ words views id now word_fits.
      let few : (words Commit + 1) % 2 ^ 64 ≡ words Commit + 1 = omega
      (arith, now.lawful.holds.rights.few_commits) in record {
        after = committed now.lawful.ground.history entry before;
        lawful = record {
          ground = record now.lawful.ground {
            history = now.lawful.ground.history ++ entry ∷ [];
            objects = released_from now.lawful.ground.objects id;
          };
          holds = subst (λ n. Holds fits shape (with_word words Commit n)
              (set views id (committed now.lawful.ground.history entry before))
              (record now.lawful.ground {
                history = now.lawful.ground.history ++ entry ∷ [];
                objects = released_from now.lawful.ground.objects id;
              }))
              (sym few) (commit_keeps fits shape words views id before now entry may);
        };
        same_rights = refl;
        told = record {
          history = now.lawful.ground.history;
          goes_on = (now.lawful.holds.history.each id before now.there).begins;
          found_is = now.lawful.holds.history.counted;
          view = refl;
        };
      };
}
