-- What a transaction finds in a slot, and what the index has once a slot is written.
use Rattle.std.proofs.Common.{◌≡◌, ◌≢◌, ℕ, ◌≤◌, ◌+◌, ◌*◌, Bool, true, false, cond, not, List, length, Some, None, IsSome, refl, sym, ap, subst, ◌∙◌, arith}
use Rattle.std.specs.Prelude.{is_some}
use Rattle.std.specs.List.{AllByRecursion}
use Rattle.std.specs.Ordering.{eq_by_cmp}
use Rattle.std.proofs.lemmas.Bool.Decides.{nat_tests}
use Rattle.rma_layout.specs.Shape.{Shape}
use Rattle.rma_layout.specs.Ranges.{IsInRange}
use Rattle.rma_layout.specs.Placement.{Place}
use Rattle.object_words.specs.Contents.{Contents, Agrees, place_cmp, content_of, with_words, overlay, IsByRisingObject}
use Rattle.object_words.proofs.Places.{in_order-with_words, place_ties_itself, places_equal}
use Rattle.graph_model.proofs.Sets.{length-filter-le}
use Rattle.graph_model.specs.Sizes.{most_words, is_too_large}
use Rattle.object_store.specs.State.{StoreState, committed}
use Rattle.object_store.specs.Sound.{StaysBegun}
use Rattle.object_store.specs.Calls.{WritesObject}
use Rattle.object_store.proofs.Working.{content_put, stays-then}
use Rattle.holder_codec.specs.declared.index_entry.IndexEntry.{IndexEntry}
use Rattle.holder_codec.specs.declared.index_holder.IndexHolder.{IndexHolder}
use Rattle.holder_codec.specs.Index.{IndexEntryFits, IsIndexHolder, index_words, is_pair_before}
use Rattle.holder_codec.specs.Order.{is_rising}
use Rattle.holder_codec.specs.Represents.{IsSlot}
use Rattle.holder_codec.proofs.Indexes.{length-pairs}
use Rattle.holder_codec.specs.Knowing.{MayBeAt}
use Rattle.held_objects.specs.Knows.{Knows}
use Rattle.held_objects.specs.Held.{IsSpelled, FindsHolder}
use Rattle.held_objects.proofs.Knows.{before, knows_after, still}
use Rattle.rising_lists.proofs.Rising.{length-with_item}
use Rattle.label_index.specs.Entries.{Pair, pair_of, pair_cmp, is_pair, entry_for, with_pair, without_pair, slot_for, entries_in}
use Rattle.label_index.specs.Index.{IsIndexed, takes_one_more, Indexes, Lacks, Has, WhereverIndexed, Adds, Removes, FindsSlot}
use Rattle.label_index.proofs.Keys.{equal_is, pair_apart, pair_itself, pair_same, tied_pair}
use Rattle.label_index.proofs.Slots.{slot_with_entry, other_with_entry, slot_without_entry, other_without_entry, entry_in_slot, entry_for-with, entry_for-without, holder_in, holder-with_pair, holder-without_pair, index_same, slot_is, index_fixes_entries}
use Rattle.label_index.proofs.Knows.{lacks_indexes, has_indexes, still_known}

-- ---- a slot is written

-- what the index has once one of its slots has other entries
indexed_after : (shape : Shape) (contents writes : Contents) (entries changed : List IndexEntry) (pair : Pair) (words : List ℕ) → IsByRisingObject writes
    → IsIndexed shape (overlay contents writes) entries → is_rising is_pair_before changed ≡ true → AllByRecursion IndexEntryFits changed
    → words ≡ index_words (record { entries = entries_in shape changed (slot_for shape pair) })
    → ((place : Place) → ¬ (place ≡ slot_for shape pair) → entries_in shape changed place ≡ entries_in shape entries place)
    → length words ≤ most_words
    → IsIndexed shape (overlay contents (with_words writes (slot_for shape pair) words)) changed
indexed_after shape contents writes entries changed pair words ordered indexed rising each spelled others few = record {
  rising = rising;
  each = each;
  slots = λ place is. content_put contents writes (slot_for shape pair) words place ordered ∙ spelled_cases place is (eq_by_cmp place_cmp place (slot_for shape pair)) refl;
  within = λ place is. few_cases place is (eq_by_cmp place_cmp place (slot_for shape pair)) (content_put contents writes (slot_for shape pair) words place ordered);
}
  where
    spelled_cases : (place : Place) → IsSlot shape place → (tie : Bool) → eq_by_cmp place_cmp place (slot_for shape pair) ≡ tie
        → cond tie words (content_of (overlay contents writes) place) ≡ index_words (record { entries = entries_in shape changed place })
    spelled_cases place is true tie = spelled ∙ ap (λ p. index_words (record { entries = entries_in shape changed p })) (sym (places_equal place (slot_for shape pair) tie))
    spelled_cases place is false tie =
        indexed.slots place is ∙ ap (λ es. index_words (record { entries = es })) (sym (others place (λ same. apart_at tie same)))
      where
        apart_at : eq_by_cmp place_cmp place (slot_for shape pair) ≡ false → place ≡ slot_for shape pair → ⊥
        apart_at tie same = let here = subst (λ p. eq_by_cmp place_cmp p (slot_for shape pair) ≡ true) (sym same) (place_ties_itself (slot_for shape pair)) in cc

    few_cases : (place : Place) → IsSlot shape place → (tie : Bool) → content_of (overlay contents (with_words writes (slot_for shape pair) words)) place ≡ cond tie words (content_of (overlay contents writes) place)
        → length (content_of (overlay contents (with_words writes (slot_for shape pair) words)) place) ≤ most_words
    few_cases place is true e = subst (λ ws. length ws ≤ most_words) (sym e) few
    few_cases place is false e = subst (λ ws. length ws ≤ most_words) (sym e) (indexed.within place is)

-- the words of a slot that takes one more are few enough
pub few_with : (index : IndexHolder) (entry : IndexEntry) → not (is_too_large (2 * (length index.entries + 1))) ≡ true
    → length (index_words (record { entries = with_pair entry index.entries })) ≤ most_words
few_with index entry takes =
    let room : 2 * (length index.entries + 1) ≤ most_words = grind (arith, nat_tests) in
    omega (arith, room, length-pairs (with_pair entry index.entries), length-with_item pair_of pair_cmp entry index.entries)

pub few_made : {made other : IndexHolder} → made ≡ other → length (index_words other) ≤ most_words → length (index_words made) ≤ most_words
few_made is few = subst (λ b. length (index_words b) ≤ most_words) (sym is) few

-- ---- what is read of a slot

pub spelled_at : {N : Type 0} {state : StoreState N} {object : Place} → IsSlot state.shape object → Knows Indexes state → Knows (IsSpelled IsIndexHolder index_words object) state
spelled_at {N} {state} {object} is_slot knows = record {
  ordered = knows.ordered;
  always = λ store may.
      let is = knows.always store may in
      record {
        held = record { entries = entries_in state.shape is.entries object };
        is = holder_in state.shape (overlay store state.writes) is.entries object is.indexed;
        words = is.indexed.slots object is_slot;
      };
}

pub spelled_slot : {N : Type 0} {state : StoreState N} (pair : Pair) {object : Place} → object ≡ slot_for state.shape pair → IsInRange state.shape → Knows Indexes state → Knows (IsSpelled IsIndexHolder index_words object) state
spelled_slot {N} {state} pair {object} here ranges knows = spelled_at (subst (IsSlot state.shape) (sym here) (slot_is state.shape pair ranges)) knows

-- what was read of a slot are the entries that belong there
pub found_entries : {N : Type 0} {old new : StoreState N} {place : Place} {index : IndexHolder} → IsSlot old.shape place → FindsHolder IsIndexHolder index_words place old new index
    → WhereverIndexed old new (λ _ entries. index.entries ≡ entries_in old.shape entries place)
found_entries {N} {old} {new} {place} {index} is_slot found store entries agrees indexed =
    ap (λ (i : IndexHolder). i.entries) (index_same index (record { entries = entries_in old.shape entries place }) found.is (holder_in old.shape (overlay store old.writes) entries place indexed)
    (sym (found.words store agrees) ∙ indexed.slots place is_slot))

pub finds_slot : {N : Type 0} {old new : StoreState N} {pair : Pair} {object : Place} {index : IndexHolder} → object ≡ slot_for old.shape pair → FindsHolder IsIndexHolder index_words object old new index → FindsSlot pair old new index
finds_slot {N} {old} {new} {pair} {object} {index} here read =
    let found = subst (λ (place : Place). FindsHolder IsIndexHolder index_words place old new index) here read in
    record { found = found; entries = found_entries (slot_is old.shape pair found.ranges) found }

-- ---- the calls, where the slot was read

module _ {N : Type 0} {entry : IndexEntry} {old mid : StoreState N} {index : IndexHolder} (read : FindsSlot (pair_of entry) old mid index) where
  abbrev pair : Pair
  pair = pair_of entry

  abbrev Room : Bool → Type 0
  Room b = not (is_too_large (2 * (length index.entries + 1))) ≡ b

  may_have_been : MayBeAt old.shape old.reads (committed mid)
  may_have_been = before read.found.looks.stays (committed mid) read.found.stands

  now_entries : (entries : List IndexEntry) → IsIndexed old.shape (overlay (committed mid) old.writes) entries → index.entries ≡ entries_in old.shape entries (slot_for old.shape pair)
  now_entries entries indexed = read.entries (committed mid) entries read.found.stands.agrees indexed

  room_answer : WhereverIndexed old mid (λ _ entries. not (is_too_large (2 * (length index.entries + 1))) ≡ takes_one_more old.shape entries pair)
  room_answer store entries agrees indexed = ap (λ es. not (is_too_large (2 * (length es + 1)))) (read.entries store entries agrees indexed)

  pub adds_nothing : Room false → Knows (Lacks pair) old → Adds entry old mid false
  adds_nothing full absent = record {
    answer = λ store entries agrees indexed _. sym full ∙ room_answer store entries agrees indexed;
    indexed = λ same. absurd cc;
    unchanged = λ _. read.found.looks;
    known = still read.found.looks absent;
    indexes = lacks_indexes (still read.found.looks absent);
    others = still_known read.found.looks;
  }

  pub absent_now : Knows (Lacks pair) old → entry_for index.entries pair ≡ None
  absent_now absent =
      let is = absent.always (committed mid) may_have_been in
      ap (λ es. entry_for es pair) (now_entries is.entries is.indexed) ∙ (entry_in_slot old.shape is.entries pair ∙ is.absent)

  pub few_left : Knows (Has pair) old → length (index_words (record { entries = without_pair pair index.entries })) ≤ most_words
  few_left present =
      let is = present.always (committed mid) may_have_been in
      let place = slot_for old.shape pair in
      let words = is.indexed.slots place (slot_is old.shape pair read.found.ranges) ∙ ap (λ es. index_words (record { entries = es })) (sym (now_entries is.entries is.indexed)) in
      let all : length (index_words index) ≤ most_words = subst (λ ws. length ws ≤ most_words) words (is.indexed.within place (slot_is old.shape pair read.found.ranges)) in
      omega (arith, all, length-pairs index.entries, length-pairs (without_pair pair index.entries), length-filter-le (λ one. not (is_pair pair (pair_of one))) index.entries)

  -- where the slot's new words are written
  module _ {new : StoreState N} (made : IndexHolder) (wrote : WritesObject (slot_for mid.shape pair) (index_words made) mid new) (stays : StaysBegun mid new) where
    writes_are : new.writes ≡ with_words old.writes (slot_for old.shape pair) (index_words made)
    writes_are = wrote.writes ∙ (ap (λ shape. with_words mid.writes (slot_for shape pair) (index_words made)) read.found.looks.stays.shape
        ∙ ap (λ (w : Contents). with_words w (slot_for old.shape pair) (index_words made)) read.found.looks.writes)

    ordered : IsByRisingObject new.writes
    ordered = subst IsByRisingObject (sym writes_are) (in_order-with_words old.writes (slot_for old.shape pair) (index_words made) read.found.in_order)

    agreed : (store : Contents) → Agrees new.reads store → Agrees mid.reads store
    agreed store agrees = subst (λ (reads : Contents). Agrees reads store) wrote.reads agrees

    known_then : {After : Shape → Contents → Type 0} → ((store : Contents) → MayBeAt old.shape old.reads store → Agrees mid.reads store → After old.shape (overlay store new.writes)) → Knows After new
    known_then then = knows_after (stays-then read.found.looks.stays stays) ordered (λ store may agrees. then store may (agreed store agrees))

    same_entries : (store : Contents) (one other : List IndexEntry) → IsIndexed old.shape (overlay store old.writes) one → IsIndexed old.shape (overlay store old.writes) other → one ≡ other
    same_entries store one other = index_fixes_entries old.shape (overlay store old.writes) one other read.found.ranges

    module _ (fits : IndexEntryFits entry) (room : Room true) (is : made ≡ (record { entries = with_pair entry index.entries })) (absent : Knows (Lacks pair) old) where
      indexed_with : (store : Contents) (entries : List IndexEntry) → Agrees mid.reads store → IsIndexed old.shape (overlay store old.writes) entries
          → IsIndexed old.shape (overlay store new.writes) (with_pair entry entries)
      indexed_with store entries agrees indexed =
          let more = holder-with_pair entry entries fits (record { rising = indexed.rising; each = indexed.each }) in
          subst (λ (w : Contents). IsIndexed old.shape (overlay store w) (with_pair entry entries)) (sym writes_are)
          (indexed_after old.shape store old.writes entries (with_pair entry entries) pair (index_words made) read.found.in_order indexed more.rising more.each
          (ap index_words is ∙ ap (λ es. index_words (record { entries = es })) (ap (with_pair entry) (read.entries store entries agrees indexed) ∙ sym (slot_with_entry old.shape entries entry indexed.rising)))
          (λ place apart. other_with_entry old.shape entries entry place indexed.rising apart) (few_made is (few_with index entry room)))

      has_it : Knows (Has pair) new
      has_it = known_then (λ store may agrees.
          let was = absent.always store may in
          record {
            entries = with_pair entry was.entries;
            indexed = indexed_with store was.entries agrees was.indexed;
            present = ap is_some (entry_for-with was.entries entry pair ∙ ap (λ b. cond b (Some entry) (entry_for was.entries pair)) (tied_pair pair));
          })

      untied : (other : Pair) → other ≢ pair → eq_by_cmp pair_cmp other pair ≡ false
      untied other apart = cases (eq_by_cmp pair_cmp other pair) refl
        where
          cases : (tie : Bool) → eq_by_cmp pair_cmp other pair ≡ tie → tie ≡ false
          cases true tie = absurd (apart (pair_same other pair (equal_is (pair_cmp other pair) tie)))
          cases false tie = refl

      left : (entries : List IndexEntry) (other : Pair) → other ≢ pair → entry_for (with_pair entry entries) other ≡ entry_for entries other
      left entries other apart = entry_for-with entries entry other ∙ ap (λ b. cond b (Some entry) (entry_for entries other)) (untied other apart)

      pub adds : Adds entry old new true
      adds = record {
        answer = λ store entries agrees indexed _. sym room ∙ room_answer store entries (agreed store agrees) indexed;
        indexed = λ _ store entries agrees indexed _. indexed_with store entries (agreed store agrees) indexed;
        unchanged = λ same. absurd cc;
        known = has_it;
        indexes = has_indexes has_it;
        others = record {
          lacks = λ other apart knows. known_then (λ store may agrees.
              let was = knows.always store may in
              record { entries = with_pair entry was.entries; indexed = indexed_with store was.entries agrees was.indexed; absent = left was.entries other apart ∙ was.absent });
          has = λ other apart knows. known_then (λ store may agrees.
              let was = knows.always store may in
              record { entries = with_pair entry was.entries; indexed = indexed_with store was.entries agrees was.indexed; present = subst IsSome (sym (left was.entries other apart)) was.present });
        };
      }

    module _ (is : made ≡ (record { entries = without_pair pair index.entries })) (present : Knows (Has pair) old) where
      indexed_without : (store : Contents) (entries : List IndexEntry) → Agrees mid.reads store → IsIndexed old.shape (overlay store old.writes) entries
          → IsIndexed old.shape (overlay store new.writes) (without_pair pair entries)
      indexed_without store entries agrees indexed =
          let less = holder-without_pair pair entries (record { rising = indexed.rising; each = indexed.each }) in
          subst (λ (w : Contents). IsIndexed old.shape (overlay store w) (without_pair pair entries)) (sym writes_are)
          (indexed_after old.shape store old.writes entries (without_pair pair entries) pair (index_words made) read.found.in_order indexed less.rising less.each
          (ap index_words is ∙ ap (λ es. index_words (record { entries = es })) (ap (without_pair pair) (read.entries store entries agrees indexed) ∙ sym (slot_without_entry old.shape entries pair (slot_for old.shape pair))))
          (λ place apart. other_without_entry old.shape entries pair place apart) (few_made is (few_left present)))

      lacks_it : Knows (Lacks pair) new
      lacks_it = known_then (λ store may agrees.
          let was = present.always store may in
          record {
            entries = without_pair pair was.entries;
            indexed = indexed_without store was.entries agrees was.indexed;
            absent = entry_for-without was.entries pair pair ∙ ap (λ b. cond (not b) (entry_for was.entries pair) None) (pair_itself pair);
          })

      left_out : (entries : List IndexEntry) (other : Pair) → other ≢ pair → entry_for (without_pair pair entries) other ≡ entry_for entries other
      left_out entries other apart = entry_for-without entries pair other ∙ ap (λ b. cond (not b) (entry_for entries other) None) (pair_apart pair other apart)

      pub removes : Removes pair old new
      removes = record {
        removed = λ store entries agrees indexed. indexed_without store entries (agreed store agrees) indexed;
        absent = lacks_it;
        indexes = lacks_indexes lacks_it;
        others = record {
          lacks = λ other apart knows. known_then (λ store may agrees.
              let was = knows.always store may in
              record { entries = without_pair pair was.entries; indexed = indexed_without store was.entries agrees was.indexed; absent = left_out was.entries other apart ∙ was.absent });
          has = λ other apart knows. known_then (λ store may agrees.
              let was = knows.always store may in
              record { entries = without_pair pair was.entries; indexed = indexed_without store was.entries agrees was.indexed; present = subst IsSome (sym (left_out was.entries other apart)) was.present });
        };
      }
