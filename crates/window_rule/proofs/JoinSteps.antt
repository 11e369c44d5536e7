-- Two ranks are joined.
use Rattle.std.proofs.Common.{◌≡◌, ◌≢◌, ℕ, eqb, ◌+◌, ◌≤◌, cond, Bool, true, false, List, [], ◌∷◌, ◌++◌, append-nil, length, length-append, set, refl, sym, ap, ◌∙◌, subst, ◌⊎◌, inl, inr, arith, Option, Some, None, nat_le}
use Rattle.std.specs.List.{AllByRecursion}
use Rattle.std.proofs.lemmas.Bool.{cases_eq, cases_lt, true≢false}
use Rattle.std.proofs.lemmas.Bool.Decides.{nat_tests}
use Rattle.std.proofs.lemmas.List.{map-append}
use Rattle.std.proofs.lemmas.List.Sums.{sum_by-append}
use mathlib.Core.Option.{some}
use lib.ListN.{get_elem?}
use Rattle.atomic_table.specs.Table.{Joins}
use Rattle.atomic_table.proofs.Lists.{at_map, set_else}
use Rattle.object_words.specs.Entries.{Entry}
use Rattle.rma_layout.specs.Shape.{Shape}
use Rattle.rma_layout.specs.Placement.{Place}
use Rattle.window_rule.specs.View.{View, Dirt, OwnBlock, Hold, Marked, spent}
use Rattle.window_rule.specs.Dirty.{dirt_of}
use Rattle.window_rule.specs.Locks.{hold_of}
use Rattle.window_rule.specs.Words.{Words, words_in}
use Rattle.window_rule.specs.RightsHold.{stake_of, AreRanks}
use Rattle.window_rule.specs.HistoryHolds.{IsChronicle, chronicle_of, is_among}
use Rattle.window_rule.specs.RoomHolds.{count_on}
use Rattle.window_rule.specs.Partition.{times, places_of}
use Rattle.window_rule.specs.StampsHold.{opened_of}
use Rattle.window_rule.specs.Splits.{joined, longer, IsIdle}
use Rattle.window_rule.specs.Lawful.{Holds, IsLawful, IsRuled, Ground}
use Rattle.window_rule.proofs.Sums.{sum_below-zero}
use Rattle.window_rule.proofs.LockLemmas.{same_place-refl}
use Rattle.window_rule.proofs.OwnEntries.{OfOthers, numbers-rest}
use Rattle.window_rule.proofs.Newcomers.{nobody}
use Rattle.window_rule.proofs.Handovers.{IsHandover, beside_hand, handover_keeps}

pub All-append : {X : Type 0} (P : X → Type 0) (xs ys : List X) → AllByRecursion P xs
    → AllByRecursion P ys → AllByRecursion P (xs ++ ys)
All-append P [] ys h k = k
All-append P (x ∷ xs) ys h k = (h.0, All-append P xs ys h.1 k)

pub times-append : (block : Place) (xs ys : List Place)
    → times block (xs ++ ys) ≡ times block xs + times block ys
times-append block [] ys = omega arith
times-append block (x ∷ xs) ys = omega (arith, times-append block xs ys)

ranks_of_both : (n : ℕ) (xs ys : List ℕ) → AreRanks n xs → AreRanks n ys → AreRanks n (xs ++ ys)
ranks_of_both n [] ys h k = k
ranks_of_both n (x ∷ xs) ys h k = (h.0, ranks_of_both n xs ys h.1 k)

among-append : (rank : ℕ) (xs ys : List ℕ) → is_among rank xs ≡ false → is_among rank ys ≡ false
    → is_among rank (xs ++ ys) ≡ false
among-append rank [] ys h k = k
among-append rank (x ∷ xs) ys h k =
    elim (cases_eq x rank) [
      | inl same ↦ absurd
          (true≢false (let t : is_among rank (x ∷ xs) ≡ true = grind (arith, nat_tests) in
          sym t ∙ h))
      | inr ne ↦
          let rest : is_among rank xs ≡ false = grind (arith, nat_tests) in
          let both = among-append rank xs ys rest k in
          grind (arith, nat_tests)
    ]

of_neither : {N : Type 0} (xs ys : List ℕ) (entries : List (Entry N)) → OfOthers xs entries
    → OfOthers ys entries → OfOthers (xs ++ ys) entries
of_neither xs ys [] h k = tt
of_neither xs ys (entry ∷ rest) h k =
    (among-append entry.rank xs ys h.0 k.0, of_neither xs ys rest h.1 k.1)

All-rest : {X : Type 0} (P : X → Type 0) (xs ys : List X) → AllByRecursion P (xs ++ ys)
    → AllByRecursion P ys
All-rest P [] ys h = h
All-rest P (x ∷ xs) ys h = All-rest P xs ys h.1

All-first : {X : Type 0} (P : X → Type 0) (xs ys : List X) → AllByRecursion P (xs ++ ys)
    → AllByRecursion P xs
All-first P [] ys h = tt
All-first P (x ∷ xs) ys h = (h.0, All-first P xs ys h.1)

-- of two beginnings of one list, the longer has the other as a beginning
record IsBetween {E : Type 0} (long short rest longer_rest : List E) : Type 0 where
  middle : List E
  long_is : short ++ middle ≡ long
  rest_is : middle ++ longer_rest ≡ rest

heads : {E : Type 0} (x y : E) (xs ys : List E) → x ∷ xs ≡ y ∷ ys → (x ≡ y) × (xs ≡ ys)
heads x y xs ys e = (cc e, cc e)

between : {E : Type 0} (long short rest_long rest all : List E) → long ++ rest_long ≡ all
    → short ++ rest ≡ all → length short ≤ length long → IsBetween long short rest rest_long
between long [] rest_long rest all e d few =
    record { middle = long; long_is = refl; rest_is = e ∙ sym d }
between [] (y ∷ ys) rest_long rest all e d few = absurd (omega arith)
between (x ∷ xs) (y ∷ ys) rest_long rest all e d few =
    let parts = heads x y (xs ++ rest_long) (ys ++ rest) (e ∙ sym d) in
    let inner = between xs ys rest_long rest (xs ++ rest_long) refl (sym parts.1) (omega arith) in
    record {
      middle = inner.middle;
      long_is = (λ k. sym parts.0 k ∷ inner.long_is k);
      rest_is = inner.rest_is;
    }

-- nothing of an object is there for no object: the list is empty
no_dirt : (dirty : List Dirt) → ((object : Place) → dirt_of dirty object ≡ None) → dirty ≡ []
no_dirt [] h = refl
no_dirt (one ∷ more) h = let none : Some one ≡ None = sym
    (ap (λ b. cond b (Some one) (dirt_of more one.object)) (same_place-refl one.object))
    ∙ h one.object in absurd (cc none)

no_opened : (opened : List (Place × Bool)) → ((object : Place) → opened_of opened object ≡ None)
    → opened ≡ []
no_opened [] h = refl
no_opened (one ∷ more) h = let none : Some one.1 ≡ None = sym
    (ap (λ b. cond b (Some one.1) (opened_of more one.0)) (same_place-refl one.0))
    ∙ h one.0 in absurd (cc none)

is_nothing : {A : Type 0} (found : Option A) → ((a : A) → found ≡ Some a → ⊥) → found ≡ None
is_nothing None h = refl
is_nothing (Some a) h = absurd (h a refl)

pub first_none : {A : Type 0} (xs ys : List A) → xs ++ ys ≡ [] → xs ≡ []
first_none [] ys e = refl
first_none (x ∷ xs) ys e = absurd (cc e)

module _ {N : Type 0} (fits : Shape → Entry N → Type 0) (shape : Shape) (words : Words)
    (views : List (View N)) (ground : Ground N) (h : Holds fits shape words views ground)
    (id j : ℕ) (view other : View N) (here : get_elem? views id ≡ some view)
    (there : get_elem? views j ≡ some other) (ne : j ≢ id) (live : view.rights ≢ [])
    (idle : IsIdle other) where
  -- the other view has nothing by which it could have read or detached
  unlocked : (object : Place) (hold : Hold) → hold_of other.locks object ≡ Some hold → ⊥
  unlocked object hold e = let none : None ≡ Some hold = sym (ap (λ l. hold_of l object) idle.locks)
      ∙ e in cc none

  nothing_dirty : other.dirty ≡ []
  nothing_dirty = no_dirt other.dirty
      (λ object. is_nothing (dirt_of other.dirty object)
      (λ dirt e. unlocked object Marked ((h.holdings j other there).marked object dirt e).0))

  nothing_opened : other.stamps.opened ≡ []
  nothing_opened = no_opened other.stamps.opened
      (λ object. is_nothing (opened_of other.stamps.opened object)
      (λ written e. unlocked object Marked ((h.stamps.each j other there).marked object written e)))

  abbrev both : View N
  both = joined view other

  mine : IsChronicle ground.history (chronicle_of view)
  mine = h.history.each id view here

  theirs : IsChronicle ground.history (chronicle_of other)
  theirs = h.history.each j other there

  abbrev rights : List ℕ
  rights = view.rights ++ other.rights

  -- how what was seen by each stands to what was seen by both
  record IsJoined (seen : List (Entry N)) : Type 0 where
    rest : List (Entry N)
    begins : seen ++ rest ≡ ground.history
    others : OfOthers rights rest
    view_middle : List (Entry N)
    view_seen : view.seen ++ view_middle ≡ seen
    view_others : OfOthers view.rights view_middle
    other_middle : List (Entry N)
    other_seen : other.seen ++ other_middle ≡ seen
    other_others : OfOthers other.rights other_middle
    longest : (view.seen ≡ ground.history) ⊎ (other.seen ≡ ground.history) → seen ≡ ground.history

  full : (seen rest : List (Entry N)) → seen ++ rest ≡ ground.history
      → length ground.history ≤ length seen → seen ≡ ground.history
  full seen [] e few = sym (append-nil seen) ∙ e
  full seen (entry ∷ more) e few = absurd
      (omega (arith, ap length e, length-append seen (entry ∷ more)))

  if_view : length other.seen ≤ length view.seen → IsJoined view.seen
  if_view few =
      let b = between view.seen other.seen mine.begins.0 theirs.begins.0 ground.history
      mine.begins.1 theirs.begins.1 few in
      let all : OfOthers other.rights (b.middle ++ mine.begins.0) = subst (OfOthers other.rights)
      (sym b.rest_is) theirs.rest in record {
        rest = mine.begins.0;
        begins = mine.begins.1;
        others = of_neither view.rights other.rights mine.begins.0 mine.rest
            (All-rest (λ (e : Entry N). is_among e.rank other.rights ≡ false)
            b.middle mine.begins.0 all);
        view_middle = [];
        view_seen = append-nil view.seen;
        view_others = tt;
        other_middle = b.middle;
        other_seen = b.long_is;
        other_others = All-first
            (λ (e : Entry N). is_among e.rank other.rights ≡ false) b.middle mine.begins.0 all;
        longest = λ long. elim long [
          | inl is ↦ is
          | inr is ↦ full view.seen mine.begins.0 mine.begins.1 (omega (arith, ap length is))
        ];
      }

  if_other : length view.seen ≤ length other.seen → IsJoined other.seen
  if_other few =
      let b = between other.seen view.seen theirs.begins.0 mine.begins.0 ground.history
      theirs.begins.1 mine.begins.1 few in
      let all : OfOthers view.rights (b.middle ++ theirs.begins.0) = subst (OfOthers view.rights)
      (sym b.rest_is) mine.rest in record {
        rest = theirs.begins.0;
        begins = theirs.begins.1;
        others = of_neither view.rights other.rights theirs.begins.0
            (All-rest (λ (e : Entry N). is_among e.rank view.rights ≡ false)
            b.middle theirs.begins.0 all) theirs.rest;
        view_middle = b.middle;
        view_seen = b.long_is;
        view_others = All-first
            (λ (e : Entry N). is_among e.rank view.rights ≡ false) b.middle theirs.begins.0 all;
        other_middle = [];
        other_seen = append-nil other.seen;
        other_others = tt;
        longest = λ long. elim long [
          | inl is ↦ full other.seen theirs.begins.0 theirs.begins.1 (omega (arith, ap length is))
          | inr is ↦ is
        ];
      }

  together : IsJoined (longer view.seen other.seen)
  together =
      elim (cases_lt (length view.seen) (length other.seen)) [
        | inl less ↦
            let t : nat_le (length other.seen) (length view.seen) ≡ false = grind
            (arith, nat_tests) in
            subst IsJoined (sym (ap (λ b. cond b view.seen other.seen) t)) (if_other (omega arith))
        | inr not ↦
            let t : nat_le (length other.seen) (length view.seen) ≡ true = grind
            (arith, nat_tests) in
            subst IsJoined (sym (ap (λ b. cond b view.seen other.seen) t)) (if_view (omega arith))
      ]

  places_both : (block : Place)
      → times block (places_of (view.private ++ other.private)) ≡ times block
      (places_of view.private) + times block (places_of other.private)
  places_both block = ap (times block)
      (map-append (λ (one : OwnBlock). one.block) view.private other.private)
      ∙ times-append block (places_of view.private) (places_of other.private)

  on_both : (rank : ℕ)
      → count_on rank (places_of (view.private ++ other.private)) ≡ count_on rank
      (places_of view.private) + count_on rank (places_of other.private)
  on_both rank =
      ap (count_on rank) (map-append (λ (one : OwnBlock). one.block) view.private other.private)
      ∙ sum_by-append (λ (block : Place). cond (eqb block.rank rank) 1 0) (places_of view.private)
      (places_of other.private)

  spent_beside : beside_hand (spent {N = N}) ≡ beside_hand other
  spent_beside k = record (beside_hand other) {
    locks = sym idle.locks k;
    dirty = sym nothing_dirty k;
    gate = sym idle.gate k;
    stamps = record { opened = sym nothing_opened k; notes = []; place = None; changes = [] };
  }

  hand : IsHandover shape words ground view other both spent
  hand = record {
    beside_one = refl;
    beside_other = spent_beside;
    live = λ none. live (first_none view.rights other.rights none);
    spent = λ none. refl;
    rights = λ rank below. omega
        (arith, sum_by-append (λ right. cond (eqb right rank) 1 0) view.rights other.rights);
    one_ranks = ranks_of_both shape.ranks view.rights other.rights
        (h.rights.are_ranks id (stake_of view) (at_map stake_of views id view here))
        (h.rights.are_ranks j (stake_of other) (at_map stake_of views j other there));
    other_ranks = tt;
    allowance = omega arith;
    blocks = λ block. omega (arith, places_both block);
    one_known = All-append _ view.private other.private (h.own id view here) (h.own j other there);
    other_known = tt;
    one_cells = λ block i word has e. absurd (cc e);
    other_cells = λ block i word has e. absurd (cc e);
    one_held = record {
      read = λ object known e. absurd (cc e);
      marked = (h.holdings id view here).marked;
    };
    other_held = record {
      read = λ object known e. absurd (cc e);
      marked = λ object dirt e. absurd (cc e);
    };
    one_memory = λ object known e. absurd (cc e);
    other_memory = λ object known e. absurd (cc e);
    one_stock = λ rank. omega (arith, h.room id view here rank, on_both rank);
    other_stock = λ rank. omega (arith, sum_below-zero shape.blocks);
    one_notes = record { notes = tt; alone = λ alone. record { now = tt; bounds = tt } };
    other_notes = record { notes = tt; alone = λ alone. record { now = tt; bounds = tt } };
    one_chronicle = record {
      begins = (together.rest, together.begins);
      own = refl;
      rest = together.others;
    };
    other_chronicle =
        record { begins = (ground.history, refl); own = refl; rest = nobody ground.history };
    one_heard = (
      (
        (together.view_middle, together.view_seen),
        mine.own
            ∙ numbers-rest view.rights view.seen together.view_middle
            (longer view.seen other.seen) together.view_seen together.view_others,
      ),
      (
        (
          (together.other_middle, together.other_seen),
          theirs.own
              ∙ numbers-rest other.rights other.seen together.other_middle
              (longer view.seen other.seen) together.other_seen together.other_others,
        ),
        tt,
      ),
    );
    other_heard = tt;
    longest = together.longest;
  }

  pub join_lawful : IsLawful fits shape words (set (set views id both) j spent)
  join_lawful = record {
    ground = _;
    holds = handover_keeps fits shape words views ground h id j view other both spent here there
        ne hand;
  }

-- a join is one that the table allows
pub join_allowed : {S N : Type 0} (fits : Shape → Entry N → Type 0) (shape : Shape) (id j : ℕ)
    (view other : View N) → view.rights ≢ [] → IsIdle other
    → Joins (IsRuled {S = S} fits shape) id view j other (joined view other) spent
join_allowed fits shape id j view other live idle state ruled here ne there = record {
  sized = ruled.sized;
  lawful = join_lawful fits shape
      (words_in shape state.words)
      state.views ruled.lawful.ground ruled.lawful.holds id j view other here
      (sym (set_else state.views id j (joined view other) ne) ∙ there) ne live idle;
}
