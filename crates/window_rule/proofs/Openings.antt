-- The words that a window begins with are lawful, with the view that stands for every rank.
use Rattle.std.proofs.Common.{◌≡◌, ◌≢◌, ℕ, zero, suc, ◌+◌, ◌-◌, ◌*◌, ◌/◌, ◌%◌, ◌<◌, ◌≤◌, ◌&&◌, not, ◌==◌, ◌⊎◌, Bool, true, false, Some, None, get_or, cond, eqb, ltb, List, [], ◌∷◌, set, replicate, map, refl, sym, ap, ◌∙◌, subst, inl, inr, arith, nat_le, nat_lt, lt-ltb, length-set, ◌^◌}
use Rattle.std.specs.List.{AllByRecursion, range_with_len}
use Rattle.std.proofs.lemmas.Bool.{cases_eq, cases_lt, ltb-true, le-ltb}
use Rattle.object_words.specs.Contents.{is_empty}
use Rattle.std.proofs.lemmas.Bool.Decides.{nat_tests}
use Rattle.std.proofs.lemmas.List.Sums.{sum_by-cons}
use Rattle.std.proofs.lemmas.Nat.{mul-add-lt}
use mathlib.Core.Option.{some, some-injective, some-ne-none}
use lib.ListN.{get_elem?, length-replicate, get_or-replicate}
use Rattle.atomic_table.specs.Table.{opening}
use Rattle.std.proofs.lemmas.List.Elements.{All-nil}
use Rattle.object_words.specs.Entries.{Entry, HasMaps}
use Rattle.rma_layout.specs.declared.word.Word.{Word}
use Rattle.rma_layout.specs.declared.word.Word.TheVariants.{Lock, Length, FreeList, Stamp, Data, Head, Gate, Commit}
use Rattle.rma_layout.specs.Shape.{Shape, window_words, reserved_blocks}
use Rattle.rma_layout.specs.Ranges.{IsInRange}
use Rattle.rma_layout.specs.Placement.{Place, IsBlock}
use Rattle.rma_layout.specs.Words.{IsWord, number_of, word_in}
use Rattle.rma_layout.proofs.WordLemmas.{word_in-set_same, word_in-set_other, same_from_number_of, number_of-lt}
use Rattle.window_rule.specs.View.{View}
use Rattle.window_rule.specs.RightsHold.{Stake, stake_of, right_count, AreRanks, IsAlone}
use Rattle.window_rule.specs.Lawful.{IsRuled, Holds, Ground, owns_of, dirts_of}
use Rattle.window_rule.specs.Words.{Words, is_block, words_in, sizes_in, data_in, nexts_in, heads_in}
use Rattle.window_rule.specs.EachView.{EachView}
use Rattle.window_rule.specs.Locks.{hold_of}
use Rattle.window_rule.specs.Dirty.{dirt_of}
use Rattle.window_rule.specs.HistoryHolds.{AreHeard, past_of, IsChronicle, chronicle_of}
use Rattle.window_rule.specs.Objects.{IsKeptIn, ObjectsStand, LiesAt, AreThreaded, IsFreeList, number_to, first_of, tag_of}
use Rattle.free_list.specs.Heads.{head_of}
use Rattle.window_rule.specs.ContentsHold.{IsDirtOrNone, AreHeld, holdings_of, IsOwnKnown, AreCells, stash_of}
use Rattle.window_rule.specs.MemoryHolds.{Remembers, memory_of}
use Rattle.window_rule.specs.RoomHolds.{HasStock, stock_of}
use Rattle.window_rule.specs.Partition.{Holder, FreeOf, OwnOf, Within, IsPartition, part_of, times, same_holder}
use Rattle.window_rule.specs.NotesHold.{AreNoted, IsNoted, notebook_of}
use Rattle.window_rule.specs.Pool.{note_of}
use Rattle.window_rule.specs.StampsHold.{IsOpened, IsOpenState, opened_of, opened_lists, open_state_of}
use Rattle.window_rule.proofs.Sums.{sum_below-zero}
use Rattle.object_words.specs.Blocks.{one_if, is_reserved, blocks_for, on_rank as place_on}
use Rattle.rma_layout.specs.Placement.{same_place}
use Rattle.std.proofs.lemmas.Nat.{div_below}
use Rattle.window_rule.proofs.WordFunctions.{is_block-true, is_block-tells}
use Rattle.window_rule.proofs.LockLemmas.{place_cases, same_place-refl, same_place-false}
use Rattle.window_rule.proofs.WordFunctions.{words_in-word}
use Rattle.window_rule.specs.Opening.{rising_blocks, first_list, first_note, first_view, first_word_of, set_so_far, AreWords, first_next, first_head_word, order_of}

-- one word is set
pub AreWords-set : (shape : Shape) (words : List ℕ) (said after : Word → ℕ) (word : Word) (new : ℕ)
    → AreWords shape words said → IsWord shape word
    → after word ≡ new
    → ((other : Word) → IsWord shape other → other ≢ word → after other ≡ said other)
    → AreWords shape (set words (number_of shape word) new) after
AreWords-set shape words said after word new h is_word here elsewhere = record {
  all = length-set words (number_of shape word) new ∙ h.all;
  each = λ other is_other. elim (cases_eq (number_of shape other) (number_of shape word)) [
    | inl same ↦
        let equal : other ≡ word = same_from_number_of shape other word is_other is_word same in
        ap (word_in shape (set words (number_of shape word) new)) equal
        ∙ (word_in-set_same shape words word new h.all is_word ∙ (sym here ∙ ap after (sym equal)))
    | inr differ ↦
        let ne : other ≢ word = λ e. differ (ap (number_of shape) e) in
        word_in-set_other shape words word other new is_word is_other ne
        ∙ (h.each other is_other ∙ sym (elsewhere other is_other ne))
  ];
}

-- words that are all 0
zero_said : (shape : Shape) (tag : ℕ) (word : Word) → set_so_far shape tag 0 0 word ≡ 0
zero_said shape tag (Lock object) = refl
zero_said shape tag (Length object) = refl
zero_said shape tag (FreeList block) = grind (arith, nat_tests)
zero_said shape tag (Stamp object) = refl
zero_said shape tag (Data block i) = refl
zero_said shape tag (Head rank) = grind (arith, nat_tests)
zero_said shape tag Gate = refl
zero_said shape tag Commit = refl

pub AreWords-zero : (shape : Shape) (tag : ℕ)
    → AreWords shape (replicate (window_words shape) 0) (set_so_far shape tag 0 0)
AreWords-zero shape tag = record {
  all = length-replicate (window_words shape) 0;
  each = λ word is_word. get_or-replicate (window_words shape) (number_of shape word) 0 0
      (number_of-lt shape word is_word) ∙ sym (zero_said shape tag word);
}

-- one more head
head_elsewhere : (shape : Shape) (tag : ℕ) (heads : ℕ) (other : Word) → other ≢ Head heads
    → set_so_far shape tag (heads + 1) 0 other ≡ set_so_far shape tag heads 0 other
head_elsewhere shape tag heads (Lock object) ne = refl
head_elsewhere shape tag heads (Length object) ne = refl
head_elsewhere shape tag heads (FreeList block) ne = refl
head_elsewhere shape tag heads (Stamp object) ne = refl
head_elsewhere shape tag heads (Data block i) ne = refl
head_elsewhere shape tag heads (Head rank) ne = let differ : rank ≢ heads = λ e. ne (ap Head e) in grind
    (arith, nat_tests)
head_elsewhere shape tag heads Gate ne = refl
head_elsewhere shape tag heads Commit ne = refl

pub AreWords-head : (shape : Shape) (tag : ℕ) (words : List ℕ) (heads : ℕ) → heads < shape.ranks
    → AreWords shape words (set_so_far shape tag heads 0)
    → AreWords shape (set words (number_of shape (Head heads)) (first_head_word shape tag))
    (set_so_far shape tag (heads + 1) 0)
AreWords-head shape tag words heads below h =
    AreWords-set shape words (set_so_far shape tag heads 0) (set_so_far shape tag (heads + 1) 0)
    (Head heads) (first_head_word shape tag) h below
    (ap (λ test. cond test (first_head_word shape tag) 0) (lt-ltb heads (heads + 1) (omega arith)))
    (λ other is_other ne. head_elsewhere shape tag heads other ne)

-- what is set below a place is set below the next one, but at that place
order_moves : (order limit next : ℕ) → order ≢ limit
    → cond (ltb order (limit + 1)) next 0 ≡ cond (ltb order limit) next 0
order_moves order limit next differ = grind (arith, nat_tests)

-- one more block of a free list
block_elsewhere : (shape : Shape) (tag : ℕ) (heads : ℕ) (block : Place) (other : Word) → IsBlock shape block
    → IsWord shape other → other ≢ FreeList block
    → set_so_far shape tag heads (order_of shape block + 1) other ≡ set_so_far shape tag heads
    (order_of shape block) other
block_elsewhere shape tag heads block (Lock object) is_block is_other ne = refl
block_elsewhere shape tag heads block (Length object) is_block is_other ne = refl
block_elsewhere shape tag heads block (FreeList other) is_block is_other ne =
    let differ : order_of shape other ≢ order_of shape block = λ e. ne
    (same_from_number_of shape (FreeList other) (FreeList block) is_other is_block
    (ap (λ n. n * (shape.words + 4) + 2) e)) in
    order_moves (order_of shape other) (order_of shape block) (first_next shape other.block) differ
block_elsewhere shape tag heads block (Stamp object) is_block is_other ne = refl
block_elsewhere shape tag heads block (Data other i) is_block is_other ne = refl
block_elsewhere shape tag heads block (Head rank) is_block is_other ne = refl
block_elsewhere shape tag heads block Gate is_block is_other ne = refl
block_elsewhere shape tag heads block Commit is_block is_other ne = refl

pub AreWords-block : (shape : Shape) (tag : ℕ) (words : List ℕ) (heads next : ℕ) (block : Place)
    → IsBlock shape block → next ≡ order_of shape block + 1
    → AreWords shape words (set_so_far shape tag heads (order_of shape block))
    → AreWords shape (set words (number_of shape (FreeList block)) (first_next shape block.block))
    (set_so_far shape tag heads next)
AreWords-block shape tag words heads next block is_block next_is h =
    AreWords-set shape words (set_so_far shape tag heads (order_of shape block))
    (set_so_far shape tag heads next) (FreeList block) (first_next shape block.block) h is_block
    (ap (λ test. cond test (first_next shape block.block) 0)
    (lt-ltb (order_of shape block) next (omega arith)))
    (λ other is_other ne. ap (λ n. set_so_far shape tag heads n other) next_is
    ∙ block_elsewhere shape tag heads block other is_block is_other ne)

-- once all are set
all_said : (shape : Shape) (tag : ℕ) (word : Word) → IsWord shape word
    → set_so_far shape tag shape.ranks (shape.ranks * shape.blocks) word ≡ first_word_of shape tag word
all_said shape tag (Lock object) h = refl
all_said shape tag (Length object) h = refl
all_said shape tag (FreeList block) h =
    let below : order_of shape block < shape.ranks * shape.blocks = omega
    (arith, mul-add-lt block.rank shape.blocks block.block shape.ranks h.0 h.1) in
    ap (λ test. cond test (first_next shape block.block) 0)
    (lt-ltb (order_of shape block) (shape.ranks * shape.blocks) below)
all_said shape tag (Stamp object) h = refl
all_said shape tag (Data block i) h = refl
all_said shape tag (Head rank) h = ap (λ test. cond test (first_head_word shape tag) 0)
    (lt-ltb rank shape.ranks h)
all_said shape tag Gate h = refl
all_said shape tag Commit h = refl

pub AreWords-all : (shape : Shape) (tag : ℕ) (words : List ℕ)
    → AreWords shape words (set_so_far shape tag shape.ranks (shape.ranks * shape.blocks))
    → AreWords shape words (first_word_of shape tag)
AreWords-all shape tag words h =
    record { all = h.all; each = λ word is_word. h.each word is_word ∙ all_said shape tag word is_word }

abbrev one_at : ℕ → ℕ → ℕ
one_at right rank = cond (eqb right rank) 1 0

counts_none : (start n rank : ℕ) → rank < start → right_count rank (range_with_len start n) ≡ 0
counts_none start zero rank h = refl
counts_none start (suc n) rank h =
    let rest = counts_none (start + 1) n rank (omega arith) in
    let here : one_at start rank ≡ 0 = grind (arith, nat_tests) in
    omega (arith, sum_by-cons (λ right. one_at right rank) start (range_with_len (start + 1) n))

counts_one : (start n rank : ℕ) → start ≤ rank → rank < n + start
    → right_count rank (range_with_len start n) ≡ 1
counts_one start zero rank low high = absurd (omega arith)
counts_one start (suc n) rank low high =
    let cons = sum_by-cons (λ right. one_at right rank) start (range_with_len (start + 1) n) in
    elim (cases_eq start rank) [
      | inl e ↦
          let rest = counts_none (start + 1) n rank (omega arith) in
          let here : one_at start rank ≡ 1 = grind (arith, nat_tests) in
          omega arith
      | inr ne ↦
          let rest = counts_one (start + 1) n rank (omega arith) (omega arith) in
          let here : one_at start rank ≡ 0 = grind (arith, nat_tests) in
          omega arith
    ]

are_ranks : (ranks start n : ℕ) → start + n ≤ ranks → AreRanks ranks (range_with_len start n)
are_ranks ranks start zero h = tt
are_ranks ranks start (suc n) h = (omega arith, are_ranks ranks (start + 1) n (omega arith))

each_rank : {X : Type 0} (P : X → Type 0) (f : ℕ → X) (start n : ℕ)
    → ((rank : ℕ) → start ≤ rank → rank < start + n → P (f rank))
    → AllByRecursion P (map f (range_with_len start n))
each_rank P f start zero h = tt
each_rank P f start (suc n) h = (
  h start (omega arith) (omega arith),
  each_rank P f (start + 1) n (λ rank low high. h rank (omega arith) (omega arith)),
)

note_from : (shape : Shape) (tag : ℕ) (start n rank : ℕ) → start ≤ rank → rank < start + n
    → note_of (map (first_note shape tag) (range_with_len start n)) rank ≡ Some (first_note shape tag rank)
note_from shape tag start zero rank low high = absurd (omega arith)
note_from shape tag start (suc n) rank low high =
    elim (cases_eq start rank) [
      | inl same ↦
          let test : (start == rank) ≡ true = grind (arith, nat_tests) in
          ap (λ t. cond t (Some (first_note shape tag start))
          (note_of (map (first_note shape tag) (range_with_len (start + 1) n)) rank)) test
          ∙ ap (λ r. Some (first_note shape tag r)) same
      | inr ne ↦
          let test : (start == rank) ≡ false = grind (arith, nat_tests) in
          ap (λ t. cond t (Some (first_note shape tag start))
          (note_of (map (first_note shape tag) (range_with_len (start + 1) n)) rank)) test
          ∙ note_from shape tag (start + 1) n rank (omega arith) (omega arith)
    ]

-- and it has noted each free list
pub first_lists : {N : Type 0} (shape : Shape) (tag : ℕ) (view : View N) → view ≡ first_view {N = N} shape tag
    → (rank : ℕ) → rank < shape.ranks
    → note_of view.notes rank ≡ Some (first_note shape tag rank)
first_lists shape tag view first rank below =
    ap (λ v. note_of v.notes rank) first
    ∙ note_from shape tag 0 shape.ranks rank (omega arith) (omega arith)

some_rank : (ranks : ℕ) → 1 ≤ ranks → range_with_len 0 ranks ≢ []
some_rank zero h e = omega arith
some_rank (suc n) h e = absurd (cc e)

first_of_one : {X : Type 0} (x y : X) (id : ℕ) → get_elem? (x ∷ []) id ≡ some y → x ≡ y
first_of_one x y zero e = some-injective x y e
first_of_one x y (suc id) e = absurd (some-ne-none y (sym e))

times-none : (rank start n : ℕ) (block : Place) → (block.rank ≢ rank) ⊎ (block.block < start)
    → times block (rising_blocks rank start n) ≡ 0
times-none rank start zero block h = refl
times-none rank start (suc n) block h =
    let here : one_if (same_place (record { rank = rank; block = start }) block) ≡ 0 = grind
    (arith, nat_tests) in
    let rest = times-none rank (start + 1) n block
    (elim h [ inl a ↦ inl a | inr b ↦ inr (omega arith) ]) in
    omega arith

times-past : (rank start n : ℕ) (block : Place) → start + n ≤ block.block
    → times block (rising_blocks rank start n) ≡ 0
times-past rank start zero block h = refl
times-past rank start (suc n) block h =
    let here : one_if (same_place (record { rank = rank; block = start }) block) ≡ 0 = grind
    (arith, nat_tests) in
    let rest = times-past rank (start + 1) n block (omega arith) in
    omega arith

times-one : (rank start n : ℕ) (block : Place) → block.rank ≡ rank → start ≤ block.block
    → block.block < start + n → times block (rising_blocks rank start n) ≡ 1
times-one rank start zero block on low high = absurd (omega arith)
times-one rank start (suc n) block on low high =
    elim (cases_eq start block.block) [
      | inl e ↦
          let here : one_if (same_place (record { rank = rank; block = start }) block) ≡ 1 = grind
          (arith, nat_tests) in
          let rest = times-none rank (start + 1) n block (inr (omega arith)) in
          omega arith
      | inr ne ↦
          let here : one_if (same_place (record { rank = rank; block = start }) block) ≡ 0 = grind
          (arith, nat_tests) in
          let rest = times-one rank (start + 1) n block on (omega arith) (omega arith) in
          omega arith
    ]

one_rank_of : (rank start n : ℕ)
    → AllByRecursion (λ (block : Place). block.rank ≡ rank) (rising_blocks rank start n)
one_rank_of rank start zero = tt
one_rank_of rank start (suc n) = (refl, one_rank_of rank (start + 1) n)

number_of_first : (rank start n : ℕ)
    → number_to (rising_blocks rank start n) ≡ cond (ltb 0 n) start 0
number_of_first rank start zero = refl
number_of_first rank start (suc n) = sym (ap (λ t. cond t start 0) (lt-ltb 0 (suc n) (omega arith)))

threaded_from : (shape : Shape) (nexts : Place → ℕ) (rank start n : ℕ)
    → reserved_blocks shape ≤ start → start + n ≡ shape.blocks
    → ((block : ℕ) → block < shape.blocks → nexts (place_on rank block) ≡ first_next shape block)
    → AreThreaded nexts (rising_blocks rank start n)
threaded_from shape nexts rank start zero low high h = tt
threaded_from shape nexts rank start (suc n) low high h = (
  h start (omega arith)
      ∙ (let next : first_next shape start ≡ cond (ltb 0 n) (start + 1) 0 = grind
      (arith, nat_tests) in next ∙ sym (number_of_first rank (start + 1) n)),
  threaded_from shape nexts rank (start + 1) n (omega arith) (omega arith) h,
)

abbrev first_ground : {N : Type 0} → Shape → Ground N
first_ground shape = record {
  history = [];
  objects = λ object.
      record {
        writer = None;
        chain = cond (is_reserved shape object.block && is_block shape object) (object ∷ []) [];
        content = Some [];
      };
  free = λ rank. cond (ltb rank shape.ranks) (first_list shape rank) [];
  owner = λ block. cond (is_reserved shape block.block) (Within block) (FreeOf block.rank);
  opener = λ object. None;
}

no_dirt : (N : Type 0) (shape : Shape) (tag : ℕ) (id : ℕ) (object : Place)
    → dirt_of (get_or (dirts_of (first_view {N = N} shape tag ∷ [])) id []) object ≡ None
no_dirt N shape tag zero object = refl
no_dirt N shape tag (suc id) object = refl

none_open : (N : Type 0) (shape : Shape) (tag : ℕ) (id : ℕ) (object : Place)
    → opened_of (get_or (opened_lists (first_view {N = N} shape tag ∷ [])) id []) object ≡ None
none_open N shape tag zero object = refl
none_open N shape tag (suc id) object = refl

first_only : {N A : Type 0} (shape : Shape) (tag : ℕ) (part : View N → A) (Holds : ℕ → A → Type 0)
    → Holds 0 (part (first_view {N = N} shape tag))
    → EachView part Holds (first_view {N = N} shape tag ∷ [])
first_only {N} shape tag part Holds h zero view there = subst (λ (v : View N). Holds 0 (part v))
    (some-injective (first_view shape tag) view there) h
first_only {N} shape tag part Holds h (suc id) view there = absurd (some-ne-none view (sym there))

one_block : (per : ℕ) → 0 < per → blocks_for 0 per ≡ 1
one_block per positive = let none : (0 + (per - 1)) / per < 1 = div_below
    (0 + (per - 1)) per 1 positive (omega arith) in omega arith

flip : (a b here : Bool) → (a && b) ≡ here → one_if (b && (a && true)) ≡ one_if here
flip true true here e = ap one_if e
flip true false here e = ap one_if e
flip false true here e = ap one_if e
flip false false here e = ap one_if e

and_none : (a b : Bool) → one_if (a && (b && false)) ≡ 0
and_none true true = refl
and_none true false = refl
and_none false b = refl

times_itself : (object : Place) (here : Bool)
    → times object (cond here (object ∷ []) []) ≡ one_if here
times_itself object true = let one : one_if (same_place object object) ≡ 1 = ap one_if
    (same_place-refl object) in omega arith
times_itself object false = refl

times_other : (object block : Place) (here : Bool) → block ≢ object
    → times block (cond here (object ∷ []) []) ≡ 0
times_other object block true ne = let none : one_if (same_place object block) ≡ 0 = ap one_if
    (same_place-false object block (λ e. ne (sym e))) in omega arith
times_other object block false ne = refl

first_in_head : (tag block : ℕ) → block < 2 ^ 20 → first_of (head_of tag block) ≡ block
first_in_head tag block h = omega arith

tag_in_head : (tag block : ℕ) → block < 2 ^ 20 → tag_of (head_of tag block) ≡ tag
tag_in_head tag block h = omega arith

with_free : (inside low : Bool) (block : Place) (rank : ℕ)
    → one_if (inside && same_holder (cond low (Within block) (FreeOf block.rank)) (FreeOf rank))
    ≡ one_if (inside && (not low && block.rank == rank))
with_free true true block rank = refl
with_free true false block rank = refl
with_free false low block rank = refl

with_none : (inside low : Bool) (block : Place) (id : ℕ)
    → one_if (inside && same_holder (cond low (Within block) (FreeOf block.rank)) (OwnOf id)) ≡ 0
with_none true true block id = refl
with_none true false block id = refl
with_none false low block id = refl

with_object : (inside low : Bool) (block object : Place)
    → one_if (inside && same_holder (cond low (Within block) (FreeOf block.rank)) (Within object))
    ≡ one_if (inside && (low && same_place block object))
with_object true true block object = refl
with_object true false block object = refl
with_object false low block object = refl

module _ {N : Type 0} (fits : Shape → Entry N → Type 0) (shape : Shape) (tag : ℕ)
    (words : List ℕ) (in_range : IsInRange shape) (h : AreWords shape words (first_word_of shape tag)) where
  abbrev all : Words
  all = words_in shape words

  abbrev ground : Ground N
  ground = first_ground {N = N} shape

  abbrev views : List (View N)
  views = first_view shape tag ∷ []

  is : (word : Word) → IsWord shape word → all word ≡ first_word_of shape tag word
  is word is_w = words_in-word shape words word is_w ∙ h.each word is_w

  chain_here : (object : Place) → IsBlock shape object → (b : Bool)
      → is_reserved shape object.block ≡ b
      → IsKeptIn shape (sizes_in all) (data_in all) object
      (cond (b && is_block shape object) (object ∷ []) []) []
  chain_here object block true e =
      subst (λ b. IsKeptIn shape (sizes_in all) (data_in all) object (cond b (object ∷ []) []) [])
      (sym (is_block-true shape object block)) (record {
        size = is (Length object) block;
        few_words = omega arith;
        blocks = sym (ap (λ b. cond (not b && is_empty []) 0 (blocks_for 0 (shape.words - 1))) e
            ∙ one_block (shape.words - 1) (omega (arith, in_range.words)));
        linked = (is (Data object 0) (block, omega (arith, in_range.words)), tt);
        payload = λ k below. absurd (omega arith);
      })
  chain_here object block false e = record {
    size = is (Length object) block;
    few_words = omega arith;
    blocks = sym (ap (λ b. cond (not b && is_empty []) 0 (blocks_for 0 (shape.words - 1))) e);
    linked = tt;
    payload = λ k below. absurd (omega arith);
  }

  objects_stand : ObjectsStand shape (sizes_in all) (data_in all) ground.objects
  objects_stand object block = chain_here object block (is_reserved shape object.block) refl

  lies : (object : Place) (b : Bool) → LiesAt object (cond b (object ∷ []) [])
  lies object true = record { begins = refl; one_rank = (refl, tt) }
  lies object false = record { begins = tt; one_rank = tt }

  next_below : (block : ℕ) → first_next shape block < 2 ^ 20
  next_below block =
      elim (cases_lt (block + 1) shape.blocks) [
        | inl more ↦ elim
            (nat_le (reserved_blocks shape) block && nat_lt (block + 1) shape.blocks) as
            (λ (b : Bool). cond b (block + 1) 0 < 2 ^ 20)
            [ true ↦ omega (arith, in_range.blocks) | false ↦ omega arith ]
        | inr last ↦ let t : first_next shape block ≡ 0 = grind (arith, nat_tests) in omega arith
      ]

  link_below : (block : Place) (b : Bool) → is_block shape block ≡ b
      → cond b (word_in shape words (FreeList block)) 0 < 2 ^ 20
  link_below block true inside = let w = h.each (FreeList block)
      (is_block-tells shape block inside) in omega (arith, next_below block.block)
  link_below block false outside = omega arith

  free_list : (rank : ℕ) (b : Bool) → ltb rank shape.ranks ≡ b
      → IsFreeList (heads_in all) (nexts_in all) rank (cond b (first_list shape rank) [])
  free_list rank true e =
      let below : rank < shape.ranks = ltb-true rank shape.ranks e in
      let reserved = reserved_blocks shape in
      record {
        first = ap first_of (is (Head rank) below) ∙ (elim (cases_lt reserved shape.blocks) [
          | inl some_free ↦
              ap (λ t. first_of (head_of tag (cond t reserved 0)))
              (lt-ltb reserved shape.blocks some_free)
              ∙ (first_in_head tag reserved (omega (arith, in_range.blocks))
              ∙ sym (number_of_first rank reserved (shape.blocks - reserved)
              ∙ ap (λ t. cond t reserved 0) (lt-ltb 0 (shape.blocks - reserved) (omega arith))))
          | inr none_free ↦
              ap (λ t. first_of (head_of tag (cond t reserved 0)))
              (le-ltb reserved shape.blocks none_free)
              ∙ (first_in_head tag 0 (omega arith)
              ∙ sym (number_of_first rank reserved (shape.blocks - reserved)
              ∙ ap (λ t. cond t reserved 0) (le-ltb 0 (shape.blocks - reserved) (omega arith))))
        ]);
        threaded = threaded_from shape (nexts_in all) rank reserved (shape.blocks - reserved)
            (omega arith) (omega (arith, in_range.blocks))
            (λ block inside. is (FreeList (place_on rank block)) (below, inside));
        one_rank = one_rank_of rank reserved (shape.blocks - reserved);
      }
  free_list rank false e = record {
    first = ap (λ b. first_of (cond b (word_in shape words (Head rank)) 0)) e;
    threaded = tt;
    one_rank = tt;
  }

  free_times : (rank : ℕ) (block : Place)
      → times block (ground.free rank) ≡ one_if
      (is_block shape block && (not (is_reserved shape block.block) && block.rank == rank))
  free_times rank block =
      let reserved = reserved_blocks shape in
      let n = shape.blocks - reserved in
      elim (cases_lt rank shape.ranks) [
        | inr past ↦ ap (λ t. times block (cond t (rising_blocks rank reserved n) []))
            (le-ltb rank shape.ranks past)
            ∙ sym (let none : one_if
            (is_block shape block && (not (is_reserved shape block.block) && block.rank == rank))
            ≡ 0 = grind (arith, nat_tests) in none)
        | inl below ↦ ap (λ t. times block (cond t (rising_blocks rank reserved n) []))
            (lt-ltb rank shape.ranks below) ∙ (elim (cases_eq block.rank rank) [
              | inr ne ↦ times-none rank reserved n block (inl ne)
                  ∙ sym (let none : one_if
                  (is_block shape block && (not (is_reserved shape block.block) && block.rank == rank))
                  ≡ 0 = grind (arith, nat_tests) in none)
              | inl on ↦ elim (cases_lt block.block reserved) [
                | inl low ↦ times-none rank reserved n block (inr low)
                    ∙ sym (let none : one_if
                    (is_block shape block &&
                    (not (is_reserved shape block.block) && block.rank == rank)) ≡ 0 = grind
                    (arith, nat_tests) in none)
                | inr high ↦ elim (cases_lt block.block shape.blocks) [
                  | inl inside ↦ times-one rank reserved n block on high (omega arith)
                      ∙ sym (let one : one_if
                      (is_block shape block &&
                      (not (is_reserved shape block.block) && block.rank == rank)) ≡ 1 = grind
                      (arith, nat_tests) in one)
                  | inr past ↦ times-past rank reserved n block (omega (arith, in_range.blocks))
                      ∙ sym (let none : one_if
                      (is_block shape block &&
                      (not (is_reserved shape block.block) && block.rank == rank)) ≡ 0 = grind
                      (arith, nat_tests) in none)
                ]
              ]
            ])
      ]

  object_times : (object block : Place) (here : Bool)
      → (is_reserved shape object.block && is_block shape object) ≡ here
      → times block (cond here (object ∷ []) []) ≡ one_if
      (is_block shape block && (is_reserved shape block.block && same_place block object))
  object_times object block here e =
      elim (place_cases block object) [
        | inl same ↦
            ap (λ p. times p (cond here (object ∷ []) [])) same
            ∙ (times_itself object here
            ∙ (sym (flip (is_reserved shape object.block) (is_block shape object) here e)
            ∙ (ap (λ t. one_if (is_block shape object && (is_reserved shape object.block && t)))
            (sym (same_place-refl object))
            ∙ sym (ap (λ p. one_if
            (is_block shape p && (is_reserved shape p.block && same_place p object))) same))))
        | inr ne ↦
            times_other object block here ne
            ∙ sym (ap (λ t. one_if (is_block shape block && (is_reserved shape block.block && t)))
            (same_place-false block object ne)
            ∙ and_none (is_block shape block) (is_reserved shape block.block))
      ]

  each_part : (holder : Holder) (block : Place)
      → times block (part_of ground.free (owns_of views) ground.objects holder) ≡ one_if
      (is_block shape block && same_holder (ground.owner block) holder)
  each_part (FreeOf rank) block = free_times rank block
      ∙ sym (with_free (is_block shape block) (is_reserved shape block.block) block rank)
  each_part (OwnOf zero) block = sym
      (with_none (is_block shape block) (is_reserved shape block.block) block zero)
  each_part (OwnOf (suc id)) block = sym
      (with_none (is_block shape block) (is_reserved shape block.block) block (suc id))
  each_part (Within object) block = object_times object block
      (is_reserved shape object.block && is_block shape object) refl
      ∙ sym (with_object (is_block shape block) (is_reserved shape block.block) block object)

  parted : IsPartition shape (part_of ground.free (owns_of views) ground.objects) ground.owner
  parted = record {
    each = each_part;
    reserved = λ block is_b low. ap (λ t. cond t (Within block) (FreeOf block.rank))
        (lt-ltb block.block (reserved_blocks shape) low);
  }

  -- each head has the tag
  tag_is : (rank : ℕ) → rank < shape.ranks → tag_of (heads_in all rank) ≡ tag
  tag_is rank below = ap tag_of (is (Head rank) below) ∙ (elim
      (cases_lt (reserved_blocks shape) shape.blocks) [
        | inl some_free ↦
            ap (λ t. tag_of (head_of tag (cond t (reserved_blocks shape) 0)))
            (lt-ltb (reserved_blocks shape) shape.blocks some_free)
            ∙ tag_in_head tag (reserved_blocks shape) (omega (arith, in_range.blocks))
        | inr none_free ↦
            ap (λ t. tag_of (head_of tag (cond t (reserved_blocks shape) 0)))
            (le-ltb (reserved_blocks shape) shape.blocks none_free) ∙ tag_in_head tag 0 (omega arith)
      ])

  noted_first : (rank : ℕ) → 0 ≤ rank → rank < 0 + shape.ranks
      → IsNoted (heads_in all) ground.free (first_note shape tag rank)
  noted_first rank low high =
      let below : rank < shape.ranks = omega arith in
      let head = is (Head rank) below in
      let same : tag_of (first_head_word shape tag) ≡ tag_of (heads_in all rank) = ap tag_of
      (sym head) in record {
        tag = omega (arith, same);
        same = λ _. record {
          head = sym head;
          list = sym (ap (λ t. cond t (first_list shape rank) []) (lt-ltb rank shape.ranks below));
          next = λ next e. absurd (cc e);
        };
      }

  pub opening_holds : Holds fits shape all views ground
  opening_holds = record {
    rights = record {
      each_once = λ rank below. omega (
        arith,
        counts_one 0 shape.ranks rank (omega arith) (omega arith),
        sum_by-cons (λ (stake : Stake). right_count rank stake.rights)
            (stake_of (first_view {N = N} shape tag)) [],
      );
      are_ranks = λ id stake there. subst (λ (s : Stake). AreRanks shape.ranks s.rights)
          (first_of_one (stake_of (first_view {N = N} shape tag)) stake id there)
          (are_ranks shape.ranks 0 shape.ranks (omega arith));
      few_commits = omega (arith, is Commit tt);
    };
    spent = λ id view there none. absurd
        (some_rank shape.ranks in_range.ranks.0
        (ap (λ (v : View N). v.rights) (first_of_one (first_view {N = N} shape tag) view id there)
        ∙ none));
    locks = record {
      counted = λ object block.
          record {
            word_is = is (Lock object) block;
            one_mark = omega arith;
            apart = λ one. omega arith;
          };
      of_blocks = λ id locks object hold there is_hold. absurd
          (let none : None ≡ Some hold = ap (λ l. hold_of l object) (first_of_one [] locks id there)
          ∙ is_hold in cc none);
    };
    gate = record { word_is = is Gate tt; apart = λ some. absurd (omega arith) };
    history = record {
      counted = is Commit tt;
      held = (0, first_view shape tag, refl, refl);
      each = first_only {N = N} shape tag (chronicle_of {N = N}) (λ _. IsChronicle [])
          (record { begins = ([], refl); own = refl; rest = tt });
      heard = first_only {N = N} shape tag (past_of {N = N}) (λ _. AreHeard) tt;
      legal = record { maps = All-nil HasMaps; reads = tt; blocks = λ _. tt };
      fitting = tt;
      ranked = tt;
    };
    objects = objects_stand;
    lie = λ object. lies object (is_reserved shape object.block && is_block shape object);
    free = record {
      lists = λ rank. free_list rank (ltb rank shape.ranks) refl;
      links = λ block. link_below block (is_block shape block) refl;
    };
    blocks = parted;
    contents = λ object block none. refl;
    dirt = λ id object. subst (IsDirtOrNone [] (ground.objects object) id)
        (sym (no_dirt N shape tag id object)) (λ e. cc e);
    holdings = first_only {N = N} shape tag (holdings_of {N = N}) (λ _. AreHeld ground.objects)
        (record {
          read = λ object reading e. absurd (cc e);
          marked = λ object dirt e. absurd (cc e);
        });
    own = first_only {N = N} shape tag (λ (v : View N). v.private)
        (λ _. AllByRecursion (IsOwnKnown (nexts_in all))) tt;
    memory = first_only {N = N} shape tag (memory_of {N = N}) (λ _. Remembers shape)
        (λ object known e. absurd (cc e));
    cells = first_only {N = N} shape tag (stash_of {N = N}) (λ _. AreCells (data_in all))
        (λ block i word has e. absurd (cc e));
    room = first_only {N = N} shape tag (stock_of {N = N}) (λ _. HasStock shape)
        (λ rank. omega (arith, sum_below-zero shape.blocks));
    notes = first_only {N = N} shape tag (notebook_of {N = N})
        (λ _. AreNoted shape (heads_in all) ground.free) (record {
          notes = each_rank (IsNoted (heads_in all) ground.free)
              (first_note shape tag) 0 shape.ranks noted_first;
          alone = λ alone. record {
            now = each_rank (λ note. note.head ≡ heads_in all note.rank)
                (first_note shape tag) 0 shape.ranks (λ rank low high. sym (is (Head rank) (omega arith)));
            bounds = each_rank (λ one. tag_of (heads_in all one.0) ≤ one.1)
                (λ rank. (rank, tag)) 0 shape.ranks
                (λ rank low high. omega (arith, tag_is rank (omega arith)));
          };
        });
    stamps = record {
      bound = λ object block. omega (arith, is (Stamp object) block);
      closed = λ object block none. ap (λ n. n % 2) (is (Stamp object) block);
      odd = λ object id block e. absurd (cc e);
      opened = λ id object is_b. subst (IsOpened (all Commit) (all (Stamp object)) id None)
          (sym (none_open N shape tag id object)) (λ e. cc e);
      each = first_only {N = N} shape tag (open_state_of {N = N}) (λ _. IsOpenState)
          (record {
            marked = λ object written e. absurd (cc e);
            dirty = λ object dirt e. absurd (cc e);
          });
    };
  }

pub opening_is_lawful : {S N : Type 0} (fits : Shape → Entry N → Type 0) (shape : Shape)
    (tag : ℕ) (words : List ℕ) → IsInRange shape
    → AreWords shape words (first_word_of shape tag)
    → IsRuled fits shape (opening {S = S} words [] (first_view {N = N} shape tag))
opening_is_lawful {S} {N} fits shape tag words in_range h = record {
  sized = h.all;
  lawful = record {
    ground = first_ground {N = N} shape;
    holds = opening_holds {N = N} fits shape tag words in_range h;
  };
}

-- the view that a window begins with is live
pub first_is_live : {N : Type 0} (shape : Shape) (tag : ℕ) (view : View N) → IsInRange shape
    → view ≡ first_view {N = N} shape tag → view.rights ≢ []
first_is_live {N} shape tag view in_range first none =
    some_rank shape.ranks in_range.ranks.0 (sym (ap (λ (v : View N). v.rights) first) ∙ none)

-- and alone
pub first_is_alone : {N : Type 0} (shape : Shape) (tag : ℕ) (view : View N)
    → view ≡ first_view {N = N} shape tag
    → IsAlone shape view
first_is_alone {N} shape tag view first rank below =
    let same : right_count rank view.rights ≡ right_count rank (range_with_len 0 shape.ranks) = ap
    (λ (v : View N). right_count rank v.rights) first in
    omega (arith, counts_one 0 shape.ranks rank (omega arith) (omega arith))
