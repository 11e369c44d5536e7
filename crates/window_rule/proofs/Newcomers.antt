-- A spent view more changes nothing.
use Rattle.std.proofs.Common.{None, Some, ◌≡◌, ℕ, zero, suc, ◌+◌, ◌<◌, Bool, List, [], ◌∷◌, ◌++◌, map, length, length-set, set, get_or, refl, sym, ap, ◌∙◌, subst, inl, inr, arith, Option}
use Rattle.std.specs.List.{AllByRecursion, sum_by}
use Rattle.std.proofs.lemmas.List.{map-append, set-append_left}
use Rattle.std.proofs.Math.Seq.{set-append_seam}
use Rattle.std.proofs.lemmas.List.Sums.{sum_by_push}
use lib.ListN.{get_elem?}
use Rattle.atomic_table.proofs.Lists.{at_snoc, at_longer}
use Rattle.object_words.specs.Entries.{Entry, store_after}
use Rattle.object_words.specs.Contents.{content_of}
use Rattle.rma_layout.specs.declared.word.Word.TheVariants.{Commit, Stamp}
use Rattle.rma_layout.specs.Shape.{Shape}
use Rattle.rma_layout.specs.Placement.{Place}
use Rattle.window_rule.specs.View.{View, Hold, GatePlace, Outside, spent}
use Rattle.window_rule.specs.Locks.{hold_of, in_all, shares_of, lasting_of, marks_of}
use Rattle.window_rule.specs.Dirty.{dirt_of}
use Rattle.window_rule.specs.Words.{Words, data_in, nexts_in, heads_in}
use Rattle.window_rule.specs.EachView.{EachView}
use Rattle.window_rule.specs.RightsHold.{Stake, stake_of, right_count, AreRanks}
use Rattle.window_rule.specs.GateHolds.{writers_of, wholes_of, lasting_writers_of, lasting_wholes_of}
use Rattle.window_rule.specs.HistoryHolds.{AreHeard, past_of, IsChronicle, chronicle_of, is_among}
use Rattle.window_rule.specs.ContentsHold.{AreHeld, holdings_of, IsOwnKnown, IsDirtOrNone, AreCells, stash_of}
use Rattle.window_rule.specs.MemoryHolds.{Remembers, memory_of}
use Rattle.window_rule.specs.RoomHolds.{HasStock, stock_of}
use Rattle.window_rule.specs.Partition.{Holder, FreeOf, OwnOf, Within, part_of, places_of, times}
use Rattle.window_rule.specs.NotesHold.{AreNoted, notebook_of}
use Rattle.window_rule.specs.StampsHold.{IsOpenState, IsOpened, open_state_of, opened_of}
use Rattle.window_rule.specs.Lawful.{Holds, Ground, locks_of, owns_of}
use Rattle.window_rule.proofs.Sums.{sum_below-zero}

-- what stands at a number is the same where the default stands at the end
pub get_or-push : {A : Type 0} (l : List A) (d : A) (i : ℕ)
    → get_or (l ++ d ∷ []) i d ≡ get_or l i d
get_or-push [] d zero = refl
get_or-push [] d (suc i) = refl
get_or-push (x ∷ xs) d zero = refl
get_or-push (x ∷ xs) d (suc i) = get_or-push xs d i

-- a view that joins at the end, and then changes with another, is added as it is then
pub set_and_last : {A : Type 0} (l : List A) (i : ℕ) (x y z : A) → i < length l
    → set (set (l ++ y ∷ []) i x) (length l) z ≡ set l i x ++ z ∷ []
set_and_last l i x y z below =
    ap (λ k. set k (length l) z) (set-append_left l (y ∷ []) i x below)
    ∙ (ap (λ n. set (set l i x ++ y ∷ []) n z) (sym (length-set l i x))
    ∙ set-append_seam (set l i x) y [] z)

pub EachView-push : {V A : Type 0} (part : V → A) (P : A → Type 0) (views : List V) (last : V)
    → P (part last) → EachView part (λ _. P) views → EachView part (λ _. P) (views ++ last ∷ [])
EachView-push part P views last mine h i view at =
    elim (at_snoc views last view i at) [
      | inl was ↦ h i view was
      | inr same ↦ subst (λ v. P (part v)) same mine
    ]

-- no entry is of a view without rights
pub nobody : {N : Type 0} (entries : List (Entry N))
    → AllByRecursion (λ (entry : Entry N). is_among entry.rank [] ≡ Bool.false) entries
nobody [] = tt
nobody (entry ∷ rest) = (refl, nobody rest)

module _ {N : Type 0} (fits : Shape → Entry N → Type 0) (shape : Shape) (words : Words)
    (views : List (View N)) (ground : Ground N) (h : Holds fits shape words views ground) where
  abbrev more : List (View N)
  more = views ++ spent ∷ []

  stakes_sum : (f : Stake → ℕ)
      → sum_by f (map stake_of more) ≡ sum_by f (map stake_of views) + f (stake_of (spent {N = N}))
  stakes_sum f = ap (sum_by f) (map-append stake_of views (spent ∷ []))
      ∙ sum_by_push f (map stake_of views) (stake_of (spent {N = N}))

  locks_sum : (count : Option Hold → ℕ) (object : Place)
      → in_all count object (map locks_of more) ≡ in_all count object (map locks_of views) + count
      (hold_of [] object)
  locks_sum count object = ap (in_all count object) (map-append locks_of views (spent ∷ []))
      ∙ sum_by_push (λ locks. count (hold_of locks object)) (map locks_of views) []

  abbrev gate_of : View N → GatePlace
  gate_of v = v.gate

  gate_sum : (f : GatePlace → ℕ) → f Outside ≡ 0
      → sum_by f (map gate_of more) ≡ sum_by f (map gate_of views)
  gate_sum f none = ap (sum_by f) (map-append gate_of views (spent ∷ []))
      ∙ (sum_by_push f (map gate_of views) Outside ∙ omega arith)

  part_more : {A : Type 0} (part : View N → A) (i : ℕ)
      → get_or (map part more) i (part spent) ≡ get_or (map part views) i (part spent)
  part_more part i = ap (λ l. get_or l i (part spent)) (map-append part views (spent ∷ []))
      ∙ get_or-push (map part views) (part spent) i

  same_part : (holder : Holder)
      → part_of ground.free (owns_of more) ground.objects holder ≡ part_of ground.free
      (owns_of views) ground.objects holder
  same_part (FreeOf rank) = refl
  same_part (OwnOf i) = ap places_of (part_more (λ (v : View N). v.private) i)
  same_part (Within object) = refl

  pub newcomer_keeps : Holds fits shape words more ground
  newcomer_keeps = record {
    rights = record {
      each_once = λ rank below. omega (
        arith,
        h.rights.each_once rank below,
        stakes_sum (λ (s : Stake). right_count rank s.rights),
      );
      few_commits = omega (arith, h.rights.few_commits, stakes_sum (λ (s : Stake). s.allowance));
      are_ranks = λ i stake at. elim
          (at_snoc (map stake_of views) (stake_of (spent {N = N})) stake i
          (ap (λ l. get_elem? l i) (sym (map-append stake_of views (spent ∷ []))) ∙ at)) [
            | inl was ↦ h.rights.are_ranks i stake was
            | inr same ↦ subst (λ (s : Stake). AreRanks shape.ranks s.rights) same tt
          ];
    };
    spent = λ i view at none. elim (at_snoc views spent view i at) [
      | inl was ↦ h.spent i view was none
      | inr same ↦ sym same
    ];
    locks = record {
      counted = λ object block. let was = h.locks.counted object block in record {
        word_is = omega (arith, was.word_is, locks_sum shares_of object, locks_sum marks_of object);
        one_mark = omega (arith, was.one_mark, locks_sum marks_of object);
        apart = λ one. omega (
          arith,
          was.apart (omega (arith, locks_sum marks_of object)),
          locks_sum lasting_of object,
        );
      };
      of_blocks = λ id locks object hold there is. elim
          (at_snoc (map locks_of views) [] locks id
          (sym (ap (λ l. get_elem? l id) (map-append locks_of views (spent ∷ []))) ∙ there)) [
            | inl was ↦ h.locks.of_blocks id locks object hold was is
            | inr same ↦ absurd
                (let none : None ≡ Some hold = ap (λ l. hold_of l object) same ∙ is in cc none)
          ];
    };
    gate = record {
      word_is = omega (arith, h.gate.word_is, gate_sum writers_of refl, gate_sum wholes_of refl);
      apart = λ some. omega (
        arith,
        gate_sum lasting_writers_of refl,
        h.gate.apart (omega (arith, gate_sum lasting_wholes_of refl)),
      );
    };
    history = record {
      counted = h.history.counted;
      held = (
        h.history.held.0,
        h.history.held.1,
        at_longer views (spent ∷ []) h.history.held.0 h.history.held.1 h.history.held.2,
        h.history.held.3,
      );
      each = EachView-push (chronicle_of {N = N}) (IsChronicle ground.history) views spent
          (record { begins = (ground.history, refl); own = refl; rest = nobody ground.history })
          h.history.each;
      heard = EachView-push (past_of {N = N}) AreHeard views spent tt h.history.heard;
      legal = h.history.legal;
      fitting = h.history.fitting;
      ranked = h.history.ranked;
    };
    objects = h.objects;
    lie = h.lie;
    free = h.free;
    blocks = record {
      each = λ holder block. ap (times block) (same_part holder)
          ∙ h.blocks.each holder block;
      reserved = h.blocks.reserved;
    };
    contents = h.contents;
    dirt = λ i object. subst
        (λ d. IsDirtOrNone (content_of (store_after ground.history) object)
        (ground.objects object) i (dirt_of d object)) (sym (part_more (λ (v : View N). v.dirty) i))
        (h.dirt i object);
    holdings = EachView-push (holdings_of {N = N}) (AreHeld ground.objects) views spent
        (record {
          read = λ object reading e. absurd (cc e);
          marked = λ object dirt e. absurd (cc e);
        }) h.holdings;
    own = EachView-push (λ (v : View N). v.private)
        (AllByRecursion (IsOwnKnown (nexts_in words))) views spent tt h.own;
    memory = EachView-push (memory_of {N = N}) (Remembers shape) views spent
        (λ object known e. absurd (cc e)) h.memory;
    cells = EachView-push (stash_of {N = N}) (AreCells (data_in words)) views spent
        (λ block i word has e. absurd (cc e)) h.cells;
    room = EachView-push (stock_of {N = N}) (HasStock shape) views spent
        (λ rank. omega (arith, sum_below-zero shape.blocks)) h.room;
    notes = EachView-push (notebook_of {N = N})
        (AreNoted shape (heads_in words) ground.free) views spent
        (record { notes = tt; alone = λ alone. record { now = tt; bounds = tt } }) h.notes;
    stamps = record {
      bound = h.stamps.bound;
      closed = h.stamps.closed;
      odd = h.stamps.odd;
      opened = λ i object block. subst
          (λ o. IsOpened (words Commit) (words (Stamp object)) i (ground.opener object)
          (opened_of o object)) (sym (part_more (λ (v : View N). v.stamps.opened) i))
          (h.stamps.opened i object block);
      each = EachView-push (open_state_of {N = N}) IsOpenState views spent
          (record {
            marked = λ object written e. absurd (cc e);
            dirty = λ object dirt e. absurd (cc e);
          }) h.stamps.each;
    };
  }
