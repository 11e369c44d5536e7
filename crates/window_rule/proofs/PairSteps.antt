-- The worked transaction: what each of its calls needs, it has.
use Rattle.std.proofs.Common.{◌≡◌, ◌≢◌, ℕ, zero, suc, ◌+◌, ◌-◌, ◌*◌, ◌/◌, ◌%◌, ◌<◌, ◌≤◌, not, ◌&&◌, true, false, cond, List, [], ◌∷◌, ◌++◌, length, get_or, refl, sym, ap, ◌∙◌, subst, inl, inr, arith, Option, Some, None, is_some}
use Rattle.std.proofs.lemmas.Bool.{cases_eq, cases_Bool}
use Rattle.std.proofs.lemmas.Bool.Decides.{nat_tests}
use Rattle.std.proofs.lemmas.Nat.{div-mul-add, mod-mul-add}
use Rattle.std.specs.List.{AllByRecursion}
use Rattle.std.specs.Ordering.{eq_by_cmp}
use mathlib.Core.List.{IsPrefix}
use Rattle.rma_layout.specs.Shape.{Shape}
use Rattle.rma_layout.specs.Placement.{Place, IsBlock, IsReserved, same_place, metadata}
use Rattle.object_words.specs.Blocks.{blocks_for, is_reserved, one_if, on_rank as place_on}
use Rattle.object_words.specs.Contents.{place_cmp, words_at, is_empty}
use Rattle.object_words.specs.Entries.{Entry}
use Rattle.object_words.proofs.Places.{places_equal, words_at-with_words, words_at_here}
use Rattle.window_rule.specs.View.{View, Dirt, Known, Cell, Marked, AsWriter, Outside}
use Rattle.window_rule.specs.Locks.{hold_of, with_lock, without_lock}
use Rattle.window_rule.specs.Dirty.{dirt_of}
use Rattle.window_rule.specs.Known.{cell_of}
use Rattle.window_rule.specs.RightsHold.{least_of}
use Rattle.window_rule.specs.Steps.{locked, tried, unlocked}
use Rattle.window_rule.specs.Gate.{entered}
use Rattle.window_rule.specs.Stamping.{stamped, toggled, toggled_from, MayStamp}
use Rattle.window_rule.specs.StampsHold.{opened_of}
use Rattle.window_rule.specs.Objects.{BeginsAt, chain_length}
use Rattle.window_rule.specs.Partition.{times, places_of}
use Rattle.window_rule.specs.RoomHolds.{sum_below, count_on, asked_at, kept_at, asked_for, kept_of}
use Rattle.window_rule.specs.Detach.{Detaches, dirt_on}
use Rattle.window_rule.specs.Reads.{MayPut, put_in}
use Rattle.window_rule.specs.Attach.{MayAttach, MayAttachSome, AttachesAll, Attaches, IsBuilt, SparesAreLeft, attach_in}
use Rattle.window_rule.specs.Spares.{SpareEnds}
use Rattle.window_rule.specs.Commit.{MayCommit, Commits, flagged, attached_of, need_of}
use Rattle.window_rule.specs.Pairs.{IsAtRest, IsNext, pair_entry}
use Rattle.window_rule.proofs.LockLemmas.{place_by_parts, place_cases, same_place-refl, same_place-false, hold_of-with_same}
use Rattle.window_rule.proofs.Cells.{cell-first, cell-index}
use Rattle.window_rule.proofs.WordFunctions.{same_place-tells}
use Rattle.window_rule.proofs.KeptSpares.{chain_is_own, linked_is_own}
use Rattle.window_rule.proofs.RoomKept.{sum_below-only, sum_below-none, count_all}

-- a reserved object has a block, whatever its words
pub reserved_length : (shape : Shape) (object : Place) (content : List ℕ)
    → IsReserved shape object.block
    → chain_length shape object content ≡ blocks_for (length content) (shape.words - 1)
reserved_length shape object content low =
    let test : is_reserved shape object.block ≡ true = grind (arith, nat_tests) in
    ap (λ t. cond (not t && is_empty content) 0
    (blocks_for (length content) (shape.words - 1))) test

pub some_blocks : (words per : ℕ) → 0 < blocks_for words per
some_blocks words per = omega arith

-- an object's chain has its own block, if it has any
pub own_block : (object : Place) (chain : List Place) → BeginsAt object chain → 0 < length chain
    → 0 < times object chain
own_block object [] begins some_block = absurd (omega arith)
own_block object (first ∷ more) begins some_block =
    let here : one_if (same_place first object) ≡ 1 = ap (λ p. one_if (same_place p object)) begins
    ∙ ap one_if (same_place-refl object) in omega arith

-- and a chain of one block is its own block
only_block : (object block : Place) (chain : List Place) → length chain ≡ 1
    → BeginsAt object chain → 0 < times block chain → block ≡ object
only_block object block [] single begins there = absurd (omega arith)
only_block object block (first ∷ []) single begins there =
    elim (cases_Bool (same_place first block)) [
      | inl same ↦ sym (same_place-tells first block same) ∙ begins
      | inr differ ↦ let none : one_if (same_place first block) ≡ 0 = ap one_if differ in absurd
          (omega arith)
    ]
only_block object block (first ∷ (next ∷ more)) single begins there = absurd (omega arith)

-- and of one block there is no more in it than that one
pub just_own : (object block : Place) (chain : List Place) → 0 < times object chain
    → times block (object ∷ []) ≤ times block chain
just_own object block chain has =
    elim (place_cases block object) [
      | inl same ↦
          let here : times block (object ∷ []) ≡ 1 = ap (λ p. times p (object ∷ [])) same
          ∙ (let one : one_if (same_place object object) ≡ 1 = ap one_if
          (same_place-refl object) in omega arith) in
          let as_many : times block chain ≡ times object chain = ap (λ p. times p chain) same in
          omega arith
      | inr ne ↦ let none : one_if (same_place object block) ≡ 0 = ap one_if
          (same_place-false object block (λ e. ne (sym e))) in omega arith
    ]

-- dirt that stands first is found
dirt_first : (dirt : Dirt) (more : List Dirt) (object : Place) → dirt.object ≡ object
    → dirt_of (dirt ∷ more) object ≡ Some dirt
dirt_first dirt more object is =
    ap (λ t. cond t (Some dirt) (dirt_of more object))
    (ap (λ p. same_place p object) is ∙ same_place-refl object)

dirt_alone : (dirt : Dirt) (object other : Place) → dirt.object ≡ object → other ≢ object
    → dirt_of (dirt ∷ []) other ≡ None
dirt_alone dirt object other is ne =
    ap (λ t. cond t (Some dirt) None) (same_place-false dirt.object other (λ e. ne (sym e ∙ is)))

-- the view once the object is marked and open
abbrev pub opening : {N : Type 0} → Place → View N → View N
opening object view = stamped object (tried (locked object Marked (entered AsWriter view)))

abbrev pub three_puts : {N : Type 0} → Place → ℕ → ℕ → View N → View N
three_puts object first second view = put_in object 2 second
    (put_in object 1 first (put_in object 0 0 view))

module _ {N : Type 0} (shape : Shape) (object : Place) (block : IsBlock shape object)
    (low : IsReserved shape object.block) (before : View N) (rest : IsAtRest before) (view : View N)
    (is_open : view ≡ opening object before) where
  opened_one : view.stamps.opened ≡ (object, false) ∷ []
  opened_one = ap (λ v. v.stamps.opened) is_open ∙ ap (λ opened. toggled opened object) rest.opened

  no_dirt : view.dirty ≡ []
  no_dirt = ap (λ v. v.dirty) is_open ∙ rest.dirty

  module _ (bare : View N) (told : Detaches shape object view bare) where
    abbrev known : Known
    known = told.known

    pub has_own : 0 < times object known.chain
    has_own =
        own_block object known.chain told.lies.begins
        (omega (
          arith,
          told.blocks,
          reserved_length shape object known.content low,
          some_blocks (length known.content) (shape.words - 1),
        ))

    pub may_put : MayPut bare object
    may_put = inr (
      object,
      dirt_on object known,
      ap (λ v. dirt_of v.dirty object) told.view
          ∙ dirt_first (dirt_on object known) view.dirty object refl,
      refl,
      has_own,
    )

    module _ (wide : 4 < shape.words) (first second : ℕ) (filled : View N)
        (is_filled : filled ≡ three_puts object first second bare) where
      abbrev per : ℕ
      per = shape.words - 1

      has_cell : (i word : ℕ)
          → cell_of (three_puts object first second bare).cells object i ≡ Some word
          → cell_of filled.cells object i ≡ Some word
      has_cell i word is = ap (λ v. cell_of v.cells object i) is_filled ∙ is

      abbrev cell : ℕ → ℕ → Cell
      cell i word = record { block = object; index = i; word = word }

      abbrev with_link : List Cell
      with_link = cell 0 0 ∷ bare.cells

      abbrev with_first : List Cell
      with_first = cell 1 first ∷ with_link

      link_cell : cell_of filled.cells object 0 ≡ Some 0
      link_cell = has_cell 0 0
          (cell-index (cell 2 second) with_first object 0 refl (λ e. omega arith)
          ∙ (cell-index (cell 1 first) with_link object 0 refl (λ e. omega arith)
          ∙ cell-first (cell 0 0) bare.cells object 0 refl refl))

      at : (k : ℕ) → k < 2
          → cell_of filled.cells object (1 + k) ≡ Some (get_or (first ∷ (second ∷ [])) k 0)
      at zero below = has_cell 1 first
          (cell-index (cell 2 second) with_first object 1 refl (λ e. omega arith)
          ∙ cell-first (cell 1 first) with_link object 1 refl refl)
      at (suc zero) below = has_cell 2 second
          (cell-first (cell 2 second) with_first object 2 refl refl)
      at (suc (suc k)) below = absurd (omega arith)

      payload : (k : ℕ) → k < 2
          → cell_of filled.cells (get_or (object ∷ []) (k / per) metadata) (1 + k % per) ≡ Some
          (get_or (first ∷ (second ∷ [])) k 0)
      payload k below =
          let sum : 0 * per + k ≡ k = omega arith in
          let row : k / per ≡ 0 = ap (λ n. n / per) (sym sum) ∙ div-mul-add 0 per k (omega arith) in
          let column : k % per ≡ k = ap (λ n. n % per) (sym sum)
          ∙ mod-mul-add 0 per k (omega arith) in
          ap (λ j. cell_of filled.cells (get_or (object ∷ []) j metadata) (1 + k % per)) row
          ∙ (ap (λ j. cell_of filled.cells object (1 + j)) column ∙ at k below)

      one_for_two : blocks_for 2 per ≡ 1
      one_for_two =
          let sum : 1 * per + 1 ≡ 2 + (per - 1) = omega arith in
          let one : (2 + (per - 1)) / per ≡ 1 = ap (λ n. n / per) (sym sum)
          ∙ div-mul-add 1 per 1 (omega arith) in
          omega arith

      pub built : IsBuilt shape filled.cells object (object ∷ []) (first ∷ (second ∷ []))
      built = record {
        enough = sym (reserved_length shape object (first ∷ (second ∷ [])) low ∙ one_for_two);
        few_words = omega arith;
        lies = record { begins = refl; one_rank = (refl, tt) };
        spelled = record { linked = (link_cell, tt); payload = payload };
      }

      dirty_filled : filled.dirty ≡ dirt_on object known ∷ []
      dirty_filled =
          ap (λ v. v.dirty) is_filled
          ∙ (ap (λ v. v.dirty) told.view ∙ ap (λ d. dirt_on object known ∷ d) no_dirt)

      may_attach : MayAttach shape object (object ∷ []) (first ∷ (second ∷ [])) filled
      may_attach = record {
        dirt = dirt_on object known;
        is = ap (λ d. dirt_of d object) dirty_filled
            ∙ dirt_first (dirt_on object known) [] object refl;
        not_attached = refl;
        built = built;
        has = λ block. omega (arith, just_own object block known.chain has_own);
      }

      pub may_attach_two : MayAttachSome shape object 2 filled
      may_attach_two = (object ∷ [], first ∷ (second ∷ []), refl, may_attach)

      pub pair_spares_left : (ends : SpareEnds) → SparesAreLeft shape object 2 filled ends
      pair_spares_left ends chain content len may one there list are =
          let single : length chain ≡ 1 = may.built.enough
          ∙ (reserved_length shape object content low
          ∙ (ap (λ n. blocks_for n per) len ∙ one_for_two)) in
          let is : one ≡ object = only_block object one chain single may.built.lies.begins there in
          elim (cases_eq (times one list) 0) [
            | inl none ↦ none
            | inr some ↦
                let found = chain_is_own filled.private list one are.chained (omega arith) in
                let own = subst (λ p. 0 < times p (places_of filled.private)) is
                (linked_is_own filled.private one found.0 found.1) in
                let same : filled.private ≡ view.private = ap (λ v. v.private) is_filled
                ∙ ap (λ v. v.private) told.view in
                let count = ap (λ own. times object (places_of own)) same in
                absurd (omega (arith, told.apart object, has_own, own, count))
          ]

      module _ (attached : View N) (all : AttachesAll shape object filled 2 attached) where
        abbrev attaches : Attaches object (object ∷ []) (first ∷ (second ∷ [])) filled attached
        attaches = all (object ∷ []) (first ∷ (second ∷ [])) refl may_attach

        abbrev written : Dirt
        written = record {
          object = object;
          kept = known.content;
          blocks = object ∷ [];
          attached = Some (first ∷ (second ∷ []));
        }

        dirty_after : attached.dirty ≡ written ∷ []
        dirty_after =
            ap (λ v. v.dirty) attaches.view
            ∙ (ap (λ d. attach_in d object (object ∷ []) (first ∷ (second ∷ []))) dirty_filled
            ∙ ap (λ t. cond t (written ∷ []) (dirt_on object known ∷ [])) (same_place-refl object))

        written_is : dirt_of attached.dirty object ≡ Some written
        written_is = ap (λ d. dirt_of d object) dirty_after ∙ dirt_first written [] object refl

        clean_else : (other : Place) → other ≢ object → dirt_of attached.dirty other ≡ None
        clean_else other ne = ap (λ d. dirt_of d other) dirty_after
            ∙ dirt_alone written object other refl ne

        same_rights : attached.rights ≡ before.rights
        same_rights = ap (λ v. v.rights) attaches.view
            ∙ (ap (λ v. v.rights) is_filled
            ∙ (ap (λ v. v.rights) told.view ∙ ap (λ v. v.rights) is_open))

        same_allowance : attached.allowance ≡ before.allowance
        same_allowance = ap (λ v. v.allowance) attaches.view
            ∙ (ap (λ v. v.allowance) is_filled
            ∙ (ap (λ v. v.allowance) told.view ∙ ap (λ v. v.allowance) is_open))

        same_seen : attached.seen ≡ before.seen
        same_seen = ap (λ v. v.seen) attaches.view
            ∙ (ap (λ v. v.seen) is_filled ∙ (ap (λ v. v.seen) told.view ∙ ap (λ v. v.seen) is_open))

        locks_now : attached.locks ≡ with_lock before.locks object Marked
        locks_now = ap (λ v. v.locks) attaches.view
            ∙ (ap (λ v. v.locks) is_filled
            ∙ (ap (λ v. v.locks) told.view ∙ ap (λ v. v.locks) is_open))

        gate_now : attached.gate ≡ AsWriter
        gate_now = ap (λ v. v.gate) attaches.view
            ∙ (ap (λ v. v.gate) is_filled ∙ (ap (λ v. v.gate) told.view ∙ ap (λ v. v.gate) is_open))

        opened_now : attached.stamps.opened ≡ (object, false) ∷ []
        opened_now =
            ap (λ v. v.stamps.opened) attaches.view
            ∙ (ap (λ v. v.stamps.opened) is_filled
            ∙ (ap (λ v. v.stamps.opened) told.view ∙ opened_one))

        abbrev words : List ℕ
        words = first ∷ (second ∷ [])

        abbrev kept_blocks : ℕ
        kept_blocks = chain_length shape object known.content

        nothing_needed : need_of shape object (Some written) ≡ 0
        nothing_needed =
            let test : is_reserved shape object.block ≡ true = grind (arith, nat_tests) in
            ap (λ t. one_if (not t && is_empty known.content) + cond t
            (blocks_for 2 per - blocks_for (length known.content) per)
            (cond (is_empty words) 0
            (cond (is_empty known.content) (blocks_for 2 per - 1)
            (blocks_for 2 per - blocks_for (length known.content) per)))) test
            ∙ (let more = some_blocks (length known.content) per in let one = one_for_two in
            omega arith)

        -- of a count of dirt, the sum over a rank's blocks is that of the one object that is dirty
        module _ (count : Place → Option Dirt → ℕ) (none : (place : Place) → count place None ≡ 0)
            (rank : ℕ) where
          abbrev counted : ℕ → ℕ
          counted b = count (place_on rank b) (dirt_of attached.dirty (place_on rank b))

          else_none : (b : ℕ) → place_on rank b ≢ object → counted b ≡ 0
          else_none b ne = ap (count (place_on rank b)) (clean_else (place_on rank b) ne)
              ∙ none (place_on rank b)

          sum_here : rank ≡ object.rank
              → sum_below shape.blocks counted ≡ count object (Some written)
          sum_here on =
              let same : place_on rank object.block ≡ object = place_by_parts _ _ on refl in
              sum_below-only shape.blocks counted object.block block.1
              (λ b ne. else_none b (λ e. ne (ap (λ (p : Place). p.block) e)))
              ∙ (ap (λ p. count p (dirt_of attached.dirty p)) same ∙ ap (count object) written_is)

          sum_else : rank ≢ object.rank → sum_below shape.blocks counted ≡ 0
          sum_else off = sum_below-none shape.blocks counted
              (λ b _. else_none b (λ e. off (ap (λ (p : Place). p.rank) e)))

        -- on the object's rank it has as many blocks as what it kept asks for, and on another it
        -- needs none
        room : (rank : ℕ) → rank < shape.ranks
            → sum_below shape.blocks (asked_at shape attached.dirty rank) + sum_below shape.blocks
            (λ b. need_of shape (place_on rank b) (dirt_of attached.dirty (place_on rank b)))
            ≤ count_on rank (places_of attached.private) + sum_below shape.blocks
            (kept_at attached.dirty rank)
        room rank below =
            elim (cases_eq rank object.rank) [
              | inl on ↦
                  let own_all : count_on rank (object ∷ []) ≡ 1 = count_all rank (object ∷ [])
                  (sym on, tt) in
                  let all_on : count_on rank known.chain ≡ length known.chain =
                  count_all rank known.chain
                  (subst (λ r. AllByRecursion (λ (b : Place). b.rank ≡ r) known.chain)
                  (sym on) told.lies.one_rank) in
                  omega (
                    arith,
                    sum_here (asked_for shape) (λ p. refl) rank on,
                    sum_here (need_of shape) (λ p. refl) rank on,
                    sum_here (λ _ d. kept_of d) (λ p. refl) rank on,
                    nothing_needed,
                    told.blocks,
                    attaches.as_many (dirt_on object known)
                        (ap (λ d. dirt_of d object) dirty_filled
                        ∙ dirt_first (dirt_on object known) [] object refl) rank,
                  )
              | inr off ↦
                  omega (
                    arith,
                    sum_else (asked_for shape) (λ p. refl) rank off,
                    sum_else (need_of shape) (λ p. refl) rank off,
                  )
            ]

        module _ (fits : Shape → Entry N → Type 0) (note : N) (allowed : 0 < before.allowance)
            (fitting : fits shape (pair_entry before object first second note)) where
          abbrev entry : Entry N
          entry = pair_entry attached object first second note

          same_entry : entry ≡ pair_entry before object first second note
          same_entry = ap (λ rights.
              record {
                rank = least_of rights;
                reads = [];
                writes = (object, words) ∷ [];
                note = note;
              }) same_rights

          written_nowhere : (other : Place) → other ≢ object → words_at entry.writes other ≡ None
          written_nowhere other ne =
              words_at-with_words [] object words other
              ∙ elim (cases_Bool (eq_by_cmp place_cmp other object)) [
                | inl tie ↦ absurd (ne (places_equal other object tie))
                | inr none ↦ ap (λ b. cond b (Some words) None) none
              ]

          writes : (other : Place)
              → words_at entry.writes other ≡ attached_of (dirt_of attached.dirty other)
          writes other =
              elim (place_cases other object) [
                | inl same ↦
                    ap (words_at entry.writes) same
                    ∙ (words_at_here [] object words
                    ∙ sym (ap (λ p. attached_of (dirt_of attached.dirty p)) same
                    ∙ ap attached_of written_is))
                | inr ne ↦ written_nowhere other ne ∙ sym (ap attached_of (clean_else other ne))
              ]

          pub may_commit : MayCommit fits shape attached entry
          may_commit = record {
            allowed = omega (arith, same_allowance);
            rank = refl;
            fitting = subst (fits shape) (sym same_entry) fitting;
            maps = record { reads = refl; writes = refl };
            reads = λ other read e. absurd (cc e);
            writes = writes;
            attached = λ other dirt is none.
                elim (place_cases other object) [
                  | inl same ↦
                      let found : Some dirt ≡ Some written = sym is
                      ∙ (ap (dirt_of attached.dirty) same ∙ written_is) in
                      let dirt_is : dirt ≡ written = cc found in
                      let e : None ≡ Some words = sym none
                      ∙ ap (λ (d : Dirt). d.attached) dirt_is in cc e
                  | inr ne ↦ let e : None ≡ Some dirt = sym (clean_else other ne) ∙ is in cc e
                ];
            room = room;
          }

          module _ (number : ℕ) (finished : View N)
              (told_entry : Commits entry attached number finished) (closed left out : View N)
              (is_closed : closed ≡ stamped object finished)
              (is_left : left ≡ unlocked object closed)
              (is_out : out ≡ entered Outside left) where
            marked_then : hold_of finished.locks object ≡ Some Marked
            marked_then = ap (λ v. hold_of v.locks object) told_entry.view
                ∙ (ap (λ l. hold_of l object) locks_now
                ∙ hold_of-with_same before.locks object Marked)

            opened_then : finished.stamps.opened ≡ (object, true) ∷ []
            opened_then =
                ap (λ v. v.stamps.opened) told_entry.view
                ∙ (ap (flagged attached.dirty) opened_now
                ∙ ap (λ found. (object, is_some found) ∷ []) written_is)

            pub may_close : MayStamp finished object
            may_close = record {
              marked = marked_then;
              clean = ap (λ v. dirt_of v.dirty object) told_entry.view;
              committed = λ unwritten.
                  let found : Some true ≡ Some false =
                  sym (ap (λ o. opened_of o object) opened_then
                  ∙ ap (λ t. cond t (Some true) None) (same_place-refl object)) ∙ unwritten in
                  cc found;
            }

            pub still_marked : hold_of closed.locks object ≡ Some Marked
            still_marked = ap (λ v. hold_of v.locks object) is_closed ∙ marked_then

            none_open : closed.stamps.opened ≡ []
            none_open =
                ap (λ v. v.stamps.opened) is_closed
                ∙ (ap (λ o. toggled o object) opened_then
                ∙ (ap (λ t. toggled_from (cond t (Some true) None) ((object, true) ∷ []) object)
                (same_place-refl object)
                ∙ ap (λ t. cond t [] ((object, true) ∷ [])) (same_place-refl object)))

            pub is_shut : opened_of closed.stamps.opened object ≡ None
            is_shut = ap (λ o. opened_of o object) none_open

            pub still_writer : left.gate ≡ AsWriter
            still_writer = ap (λ v. v.gate) is_left
                ∙ (ap (λ v. v.gate) is_closed ∙ (ap (λ v. v.gate) told_entry.view ∙ gate_now))

            pub at_rest : IsAtRest out
            at_rest = record {
              locks =
                  ap (λ v. v.locks) is_out
                  ∙ (ap (λ v. v.locks) is_left
                  ∙ (ap (λ v. without_lock v.locks object) is_closed
                  ∙ (ap (λ v. without_lock v.locks object) told_entry.view
                  ∙ (ap (λ l. without_lock l object) locks_now
                  ∙ (ap (λ l. without_lock (with_lock l object Marked) object) rest.locks
                  ∙ ap (λ t. cond t [] ((object, Marked) ∷ [])) (same_place-refl object))))));
              gate = ap (λ v. v.gate) is_out;
              dirty =
                  ap (λ v. v.dirty) is_out
                  ∙ (ap (λ v. v.dirty) is_left
                  ∙ (ap (λ v. v.dirty) is_closed ∙ ap (λ v. v.dirty) told_entry.view));
              opened = ap (λ v. v.stamps.opened) is_out
                  ∙ (ap (λ v. v.stamps.opened) is_left ∙ none_open);
            }

            pub is_next : IsNext (pair_entry before object first second note) before out number
            is_next = record {
              history = told_entry.history;
              goes_on = subst (λ l. IsPrefix l told_entry.history) same_seen told_entry.goes_on;
              allowance =
                  let left_now : out.allowance ≡ attached.allowance - 1 =
                  ap (λ v. v.allowance) is_out
                  ∙ (ap (λ v. v.allowance) is_left
                  ∙ (ap (λ v. v.allowance) is_closed ∙ ap (λ v. v.allowance) told_entry.view)) in
                  omega (arith, same_allowance, allowed);
              number_is = told_entry.found_is;
              seen =
                  ap (λ v. v.seen) is_out
                  ∙ (ap (λ v. v.seen) is_left
                  ∙ (ap (λ v. v.seen) is_closed
                  ∙ (ap (λ v. v.seen) told_entry.view
                  ∙ ap (λ e. told_entry.history ++ e ∷ []) same_entry)));
            }
