-- A locked object gets new words: what is detached, stored and attached fits together.
use Rattle.std.proofs.Common.{◌≡◌, ℕ, zero, suc, ◌+◌, ◌-◌, ◌*◌, ◌/◌, ◌%◌, ◌<◌, ◌≤◌, ◌^◌, not, ◌&&◌, false, cond, List, [], ◌∷◌, ◌++◌, length, get_or, take, Some, None, inl, inr, refl, sym, ap, ◌∙◌, subst, arith, length-append}
use Rattle.std.specs.Option.{unwrap_or}
use Rattle.std.specs.List.{AllByRecursion}
use Rattle.std.proofs.lemmas.Bool.{cases_eq, lt-ltb, le-ltb}
use Rattle.std.proofs.lemmas.List.{get_or_append_left, get_or-take, length-take-le}
use Rattle.rma_layout.specs.Shape.{Shape}
use Rattle.rma_layout.specs.Ranges.{IsInRange}
use Rattle.rma_layout.specs.Placement.{Place, IsBlock, metadata, raw_of}
use Rattle.object_words.specs.Blocks.{blocks_for, is_reserved}
use Rattle.window_rule.specs.View.{View, Cell, Known, OwnBlock}
use Rattle.window_rule.specs.Known.{cell_of, without_known}
use Rattle.window_rule.specs.Dirty.{dirt_of}
use Rattle.window_rule.specs.Detach.{Detaches, detached, dirt_on}
use Rattle.window_rule.specs.Attach.{AreLinksKnown, Attaches, AttachesAll, MayAttach, SparesAreLeft, attach_in}
use Rattle.window_rule.specs.Objects.{BeginsAt, LiesAt, chain_length, link_to}
use Rattle.window_rule.specs.Partition.{places_of, times}
use Rattle.window_rule.specs.Pool.{MayBeFree}
use Rattle.window_rule.specs.Reads.{MayPut}
use Rattle.window_rule.specs.RoomHolds.{count_on}
use Rattle.window_rule.specs.Spares.{HasSpares, IsNoSpare, SpareEnds, first_spare_of, last_spare_of, own_next_of}
use Rattle.window_rule.proofs.Coverage.{of_one}
use Rattle.window_rule.proofs.JoinSteps.{times-append}
use Rattle.window_rule.proofs.KeptSpares.{chain_is_own, linked_is_own, no_spare_differs, same_spares}
use Rattle.window_rule.proofs.LockLemmas.{place_by_parts, same_place-refl}
use Rattle.window_rule.proofs.SparesKept.{AreSpares-same}
use Rattle.fabric.specs.Window.{RankModel}
use Rattle.object_moves.specs.Rewrites.{MayRewrite, Rewrites, chain_of_first}
use Rattle.object_moves.specs.Stores.{AreFilled, AreLinkedTo, OnlyCells, link_word}
use Rattle.object_moves.proofs.Chains.{within_chain}
use Rattle.object_moves.proofs.Settling.{times-get}

-- the first of some blocks
pub times-take : (n : ℕ) (xs : List Place) (block : Place) → times block (take n xs) ≤ times block xs
times-take zero xs block = omega arith
times-take (suc n) [] block = omega arith
times-take (suc n) (x ∷ xs) block = omega (arith, times-take n xs block)

all-take : (P : Place → Type 0) (n : ℕ) (xs : List Place) → AllByRecursion P xs → AllByRecursion P (take n xs)
all-take P zero xs h = tt
all-take P (suc n) [] h = tt
all-take P (suc n) (x ∷ xs) h = (h.0, all-take P n xs h.1)

begins-take : (object : Place) (n : ℕ) (xs : List Place) → BeginsAt object xs → BeginsAt object (take n xs)
begins-take object zero xs h = tt
begins-take object (suc n) [] h = tt
begins-take object (suc n) (x ∷ xs) h = h

lies-take : (object : Place) (n : ℕ) (xs : List Place) → LiesAt object xs → LiesAt object (take n xs)
lies-take object n xs h = record {
  begins = begins-take object n xs h.begins;
  one_rank = all-take (λ (block : Place). block.rank ≡ object.rank) n xs h.one_rank;
}

-- links, block by block
links_tell : (cells : List Cell) (xs : List Place) (j : ℕ) → AreLinksKnown cells xs → j + 1 < length xs
    → cell_of cells (get_or xs j metadata) 0 ≡ Some (raw_of (get_or xs (j + 1) metadata))
links_tell cells [] j h below = absurd (omega (arith, below))
links_tell cells (x ∷ []) j h below = absurd (omega (arith, below))
links_tell cells (x ∷ (y ∷ more)) zero h below = h.0
links_tell cells (x ∷ (y ∷ more)) (suc j) h below =
    let one : suc (j + 1) ≡ suc j + 1 = omega arith in
    subst (λ n. cell_of cells (get_or (y ∷ more) j metadata) 0 ≡ Some (raw_of (get_or (x ∷ (y ∷ more)) n metadata))) one
    (links_tell cells (y ∷ more) j h.1 (omega (arith, below)))

links_known : (cells : List Cell) (xs : List Place)
    → ((j : ℕ) → j + 1 < length xs → cell_of cells (get_or xs j metadata) 0 ≡ Some (raw_of (get_or xs (j + 1) metadata)))
    → ((j : ℕ) → j + 1 ≡ length xs → cell_of cells (get_or xs j metadata) 0 ≡ Some 0) → AreLinksKnown cells xs
links_known cells [] more last = tt
links_known cells (x ∷ []) more last = (last 0 (omega arith), tt)
links_known cells (x ∷ (y ∷ ys)) more last = (
  more 0 (omega arith),
  links_known cells (y ∷ ys)
      (λ j h. let one : suc j + 1 ≡ suc (j + 1) = omega arith in
      subst (λ n. cell_of cells (get_or (y ∷ ys) j metadata) 0 ≡ Some (raw_of (get_or (x ∷ (y ∷ ys)) n metadata))) one (more (suc j) (omega (arith, h))))
      (λ j h. last (suc j) (omega (arith, h))),
)

linked_first : (cells : List Cell) (blocks : List Place) (used : ℕ) → used ≤ length blocks
    → ((j : ℕ) → j < used → cell_of cells (get_or blocks j metadata) 0 ≡ Some (link_word blocks used j))
    → AreLinksKnown cells (take used blocks)
linked_first cells blocks used enough h =
    let size = length-take-le used blocks enough in
    links_known cells (take used blocks)
    (λ j below. let more : j + 1 < used = omega (arith, below, size) in
    ap (λ b. cell_of cells b 0) (get_or-take used blocks j metadata (omega (arith, more)))
    ∙ (h j (omega (arith, more))
    ∙ (ap (λ t. Some (unwrap_or (cond t (Some (raw_of (get_or blocks (j + 1) metadata))) None) 0)) (lt-ltb (j + 1) used more)
    ∙ ap (λ b. Some (raw_of b)) (sym (get_or-take used blocks (j + 1) metadata more)))))
    (λ j is. let last : j + 1 ≡ used = is ∙ size in
    ap (λ b. cell_of cells b 0) (get_or-take used blocks j metadata (omega (arith, last)))
    ∙ (h j (omega (arith, last))
    ∙ ap (λ t. Some (unwrap_or (cond t (Some (raw_of (get_or blocks (j + 1) metadata))) None) 0)) (le-ltb (j + 1) used (omega (arith, last)))))

-- two chains of one rank with the same beginning and links are one
chain_is_one : (cells : List Cell) (rank : ℕ) (one other : List Place) → length one ≡ length other → link_to one ≡ link_to other
    → AllByRecursion (λ (b : Place). b.rank ≡ rank) one → AllByRecursion (λ (b : Place). b.rank ≡ rank) other
    → AreLinksKnown cells one → AreLinksKnown cells other → one ≡ other
chain_is_one cells rank [] [] same begin on also h l = refl
chain_is_one cells rank [] (b ∷ more) same begin on also h l = absurd (omega (arith, same))
chain_is_one cells rank (a ∷ more) [] same begin on also h l = absurd (omega (arith, same))
chain_is_one cells rank (a ∷ xs) (b ∷ ys) same begin on also h l =
    let ranks : a.rank ≡ b.rank = on.0 ∙ sym also.0 in
    let numbers : a.rank * 2 ^ 48 + a.block ≡ b.rank * 2 ^ 48 + b.block = begin in
    let heads : a ≡ b = place_by_parts a b ranks (omega (arith, ranks, numbers)) in
    let links : Some (link_to xs) ≡ Some (link_to ys) = sym h.0 ∙ (ap (λ p. cell_of cells p 0) heads ∙ l.0) in
    let rest = chain_is_one cells rank xs ys (omega (arith, same)) (cc links) on.1 also.1 h.1 l.1 in
    λ k. heads k ∷ rest k

begin_alike : (object : Place) (one other : List Place) → length one ≡ length other → BeginsAt object one → BeginsAt object other
    → link_to one ≡ link_to other
begin_alike object [] [] same h l = refl
begin_alike object [] (b ∷ ys) same h l = absurd (omega (arith, same))
begin_alike object (a ∷ xs) [] same h l = absurd (omega (arith, same))
begin_alike object (a ∷ xs) (b ∷ ys) same h l = ap raw_of (h ∙ sym l)

chain_length-same : (shape : Shape) (object : Place) (one other : List ℕ) → length one ≡ length other
    → chain_length shape object one ≡ chain_length shape object other
chain_length-same shape object [] [] e = refl
chain_length-same shape object [] (y ∷ ys) e = absurd (omega (arith, e))
chain_length-same shape object (x ∷ xs) [] e = absurd (omega (arith, e))
chain_length-same shape object (x ∷ xs) (y ∷ ys) e =
    ap (λ n. cond (not (is_reserved shape object.block) && false) 0 (blocks_for n (shape.words - 1))) e

-- a block that isn't of the view's own is no spare
pub others_no_spare : (shape : Shape) (own : List OwnBlock) (ends : SpareEnds) (block : Place) → times block (places_of own) ≡ 0
    → IsNoSpare shape own ends block
others_no_spare shape own ends block none list are = elim (cases_eq (times block list) 0) [
  | inl out ↦ out
  | inr some ↦
      let found = chain_is_own own list block are.chained (omega (arith, some)) in
      absurd (omega (arith, none, linked_is_own own block found.0 found.1))
]

-- a block that is no spare stays none where blocks that are none go, and the others lead where they did
pub no_spare_stays : (shape : Shape) (own after : List OwnBlock) (ends : SpareEnds) (chain : List Place) → shape.ranks ≤ 64 → HasSpares shape own ends
    → ((block : Place) → 0 < times block chain → IsNoSpare shape own ends block)
    → ((block : Place) (next : ℕ) → times block chain ≡ 0 → own_next_of own block ≡ Some next → own_next_of after block ≡ Some next)
    → (block : Place) → IsNoSpare shape own ends block → IsNoSpare shape after ends block
no_spare_stays shape own after ends chain ranks has none stay block out list are = elim (cases_eq (times block list) 0) [
  | inl gone ↦ gone
  | inr some ↦
      let rank = block.rank in
      let may = of_one (MayBeFree shape rank) list block are.places (omega (arith, some)) in
      let was = has.chains rank (omega (arith, may.is_block, ranks)) in
      let same : (spare : Place) → 0 < times spare was.0 → own_next_of after spare ≡ own_next_of own spare = λ spare there.
      let found = chain_is_own own was.0 spare was.1.chained there in
      elim (cases_eq (times spare chain) 0) [
        | inl away ↦ stay spare found.0 away found.1 ∙ sym found.1
        | inr within ↦ absurd (no_spare_differs shape own ends has spare (none spare (omega (arith, within))) rank was.0 was.1 spare there refl)
      ] in
      let now = AreSpares-same shape own after rank (first_spare_of ends rank) (last_spare_of ends rank) was.0 same was.1 in
      let one = same_spares shape after rank list was.0 are.chained now.chained are.places now.places (sym are.first_is ∙ now.first_is) in
      ap (times block) one ∙ out was.0 was.1
]

module _ {N : Type 0} (shape : Shape) (in_range : IsInRange shape) (object : Place) (blocks : List Place) (kept : ℕ) (old words : List ℕ)
    (before : RankModel N) (may : MayRewrite shape object blocks kept old words before) (view : View N)
    (told : Detaches shape object before.view view) where
  same_known : may.known ≡ told.known
  same_known = told.same may.known may.is

  are : blocks ≡ told.known.chain ++ may.extras
  are = may.are ∙ ap (λ (k : Known). k.chain ++ may.extras) same_known

  kept_is : kept ≡ length told.known.chain
  kept_is = may.kept_is ∙ ap (λ (k : Known). length k.chain) same_known

  counted : (block : Place) → times block blocks ≡ times block told.known.chain + times block may.extras
  counted block = ap (times block) are ∙ times-append block told.known.chain may.extras

  at_chain : (j : ℕ) → j < kept → get_or blocks j metadata ≡ get_or told.known.chain j metadata
  at_chain j h = ap (λ l. get_or l j metadata) are ∙ get_or_append_left told.known.chain may.extras metadata j (omega (arith, h, kept_is))

  own_same : view.private ≡ before.view.private
  own_same = ap (λ (v : View N). v.private) told.view

  dirt_is : dirt_of view.dirty object ≡ Some (dirt_on object told.known)
  dirt_is = ap (λ (v : View N). dirt_of v.dirty object) told.view
      ∙ ap (λ t. cond t (Some (dirt_on object told.known)) (dirt_of before.view.dirty object)) (same_place-refl object)

  -- each of the blocks may be written
  pub may_put : (now : View N) → OnlyCells view now → (block : Place) → 0 < times block blocks → MayPut now block
  may_put now only block there = subst (λ (v : View N). MayPut v block) (sym only) (elim (cases_eq (times block told.known.chain) 0) [
    | inl out ↦ inl (subst (λ (l : List OwnBlock). 0 < times block (places_of l)) (sym own_same) (may.own block (omega (arith, counted block, there, out))))
    | inr within ↦ inr (object, dirt_on object told.known, dirt_is, refl, omega (arith, within))
  ])

  pub put_there : (now : View N) → OnlyCells view now → (j : ℕ) → j < length blocks → MayPut now (get_or blocks j metadata)
  put_there now only j h = may_put now only (get_or blocks j metadata) (times-get blocks j h)

  pub inside : (j : ℕ) → j < length blocks → IsBlock shape (get_or blocks j metadata)
  inside j h = may.has.inside (get_or blocks j metadata) (times-get blocks j h)

  pub links_stand : (j : ℕ) → j + 1 < kept → cell_of view.cells (get_or blocks j metadata) 0 ≡ Some (raw_of (get_or blocks (j + 1) metadata))
  links_stand j h =
      ap (λ (v : View N). cell_of v.cells (get_or blocks j metadata) 0) told.view
      ∙ (ap (λ b. cell_of told.cells b 0) (at_chain j (omega (arith, h)))
      ∙ (links_tell told.cells told.known.chain j told.spelled.linked (omega (arith, h, kept_is))
      ∙ ap (λ b. Some (raw_of b)) (sym (at_chain (j + 1) h))))

  abbrev per : ℕ
  per = shape.words - 1

  abbrev used : ℕ
  used = chain_length shape object words

  pub reaches : (m : ℕ) → m < length words → m / per < length blocks
  reaches m h = omega (arith, within_chain shape object words m in_range h, may.has.enough)

  module _ (linked : View N) (only : OnlyCells view linked) (are_linked : AreLinkedTo blocks used used view.cells linked.cells) where
    -- where the object keeps a block, its old words stand there
    pub words_stand : (m : ℕ) → m < length words → m < length old
        → cell_of linked.cells (get_or blocks (m / per) metadata) (1 + m % per) ≡ Some (get_or old m 0)
    words_stand m h below =
        let content = told.known.content in
        let begins : old ++ may.begins.0 ≡ content = may.begins.1 ∙ ap (λ (k : Known). k.content) same_known in
        let shorter : m < length content = subst (λ (l : List ℕ). m < length l) begins (omega (arith, below, length-append old may.begins.0)) in
        let there : m / per < length told.known.chain = omega (arith, within_chain shape object content m in_range shorter, told.blocks) in
        let at = at_chain (m / per) (omega (arith, there, kept_is)) in
        are_linked.apart (get_or blocks (m / per) metadata) (1 + m % per) (λ j within b i. omega (arith, i))
        ∙ (ap (λ (v : View N). cell_of v.cells (get_or blocks (m / per) metadata) (1 + m % per)) told.view
        ∙ (ap (λ b. cell_of told.cells b (1 + m % per)) at
        ∙ (told.spelled.payload m shorter
        ∙ ap Some (ap (λ l. get_or l m 0) (sym begins) ∙ get_or_append_left old may.begins.0 0 m below))))

    module _ (filled : View N) (more : OnlyCells linked filled)
        (are_filled : AreFilled shape blocks words (length words) linked.cells filled.cells) where
      only_both : OnlyCells view filled
      only_both = more ∙ ap (λ (v : View N). record v { cells = filled.cells }) only

      abbrev chain : List Place
      chain = chain_of_first shape object blocks words

      own_now : filled.private ≡ before.view.private
      own_now = ap (λ (v : View N). v.private) only_both ∙ own_same

      dirt_now : dirt_of filled.dirty object ≡ Some (dirt_on object told.known)
      dirt_now = ap (λ (v : View N). dirt_of v.dirty object) only_both ∙ dirt_is

      linked_now : AreLinksKnown filled.cells chain
      linked_now = linked_first filled.cells blocks used may.has.enough (λ j h.
          are_filled.apart (get_or blocks j metadata) 0 (λ m within b i. omega (arith, i)) ∙ are_linked.done j h h)

      payload_now : (k : ℕ) → k < length words → cell_of filled.cells (get_or chain (k / per) metadata) (1 + k % per) ≡ Some (get_or words k 0)
      payload_now k h =
          ap (λ b. cell_of filled.cells b (1 + k % per)) (get_or-take used blocks (k / per) metadata (within_chain shape object words k in_range h))
          ∙ are_filled.done k h h

      pub may_attach : MayAttach shape object chain words filled
      may_attach = record {
        dirt = dirt_on object told.known;
        is = dirt_now;
        not_attached = refl;
        built = record {
          enough = length-take-le used blocks may.has.enough;
          few_words = may.has.few_words;
          lies = lies-take object used blocks may.has.lies;
          spelled = record { linked = linked_now; payload = payload_now };
        };
        has = λ block.
            let few : times block may.extras ≤ times block (places_of filled.private) = extras_there block in
            omega (arith, times-take used blocks block, counted block, few);
      }
        where
          extras_there : (block : Place) → times block may.extras ≤ times block (places_of filled.private)
          extras_there block = elim (cases_eq (times block may.extras) 0) [
            | inl none ↦ omega (arith, none)
            | inr some ↦
                let there : 0 < times block (places_of filled.private) = subst (λ (l : List OwnBlock). 0 < times block (places_of l)) (sym own_now)
                (may.own block (omega (arith, some))) in
                omega (arith, there, may.has.once block, counted block)
          ]

      -- no spare is among the blocks
      blocks_no_spare : (block : Place) → 0 < times block blocks → IsNoSpare shape before.view.private before.spares block
      blocks_no_spare block there = elim (cases_eq (times block told.known.chain) 0) [
        | inl out ↦ may.no_spare block (omega (arith, counted block, there, out))
        | inr within ↦ others_no_spare shape before.view.private before.spares block (omega (arith, told.apart block, within))
      ]

      chain_no_spare : (block : Place) → 0 < times block chain → IsNoSpare shape before.view.private before.spares block
      chain_no_spare block there = blocks_no_spare block (omega (arith, times-take used blocks block, there))

      pub spares_left : (ends : SpareEnds) → ends ≡ before.spares → SparesAreLeft shape object (length words) filled ends
      spares_left ends same other content size may_other block there =
          let same_blocks : length other ≡ length chain = may_other.built.enough
          ∙ (chain_length-same shape object content words size ∙ sym may_attach.built.enough) in
          let one : other ≡ chain = chain_is_one filled.cells object.rank other chain same_blocks
          (begin_alike object other chain same_blocks may_other.built.lies.begins may_attach.built.lies.begins)
          may_other.built.lies.one_rank may_attach.built.lies.one_rank may_other.built.spelled.linked may_attach.built.spelled.linked in
          subst (λ (l : List OwnBlock). IsNoSpare shape l ends block) (sym own_now)
          (subst (λ (e : SpareEnds). IsNoSpare shape before.view.private e block) (sym same)
          (chain_no_spare block (subst (λ (l : List Place). 0 < times block l) one there)))

      module _ (after : View N) (attaches : AttachesAll shape object filled (length words) after) where
        made : Attaches object chain words filled after
        made = attaches chain words refl may_attach

        pub rewrites : Rewrites shape object chain words before.view after
        rewrites = record {
          known = told.known;
          was = may.is ∙ ap Some same_known;
          full = told.blocks;
          view = view_is;
          exchanged = λ block. made.exchanged (dirt_on object told.known) dirt_now block
              ∙ ap (λ (l : List OwnBlock). times block (places_of l) + times block told.known.chain) own_now;
          as_many = λ rank. made.as_many (dirt_on object told.known) dirt_now rank
              ∙ ap (λ (l : List OwnBlock). count_on rank (places_of l) + count_on rank told.known.chain) own_now;
          links = λ block next out is. made.links block next out (ap (λ (l : List OwnBlock). own_next_of l block) own_now ∙ is);
        }
          where
            filled_is : filled ≡ record (detached object told.known told.cells before.view) { cells = filled.cells }
            filled_is = only_both ∙ ap (λ (v : View N). record v { cells = filled.cells }) told.view

            view_is : after ≡ record before.view {
              dirty = record { object = object; kept = told.known.content; blocks = chain; attached = Some words } ∷ before.view.dirty;
              known = without_known before.view.known object;
              cells = after.cells;
              private = after.private;
            }
            view_is = made.view
                ∙ (ap (λ (v : View N). record v { dirty = attach_in v.dirty object chain words; private = after.private }) filled_is
                ∙ (ap (λ t. record before.view {
                  dirty = cond t (record { object = object; kept = told.known.content; blocks = chain; attached = Some words } ∷ before.view.dirty)
                      (dirt_on object told.known ∷ attach_in before.view.dirty object chain words);
                  known = without_known before.view.known object;
                  cells = filled.cells;
                  private = after.private;
                }) (same_place-refl object)
                ∙ ap (λ (c : List Cell). record before.view {
                  dirty = record { object = object; kept = told.known.content; blocks = chain; attached = Some words } ∷ before.view.dirty;
                  known = without_known before.view.known object;
                  cells = c;
                  private = after.private;
                }) (sym (ap (λ (v : View N). v.cells) made.view))))

        pub no_spare_after : (own_shape : Shape) → own_shape ≡ shape → HasSpares own_shape before.view.private before.spares
            → (ends : SpareEnds) → ends ≡ before.spares → (block : Place)
            → IsNoSpare shape before.view.private before.spares block → IsNoSpare shape after.private ends block
        no_spare_after own_shape is has ends same block out =
            subst (λ (e : SpareEnds). IsNoSpare shape after.private e block) (sym same)
            (no_spare_stays shape before.view.private after.private before.spares chain in_range.ranks.1
            (subst (λ (s : Shape). HasSpares s before.view.private before.spares) is has) chain_no_spare rewrites.links block out)
