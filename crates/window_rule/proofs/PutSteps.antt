-- A word of a block is stored.
use Rattle.std.proofs.Common.{◌≡◌, ◌≢◌, ℕ, ◌<◌, ◌==◌, ◌&&◌, cond, List, [], set, refl, sym, ap, ◌∙◌, subst, ◌⊎◌, inl, inr, arith, Some, None, eq-eqb, ne_eqb}
use Rattle.std.proofs.lemmas.Bool.{cases_eq}
use lib.ListN.{get_elem?}
use mathlib.Core.Option.{some}
use Rattle.rma_layout.specs.declared.word.Word.TheVariants.{Data, Gate, Commit}
use Rattle.rma_layout.specs.Shape.{Shape}
use Rattle.rma_layout.specs.Placement.{Place, same_place}
use Rattle.object_words.specs.Entries.{Entry, store_after}
use Rattle.object_words.specs.Contents.{content_of}
use Rattle.window_rule.specs.View.{View, Dirt, Cell}
use Rattle.window_rule.specs.Dirty.{dirt_of}
use Rattle.window_rule.specs.Words.{Words, with_word, is_block, locks_in, sizes_in, data_in, nexts_in, heads_in, stamps_in}
use Rattle.window_rule.specs.LocksHold.{LocksHold}
use Rattle.window_rule.specs.ContentsHold.{HasBlock, AreCells, stash_of, IsDirt, IsDirtOrNone, AreHeld, holdings_of}
use Rattle.window_rule.specs.Partition.{Holder, OwnOf, Within, part_of, places_of, times}
use Rattle.window_rule.specs.Permits.{Moment, Permits}
use Rattle.window_rule.specs.Reads.{MayPut, put_in, Puts}
use Rattle.window_rule.specs.Lawful.{Ground, Holds, locks_of, owns_of}
use Rattle.window_rule.proofs.Sums.{map-set_same}
use Rattle.window_rule.proofs.SpentKept.{SpentHold-live}
use Rattle.window_rule.proofs.LockLemmas.{place_cases, same_place-refl}
use Rattle.window_rule.proofs.PartitionKept.{share-tells}
use Rattle.window_rule.proofs.ViewsKept.{EachView-set, EachView-same, part_before}
use Rattle.window_rule.proofs.Frames.{MemoryHolds-same, RightsHold-same, GateHolds-same, HistoryHolds-same, IsPartition-same, DirtHolds-same, OwnBlocksHold-same, RoomHolds-same, NotesHold-same, StampsHold-opened}
use Rattle.window_rule.proofs.ObjectsKept.{other_block, ObjectsStand-put}
use Rattle.window_rule.proofs.Cells.{cell-first, cell-index, cell-block}

-- by the invariant a block that a view has is with this view, or with an object that it has
-- detached
abbrev pub HeldBy : {N : Type 0} → Ground N → ℕ → Place → Type 0
HeldBy ground id block = (ground.owner block ≡ OwnOf id)
    ⊎ ((object : Place) × (ground.owner block ≡ Within object)
    × ((ground.objects object).writer ≡ Some id))

-- no block is with two views
pub held_once : {N : Type 0} (ground : Ground N) (id j : ℕ) (block : Place) → HeldBy ground id block
    → HeldBy ground j block → id ≡ j
held_once ground id j block mine theirs =
    elim mine [
      | inl a ↦ elim theirs [
        | inl b ↦ let e : OwnOf id ≡ OwnOf j = sym a ∙ b in cc e
        | inr b ↦ absurd (let e : OwnOf id ≡ Within b.0 = sym a ∙ b.1 in cc e)
      ]
      | inr a ↦ elim theirs [
        | inl b ↦ absurd (let e : Within a.0 ≡ OwnOf j = sym a.1 ∙ b in cc e)
        | inr b ↦
            let e : Within a.0 ≡ Within b.0 = sym a.1 ∙ b.1 in
            let same : a.0 ≡ b.0 = cc e in
            let w : Some id ≡ Some j = sym a.2 ∙ (ap (λ o. (ground.objects o).writer) same ∙ b.2) in
            cc w
      ]
    ]

module _ {N : Type 0} (fits : Shape → Entry N → Type 0) (shape : Shape) (words : Words)
    (views : List (View N)) (ground : Ground N) (h : Holds fits shape words views ground) where
  pub owner_is : (holder : Holder) (block : Place)
      → 0 < times block (part_of ground.free (owns_of views) ground.objects holder)
      → ground.owner block ≡ holder
  owner_is holder block here =
      (share-tells (is_block shape block) (ground.owner block) holder
      (omega (arith, h.blocks.each holder block))).1

  pub dirt_here : (id : ℕ) (view : View N) → get_elem? views id ≡ some view
      → (object : Place) (dirt : Dirt) → dirt_of view.dirty object ≡ Some dirt
      → IsDirt (content_of (store_after ground.history) object) (ground.objects object) id dirt
  dirt_here id view there object dirt is =
      subst (IsDirtOrNone (content_of (store_after ground.history) object)
      (ground.objects object) id)
      (ap (λ d. dirt_of d object)
      (part_before (λ (v : View N). v.dirty) views id view view [] there) ∙ is)
      (h.dirt id object)

  pub held_by : (id : ℕ) (view : View N) → get_elem? views id ≡ some view → (block : Place)
      → HasBlock (stash_of view) block → HeldBy ground id block
  held_by id view there block has =
      elim has [
        | inl own ↦ inl (owner_is (OwnOf id) block
            (omega (
              arith,
              ap (λ l. times block (places_of l))
                  (part_before (λ (v : View N). v.private) views id view view [] there),
            )))
        | inr of_dirt ↦
            let d = dirt_here id view there of_dirt.0 of_dirt.1 of_dirt.2 in
            inr (
              of_dirt.0,
              owner_is (Within of_dirt.0) block
                  (omega (arith, ap (times block) d.chain, of_dirt.3)),
              d.writer,
            )
      ]

may_has : {N : Type 0} (view : View N) (block : Place) → MayPut view block
    → HasBlock (stash_of view) block
may_has view block may =
    elim may [
      | inl own ↦ inl own
      | inr of_dirt ↦ inr (of_dirt.0, of_dirt.1, of_dirt.2, of_dirt.4)
    ]

module _ {N : Type 0} (fits : Shape → Entry N → Type 0) (shape : Shape) (block : Place) (i new : ℕ)
    (before : View N) (may : MayPut before block)
    (words : Words) (views : List (View N)) (id : ℕ)
    (now : Moment fits shape words views id before) where
  abbrev ground : Ground N
  ground = now.lawful.ground

  abbrev h : Holds fits shape words views ground
  h = now.lawful.holds

  abbrev after : View N
  after = put_in block i new before

  abbrev new_words : Words
  new_words = with_word words (Data block i) new

  -- the block is in no chain that is attached
  not_attached : (object : Place) → (ground.objects object).content ≢ None
      → times block (ground.objects object).chain ≡ 0
  not_attached object some_content =
      elim (cases_eq (times block (ground.objects object).chain) 0) [
        | inl none ↦ none
        | inr here ↦ absurd (
            let within : ground.owner block ≡ Within object =
            owner_is fits shape words views ground h (Within object) block (omega arith) in
            elim may [
              | inl own ↦
                  let mine : ground.owner block ≡ OwnOf id =
                  owner_is fits shape words views ground h (OwnOf id) block
                  (omega (
                    arith,
                    ap (λ l. times block (places_of l))
                        (part_before (λ (v : View N). v.private) views id before before
                        [] now.there),
                  )) in
                  (let e : OwnOf id ≡ Within object = sym mine ∙ within in cc e)
              | inr of_dirt ↦
                  let d = dirt_here fits shape words views ground h id before now.there of_dirt.0
                  of_dirt.1 of_dirt.2 in
                  let mine : ground.owner block ≡ Within of_dirt.0 =
                  owner_is fits shape words views ground h (Within of_dirt.0) block
                  (omega (arith, ap (times block) d.chain, of_dirt.4)) in
                  let e : Within of_dirt.0 ≡ Within object = sym mine ∙ within in
                  let same : of_dirt.0 ≡ object = cc e in
                  some_content (sym (ap (λ o. (ground.objects o).content) same)
                  ∙ (d.content ∙ of_dirt.3))
            ])
      ]

  other_word : (b : Place) (j : ℕ) → j ≢ i → data_in new_words b j ≡ data_in words b j
  other_word b j ne = elim (place_cases b block) [
    | inl same ↦ ap (λ t. cond (t && j == i) new (words (Data b j)))
        (ap (λ p. same_place p block) same ∙ same_place-refl block)
        ∙ ap (λ t. cond t new (words (Data b j))) (ne_eqb j i ne)
    | inr differ ↦ other_block (data_in words) block i new b j differ
  ]

  word_here : data_in new_words block i ≡ new
  word_here = ap (λ t. cond (t && i == i) new (words (Data block i))) (same_place-refl block)
      ∙ ap (λ t. cond t new (words (Data block i))) (eq-eqb i i refl)

  mine_cells : AreCells (data_in new_words) (stash_of after)
  mine_cells b j word has e =
      let first : Cell = record { block = block; index = i; word = new } in
      elim (place_cases b block) [
        | inl same ↦ elim (cases_eq j i) [
          | inl here ↦
              let is : Some new ≡ Some word = sym
              (cell-first first before.cells b j (sym same) (sym here)) ∙ e in
              ap (λ q. data_in new_words q j) same
              ∙ (ap (data_in new_words block) here ∙ (word_here ∙ cc is))
          | inr ne ↦ other_word b j ne
              ∙ h.cells id before now.there b j word has
              (sym (cell-index first before.cells b j (sym same) (λ s. ne (sym s))) ∙ e)
        ]
        | inr ne ↦ other_block (data_in words) block i new b j ne
            ∙ h.cells id before now.there b j word has
            (sym (cell-block first before.cells b j (λ s. ne (sym s))) ∙ e)
      ]

  theirs_cells : (j : ℕ) (view : View N) → j ≢ id → get_elem? views j ≡ some view
      → AreCells (data_in words) (stash_of view) → AreCells (data_in new_words) (stash_of view)
  theirs_cells j view ne at was b k word has e =
      elim (place_cases b block) [
        | inl same ↦ absurd
            (ne (held_once ground j id block
            (subst (HeldBy ground j) same (held_by fits shape words views ground h j view at b has))
            (held_by fits shape words views ground h id before now.there block
            (may_has before block may))))
        | inr differ ↦ other_block (data_in words) block i new b k differ ∙ was b k word has e
      ]

  pub put_keeps : Holds fits shape new_words (set views id after) ground
  put_keeps =
      let there = now.there in record {
        rights = RightsHold-same shape views id before after there (words Commit) refl h.rights;
        spent = SpentHold-live views id after now.live h.spent;
        locks = subst (LocksHold shape (locks_in words))
            (sym (map-set_same locks_of views id before after there refl)) h.locks;
        gate = GateHolds-same shape views id before after there (words Gate) refl h.gate;
        history = HistoryHolds-same shape views id before after there fits
            (words Commit) ground.history refl refl h.history;
        objects = ObjectsStand-put (data_in words) block i new shape now.in_range
            (sizes_in words) ground.objects not_attached h.objects;
        lie = h.lie;
        free = h.free;
        blocks = IsPartition-same shape views id before after there ground.free ground.objects
            ground.owner refl h.blocks;
        contents = h.contents;
        dirt = DirtHolds-same shape views id before after there
            (store_after ground.history) ground.objects refl h.dirt;
        holdings = EachView-same (holdings_of {N = N}) views id before after there
            (λ _. AreHeld ground.objects) refl h.holdings;
        own = OwnBlocksHold-same shape views id before after there (nexts_in words) refl h.own;
        memory = MemoryHolds-same shape views id before after there refl h.memory;
        cells = EachView-set (stash_of {N = N}) views id before after there
            (λ _. AreCells (data_in words))
            (λ _. AreCells (data_in new_words)) mine_cells theirs_cells h.cells;
        room = RoomHolds-same shape views id before after there refl h.room;
        notes = NotesHold-same shape views id before after there
            (heads_in words) ground.free refl h.notes;
        stamps = StampsHold-opened shape views id before after there (stamps_in words)
            (words Commit) ground.opener refl (λ o. o) h.stamps;
      }

pub put_permitted : {N : Type 0} (fits : Shape → Entry N → Type 0) (shape : Shape) (block : Place)
    (i new : ℕ) (before : View N) → MayPut before block
    → Permits fits shape (Data block i) (λ _. new) before (λ _. Puts block i before new)
put_permitted fits shape block i new before may = record {
  goes = λ words views id now small. record {
    after = put_in block i new before;
    lawful = record {
      ground = now.lawful.ground;
      holds = put_keeps fits shape block i new before may words views id now;
    };
    same_rights = refl;
    told = refl;
  };
}
