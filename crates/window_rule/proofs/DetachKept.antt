-- An object is detached: the whole invariant is kept.
use Rattle.std.proofs.Common.{◌≡◌, ◌≢◌, ℕ, zero, suc, ◌+◌, ◌-◌, ◌/◌, ◌%◌, ◌<◌, ◌≤◌, ◌==◌, cond, List, [], ◌∷◌, map, length, set, get_or, refl, sym, ap, ◌∙◌, subst, inl, inr, arith, Option, Some, None, eq-eqb, ne_eqb}
use Rattle.std.specs.List.{AllByRecursion}
use Rattle.std.proofs.lemmas.Bool.{cases_eq}
use mathlib.Core.Option.{some, some-injective}
use lib.ListN.{get_elem?}
use Rattle.atomic_table.proofs.Lists.{at_map, set_else}
use Rattle.rma_layout.specs.declared.word.Word.TheVariants.{Length, Gate, Commit, Stamp}
use Rattle.rma_layout.specs.Shape.{Shape}
use Rattle.rma_layout.specs.Placement.{Place, IsBlock, same_place, metadata}
use Rattle.object_words.specs.Entries.{Entry, store_after}
use Rattle.object_words.specs.Contents.{content_of}
use Rattle.window_rule.specs.View.{View, Known, Dirt, AsWhole, Cell}
use Rattle.window_rule.specs.Locks.{hold_of}
use Rattle.window_rule.specs.Dirty.{dirt_of}
use Rattle.window_rule.specs.Words.{Words, is_block, with_word, sizes_in, data_in, nexts_in, heads_in, stamps_in}
use Rattle.window_rule.specs.RightsHold.{RightsHold, stake_of}
use Rattle.window_rule.specs.LocksHold.{LocksHold}
use Rattle.window_rule.specs.GateHolds.{GateHolds}
use Rattle.window_rule.specs.Words.{locks_in}
use Rattle.window_rule.specs.Lawful.{locks_of}
use Rattle.window_rule.specs.HistoryHolds.{AreHeard, past_of, HistoryHolds, chronicle_of, IsChronicle}
use Rattle.window_rule.specs.Objects.{Objects, Standing, AreLinked, IsKept, IsKeptIn, ObjectsStand, LiesAt, with_standing, chain_length}
use Rattle.window_rule.specs.ContentsHold.{ContentsAgree, DirtHolds, IsDirtOrNone, IsKnown, AreHeld, holdings_of, HoldingsHold, Lasts, IsOwnKnown, AreCells, stash_of}
use Rattle.window_rule.specs.MemoryHolds.{Remembers, memory_of}
use Rattle.window_rule.specs.RoomHolds.{HasStock, stock_of, asked_for, kept_of, sum_below}
use Rattle.window_rule.specs.Partition.{Holder, FreeOf, OwnOf, Within, part_of, places_of, times}
use Rattle.window_rule.proofs.PartitionKept.{two_shares}
use Rattle.window_rule.specs.NotesHold.{notebook_of, AreNoted}
use Rattle.window_rule.specs.StampsHold.{StampsHold, IsOpened, IsOpenState, open_state_of, opened_of}
use Rattle.window_rule.specs.Known.{known_of, cell_of}
use Rattle.window_rule.specs.Permits.{Permits}
use Rattle.window_rule.specs.Detach.{Detaches, dirt_on, detached, MayDetach, rows}
use Rattle.window_rule.specs.Attach.{IsSpelled, AreLinksKnown}
use Rattle.window_rule.specs.Lawful.{Ground, Holds, owns_of, dirts_of}
use Rattle.window_rule.proofs.Sums.{map-set_same, sum_below-except, sum_below-before}
use Rattle.object_words.specs.Blocks.{one_if, on_rank as place_on}
use Rattle.window_rule.proofs.SpentKept.{SpentHold-live}
use Rattle.window_rule.proofs.LockLemmas.{place_by_parts, same_place-refl, same_place-false, place_cases}
use Rattle.window_rule.proofs.WordFunctions.{with_word-same}
use Rattle.window_rule.proofs.ObjectsKept.{IsKept-elsewhere, times-get, chain_reaches}
use Rattle.window_rule.proofs.Cells.{rows-else, rows-tell, rows-have}
use Rattle.window_rule.proofs.Readings.{reading-gone, reading-stays, reading-less}
use Rattle.window_rule.proofs.Exclusions.{mark_excludes, writer_excludes}
use Rattle.window_rule.proofs.ViewsKept.{EachView-set, EachView-same, set_here_at, part_before, part_after, part_other}

-- the standing of one object and of another
pub standing-same : (objects : Objects) (object : Place) (new : Standing)
    → with_standing objects object new object ≡ new
standing-same objects object new = ap (λ t. cond t new (objects object)) (same_place-refl object)

pub standing-other : (objects : Objects) (object other : Place) (new : Standing) → other ≢ object
    → with_standing objects object new other ≡ objects other
standing-other objects object other new ne = ap (λ t. cond t new (objects other))
    (same_place-false other object ne)

-- dirt that is looked up by a view's number is of a view
pub dirty_view : {N : Type 0} (views : List (View N)) (j : ℕ) (object : Place) (dirt : Dirt)
    → dirt_of (get_or (dirts_of views) j []) object ≡ Some dirt
    → (view : View N) × (get_elem? views j ≡ some view) × (dirt_of view.dirty object ≡ Some dirt)
dirty_view [] j object dirt e = absurd (cc e)
dirty_view (v ∷ vs) zero object dirt e = (v, refl, e)
dirty_view (v ∷ vs) (suc j) object dirt e = dirty_view vs j object dirt e

abbrev pub blocks_of : Option Dirt → List Place
blocks_of None = []
blocks_of (Some dirt) = dirt.blocks

pub is_none : {A : Type 0} (o : Option A) → ((a : A) → o ≡ Some a → ⊥) → o ≡ None
is_none None h = refl
is_none (Some a) h = absurd (h a refl)

module _ {N : Type 0} (fits : Shape → Entry N → Type 0) (shape : Shape) (words : Words)
    (views : List (View N)) (ground : Ground N) (h : Holds fits shape words views ground)
    (id : ℕ) (before : View N) (there : get_elem? views id ≡ some before)
    (live : ¬ before.rights ≡ []) (object : Place) (block : IsBlock shape object)
    (may : MayDetach before object) where
  abbrev chain : List Place
  chain = (ground.objects object).chain

  abbrev kept : List ℕ
  kept = content_of (store_after ground.history) object

  abbrev after : View N
  after = detached object (record { chain = chain; content = kept })
      (rows (data_in words) shape.words chain before.cells) before

  abbrev mine : Dirt
  mine = dirt_on object (record { chain = chain; content = kept })

  abbrev standing : Standing
  standing = record { writer = Some id; chain = chain; content = None }

  abbrev objects : Objects
  objects = with_standing ground.objects object standing

  abbrev new_words : Words
  new_words = with_word words (Length object) 0

  abbrev new_views : List (View N)
  new_views = set views id after

  -- no other view has a lasting lock on the object, or a whole place, or dirt of it
  not_locked : (j : ℕ) (view : View N) → j ≢ id → get_elem? views j ≡ some view
      → ¬ Lasts (hold_of view.locks object)
  not_locked j view ne at =
      mark_excludes shape (locks_in words)
      (map locks_of views) id j before.locks view.locks object h.locks block
      (at_map locks_of views id before there) (at_map locks_of views j view at) ne may.marked

  not_whole : (j : ℕ) (view : View N) → get_elem? views j ≡ some view → view.gate ≢ AsWhole
  not_whole j view at =
      writer_excludes (words Gate) (map (λ (v : View N). v.gate) views) id j view.gate h.gate
      (at_map (λ (v : View N). v.gate) views id before there ∙ ap some may.writer)
      (at_map (λ (v : View N). v.gate) views j view at)

  not_dirty : (j : ℕ) → j ≢ id → dirt_of (get_or (dirts_of views) j []) object ≡ None
  not_dirty j ne = is_none (dirt_of (get_or (dirts_of views) j []) object) (λ dirt e.
      let found = dirty_view views j object dirt e in
      not_locked j found.0 ne found.1
      (subst Lasts (sym ((h.holdings j found.0 found.1).marked object dirt found.2).0) tt))

  mine_clean : dirt_of (get_or (dirts_of views) id []) object ≡ None
  mine_clean = ap (λ d. dirt_of d object)
      (part_before (λ (v : View N). v.dirty) views id before before [] there) ∙ may.clean

  not_written : (ground.objects object).writer ≡ None
  not_written = is_none (ground.objects object).writer (λ j e.
      let clean : dirt_of (get_or (dirts_of views) j []) object ≡ None = elim (cases_eq j id) [
        | inl same ↦ ap (λ k. dirt_of (get_or (dirts_of views) k []) object) same ∙ mine_clean
        | inr ne ↦ not_dirty j ne
      ] in
      subst (IsDirtOrNone (content_of (store_after ground.history) object)
      (ground.objects object) j) clean (h.dirt j object) e)

  stood : IsKeptIn shape (sizes_in words) (data_in words) object chain kept
  stood = subst (IsKept shape (sizes_in words) (data_in words) object chain)
      (h.contents object block not_written) (h.objects object block)

  pub stood_now : IsKeptIn shape (sizes_in words) (data_in words) object chain kept
  stood_now = stood

  pub known_same : (was : Known) → known_of before.known object ≡ Some was
      → was ≡ (let all : Known = record { chain = chain; content = kept } in all)
  known_same was is =
      let told = ((h.holdings id before there).read object was is).0 in
      let content : Some was.content ≡ Some kept = sym told.content_is
      ∙ h.contents object block not_written in
      let same : was.content ≡ kept = cc content in
      λ k. record { chain = sym told.chain_is k; content = same k }

  objects_stand : ObjectsStand shape (sizes_in new_words) (data_in words) objects
  objects_stand other is_other =
      elim (place_cases other object) [
        | inl same ↦
            subst (λ (s : Standing). IsKept shape (sizes_in new_words)
            (data_in words) other s.chain s.content)
            (sym (ap (with_standing ground.objects object standing) same
            ∙ standing-same ground.objects object standing))
            (ap (λ p. new_words (Length p)) same ∙ with_word-same words (Length object) 0)
        | inr ne ↦
            subst (λ (s : Standing). IsKept shape (sizes_in new_words)
            (data_in words) other s.chain s.content)
            (sym (standing-other ground.objects object other standing ne))
            (IsKept-elsewhere shape (sizes_in words) (data_in words) object 0 other
            (ground.objects other).chain (ground.objects other).content ne
            (h.objects other is_other))
      ]

  same_chain : (other : Place) → (objects other).chain ≡ (ground.objects other).chain
  same_chain other =
      elim (place_cases other object) [
        | inl same ↦ ap (λ p. (objects p).chain) same
            ∙ (ap (λ (s : Standing). s.chain) (standing-same ground.objects object standing)
            ∙ sym (ap (λ p. (ground.objects p).chain) same))
        | inr ne ↦ ap (λ (s : Standing). s.chain)
            (standing-other ground.objects object other standing ne)
      ]

  same_parts : (holder : Holder)
      → part_of ground.free (owns_of new_views) objects holder ≡ part_of ground.free
      (owns_of views) ground.objects holder
  same_parts (FreeOf rank) = refl
  same_parts (OwnOf j) = ap (λ owns. part_of ground.free owns objects (OwnOf j))
      (map-set_same (λ (v : View N). v.private) views id before after there refl)
  same_parts (Within other) = same_chain other

  contents_agree : ContentsAgree shape (store_after ground.history) objects
  contents_agree other is_other none =
      elim (place_cases other object) [
        | inl same ↦ absurd
            (let e : Some id ≡ None = sym
            (ap (λ (s : Standing). s.writer)
            (ap objects same ∙ standing-same ground.objects object standing)) ∙ none in cc e)
        | inr ne ↦
            let stays = standing-other ground.objects object other standing ne in
            ap (λ (s : Standing). s.content) stays
            ∙ h.contents other is_other (sym (ap (λ (s : Standing). s.writer) stays) ∙ none)
      ]

  abbrev stored : Place → List ℕ
  stored other = content_of (store_after ground.history) other

  dirt_here : (j : ℕ)
      → IsDirtOrNone kept standing j (dirt_of (get_or (dirts_of new_views) j []) object)
  dirt_here j =
      elim (cases_eq j id) [
        | inl same ↦
            subst (λ k. IsDirtOrNone kept standing k
            (dirt_of (get_or (dirts_of new_views) k []) object)) (sym same)
            (subst (IsDirtOrNone kept standing id)
            (sym (ap (λ d. dirt_of d object)
            (part_after (λ (v : View N). v.dirty) views id before after [] there)
            ∙ ap (λ t. cond t (Some mine) (dirt_of before.dirty object))
            (same_place-refl object)))
            (record { writer = refl; chain = refl; content = refl; kept = refl }))
        | inr ne ↦
            subst (IsDirtOrNone kept standing j)
            (sym (ap (λ d. dirt_of d object)
            (part_other (λ (v : View N). v.dirty) views id before after [] there j ne)
            ∙ not_dirty j ne))
            (λ e. ne (let same : id ≡ j = cc e in sym same))
      ]

  dirt_elsewhere : (j : ℕ) (other : Place) → other ≢ object
      → dirt_of (get_or (dirts_of new_views) j []) other ≡ dirt_of
      (get_or (dirts_of views) j []) other
  dirt_elsewhere j other ne =
      elim (cases_eq j id) [
        | inl same ↦
            ap (λ k. dirt_of (get_or (dirts_of new_views) k []) other) same
            ∙ (ap (λ d. dirt_of d other)
            (part_after (λ (v : View N). v.dirty) views id before after [] there)
            ∙ (ap (λ t. cond t (Some mine) (dirt_of before.dirty other))
            (same_place-false object other (λ e. ne (sym e)))
            ∙ (sym (ap (λ d. dirt_of d other)
            (part_before (λ (v : View N). v.dirty) views id before before [] there))
            ∙ sym (ap (λ k. dirt_of (get_or (dirts_of views) k []) other) same))))
        | inr differ ↦ ap (λ d. dirt_of d other)
            (part_other (λ (v : View N). v.dirty) views id before after [] there j differ)
      ]

  dirt_holds : DirtHolds (store_after ground.history) objects (dirts_of new_views)
  dirt_holds j other =
      elim (place_cases other object) [
        | inl same ↦
            subst (λ p. IsDirtOrNone (stored p) (objects p) j
            (dirt_of (get_or (dirts_of new_views) j []) p)) (sym same)
            (subst (λ (s : Standing). IsDirtOrNone kept s j
            (dirt_of (get_or (dirts_of new_views) j []) object))
            (sym (standing-same ground.objects object standing)) (dirt_here j))
        | inr ne ↦
            subst (λ (s : Standing). IsDirtOrNone (stored other) s j
            (dirt_of (get_or (dirts_of new_views) j []) other))
            (sym (standing-other ground.objects object other standing ne))
            (subst (IsDirtOrNone (stored other) (ground.objects other) j)
            (sym (dirt_elsewhere j other ne))
            (h.dirt j other))
      ]

  -- what was read of another object
  read_kept : (other : Place) (known : Known) → other ≢ object
      → IsKnown (ground.objects other).chain (ground.objects other).content known
      → IsKnown (objects other).chain (objects other).content known
  read_kept other known ne e = subst (λ (s : Standing). IsKnown s.chain s.content known)
      (sym (standing-other ground.objects object other standing ne)) e

  others_held : (j : ℕ) (view : View N) → j ≢ id → get_elem? views j ≡ some view
      → AreHeld ground.objects (holdings_of view) → AreHeld objects (holdings_of view)
  others_held j view ne at e = record {
    read = λ other reading is. let was = e.read other reading is in (
      read_kept other reading (λ same. elim was.2 [
        | inl lasts ↦ not_locked j view ne at (subst (λ p. Lasts (hold_of view.locks p)) same lasts)
        | inr whole ↦ not_whole j view at whole
      ]) was.0,
      was.1,
      was.2,
    );
    marked = e.marked;
  }

  mine_held : AreHeld ground.objects (holdings_of before) → AreHeld objects (holdings_of after)
  mine_held e = record {
    read = λ other reading is. elim (place_cases other object) [
      | inl same ↦ absurd
          (let gone : None ≡ Some reading = sym
          (ap (known_of after.known) same ∙ reading-gone before.known object) ∙ is in cc gone)
      | inr ne ↦ let was = e.read other reading
          (sym (reading-stays before.known object other ne) ∙ is) in (
            read_kept other reading ne was.0,
            ap (λ t. cond t (Some mine) (dirt_of before.dirty other))
                (same_place-false object other (λ s. ne (sym s))) ∙ was.1,
            was.2,
          )
    ];
    marked = λ other dirt is. elim (place_cases other object) [
      | inl same ↦ (ap (hold_of before.locks) same ∙ may.marked, may.writer)
      | inr ne ↦ e.marked other dirt
          (sym (ap (λ t. cond t (Some mine) (dirt_of before.dirty other))
          (same_place-false object other (λ s. ne (sym s)))) ∙ is)
    ];
  }

  holdings_hold : HoldingsHold objects new_views
  holdings_hold =
      EachView-set (holdings_of {N = N}) views id before after there (λ _. AreHeld ground.objects)
      (λ _. AreHeld objects)
      (mine_held (h.holdings id before there)) others_held h.holdings

  -- the dirt at a place of a rank, before and after
  dirt_now : (other : Place) → other ≢ object
      → dirt_of after.dirty other ≡ dirt_of before.dirty other
  dirt_now other ne = ap (λ t. cond t (Some mine) (dirt_of before.dirty other))
      (same_place-false object other (λ s. ne (sym s)))

  dirt_new : dirt_of after.dirty object ≡ Some mine
  dirt_new = ap (λ t. cond t (Some mine) (dirt_of before.dirty object)) (same_place-refl object)

  -- what is known of the words of its blocks
  cells_after : AreCells (data_in words) (stash_of after)
  cells_after b i word has e =
      elim (cases_eq (times b chain) 0) [
        | inl none ↦ h.cells id before there b i word (elim has [
          | inl own ↦ inl own
          | inr of_dirt ↦ elim (place_cases of_dirt.0 object) [
            | inl same ↦ absurd (
                let is : Some mine ≡ Some of_dirt.1 = sym dirt_new
                ∙ (ap (dirt_of after.dirty) (sym same) ∙ of_dirt.2) in
                let chain_is : chain ≡ of_dirt.1.blocks = ap blocks_of is in
                omega (arith, ap (times b) chain_is, of_dirt.3))
            | inr ne ↦ inr (
              of_dirt.0,
              of_dirt.1,
              sym (dirt_now of_dirt.0 ne)
                  ∙ of_dirt.2,
              of_dirt.3,
            )
          ]
        ]) (sym (rows-else (data_in words) shape.words chain before.cells b i none) ∙ e)
        | inr some_times ↦ rows-tell (data_in words) shape.words chain before.cells b i word
            (omega arith) e
      ]

  stock_before : HasStock shape (stock_of before)
  stock_before = h.room id before there

  -- a count over the objects of a rank has one more
  one_more : (count : Place → Option Dirt → ℕ) (rank : ℕ) → ((place : Place) → count place None ≡ 0)
      → sum_below shape.blocks
      (λ b. count (place_on rank b) (dirt_of after.dirty (place_on rank b)))
      ≡ sum_below shape.blocks
      (λ b. count (place_on rank b) (dirt_of before.dirty (place_on rank b))) + cond
      (object.rank == rank) (count object (Some mine)) 0
  one_more count rank none =
      let f = λ (b : ℕ). count (place_on rank b) (dirt_of before.dirty (place_on rank b)) in
      let g = λ (b : ℕ). count (place_on rank b) (dirt_of after.dirty (place_on rank b)) in
      elim (cases_eq object.rank rank) [
        | inl same ↦
            let place : place_on rank object.block ≡ object = place_by_parts _ _ (sym same) refl in
            let was : f object.block ≡ 0 = ap (λ p. count p (dirt_of before.dirty p)) place
            ∙ (ap (count object) may.clean ∙ none object) in
            let is : g object.block ≡ count object (Some mine) = ap
            (λ p. count p (dirt_of after.dirty p)) place ∙ ap (count object) dirt_new in
            let here : cond (object.rank == rank) (count object (Some mine)) 0 ≡ count object
            (Some mine) = ap (λ t. cond t (count object (Some mine)) 0)
            (eq-eqb object.rank rank same) in
            let sums = sum_below-except shape.blocks f g object.block
            (λ k ne. ap (count (place_on rank k))
            (dirt_now (place_on rank k) (λ e. ne (ap (λ (p : Place). p.block) e)))) block.1 in
            omega arith
        | inr ne ↦
            let none_here : cond (object.rank == rank) (count object (Some mine)) 0 ≡ 0 = ap
            (λ t. cond t (count object (Some mine)) 0) (ne_eqb object.rank rank ne) in
            let sums = sum_below-before shape.blocks f g shape.blocks
            (λ k less. ap (count (place_on rank k))
            (dirt_now (place_on rank k) (λ e. ne (sym (ap (λ (p : Place). p.rank) e)))))
            (omega arith) in
            omega arith
      ]

  stock_after : HasStock shape (stock_of after)
  stock_after rank =
      let was = h.room id before there rank in
      let asked = one_more (asked_for shape) rank (λ place. refl) in
      let have = one_more (λ _. kept_of) rank (λ place. refl) in
      elim (cases_eq object.rank rank) [
        | inl same ↦
            let a : cond (object.rank == rank)
            (chain_length shape object kept) 0 ≡ chain_length shape object kept = ap
            (λ t. cond t (chain_length shape object kept) 0) (eq-eqb object.rank rank same) in
            let b : cond (object.rank == rank) (length chain) 0 ≡ length chain = ap
            (λ t. cond t (length chain) 0) (eq-eqb object.rank rank same) in
            omega (arith, stood.blocks)
        | inr ne ↦
            let a : cond (object.rank == rank) (chain_length shape object kept) 0 ≡ 0 = ap
            (λ t. cond t (chain_length shape object kept) 0) (ne_eqb object.rank rank ne) in
            let b : cond (object.rank == rank) (length chain) 0 ≡ 0 = ap
            (λ t. cond t (length chain) 0) (ne_eqb object.rank rank ne) in
            omega arith
      ]

  -- the history is as it was
  history_holds : HistoryHolds fits shape (words Commit) ground.history new_views
  history_holds = record {
    counted = h.history.counted;
    heard = EachView-same (past_of {N = N}) views id before after there
        (λ _. AreHeard) refl h.history.heard;
    legal = h.history.legal;
    fitting = h.history.fitting;
    ranked = h.history.ranked;
    held = elim (cases_eq h.history.held.0 id) [
      | inl same ↦
          let is : h.history.held.1 ≡ before = some-injective _ _
          (sym h.history.held.2 ∙ (ap (get_elem? views) same ∙ there)) in (
            id,
            after,
            set_here_at views id before after there,
            sym (ap (λ (v : View N). v.seen) is)
                ∙ h.history.held.3,
          )
      | inr ne ↦ (
        h.history.held.0,
        h.history.held.1,
        set_else views id h.history.held.0 after ne
            ∙ h.history.held.2,
        h.history.held.3,
      )
    ];
    each = EachView-same (chronicle_of {N = N}) views id before after there
        (λ _. IsChronicle ground.history) refl h.history.each;
  }

  opening_after : IsOpenState (open_state_of before) → IsOpenState (open_state_of after)
  opening_after e = record {
    marked = e.marked;
    dirty = λ other dirt is. elim (place_cases other object) [
      | inl same ↦ λ none. may.opened (sym (ap (opened_of before.stamps.opened) same) ∙ none)
      | inr ne ↦ e.dirty other dirt
          (sym (ap (λ t. cond t (Some mine) (dirt_of before.dirty other))
          (same_place-false object other (λ s. ne (sym s)))) ∙ is)
    ];
  }

  stamps_hold : StampsHold shape (stamps_in words) (words Commit) ground.opener new_views
  stamps_hold = record {
    bound = h.stamps.bound;
    closed = h.stamps.closed;
    odd = h.stamps.odd;
    opened = λ j other is_b. subst
        (λ all. IsOpened (words Commit) (words (Stamp other)) j (ground.opener other)
        (opened_of (get_or all j []) other))
        (sym (map-set_same (λ (v : View N). v.stamps.opened) views id before after there refl))
        (h.stamps.opened j other is_b);
    each = EachView-set (open_state_of {N = N}) views id before after there (λ _. IsOpenState)
        (λ _. IsOpenState) (opening_after (h.stamps.each id before there))
        (λ j view ne at was. was) h.stamps.each;
  }

  pub detach_keeps : Holds fits shape new_words new_views (record ground { objects = objects })
  detach_keeps = record {
    rights = subst (RightsHold shape (words Commit))
        (sym (map-set_same stake_of views id before after there refl)) h.rights;
    spent = SpentHold-live views id after live h.spent;
    locks = subst (LocksHold shape (locks_in words))
        (sym (map-set_same locks_of views id before after there refl)) h.locks;
    gate = subst (GateHolds (words Gate))
        (sym (map-set_same (λ (v : View N). v.gate) views id before after there refl)) h.gate;
    history = history_holds;
    objects = objects_stand;
    lie = λ other. subst (LiesAt other) (sym (same_chain other)) (h.lie other);
    free = h.free;
    blocks = record {
      each = λ holder b. ap (times b) (same_parts holder) ∙ h.blocks.each holder b;
      reserved = h.blocks.reserved;
    };
    contents = contents_agree;
    dirt = dirt_holds;
    holdings = holdings_hold;
    own = EachView-same (λ (v : View N). v.private) views id before after there
        (λ _. AllByRecursion (IsOwnKnown (nexts_in words))) refl h.own;
    memory = EachView-set (memory_of {N = N}) views id before after there (λ _. Remembers shape)
        (λ _. Remembers shape)
        (λ other known is. h.memory id before there other known
        (reading-less before.known object other known is)) (λ j view ne at was. was) h.memory;
    cells = EachView-set (stash_of {N = N}) views id before after there
        (λ _. AreCells (data_in words)) (λ _. AreCells (data_in words)) cells_after
        (λ j view ne at was. was) h.cells;
    room = EachView-set (stock_of {N = N}) views id before after there (λ _. HasStock shape)
        (λ _. HasStock shape) stock_after (λ j view ne at was. was) h.room;
    notes = EachView-same (notebook_of {N = N}) views id before after there
        (λ _. AreNoted shape (heads_in words) ground.free) refl h.notes;
    stamps = stamps_hold;
  }

-- what an attached object's words are, the cells of its blocks say
links_known : (words : Place → ℕ → ℕ) (cells : List Cell) (chain : List Place)
    → ((b : Place) → 0 < times b chain → cell_of cells b 0 ≡ Some (words b 0))
    → AreLinked words chain → AreLinksKnown cells chain
links_known words cells [] has h = tt
links_known words cells (one ∷ more) has h = (
  has one (let here : one_if (same_place one one) ≡ 1 = ap one_if (same_place-refl one) in
      omega arith) ∙ ap Some h.0,
  links_known words cells more (λ b some_times. has b (omega arith)) h.1,
)

spelled_from : (shape : Shape) → 2 ≤ shape.words
    → (sizes : Place → ℕ) (words : Place → ℕ → ℕ) (object : Place) (chain : List Place)
    (content : List ℕ) (rest : List Cell)
    → IsKeptIn shape sizes words object chain content
    → IsSpelled shape (rows words shape.words chain rest) chain content
spelled_from shape wide sizes words object chain content rest h = record {
  linked = links_known words (rows words shape.words chain rest) chain
      (λ b some_times. rows-have words shape.words chain rest b 0 some_times (omega arith))
      h.linked;
  payload = λ k below.
      let per = shape.words - 1 in
      rows-have words shape.words chain rest (get_or chain (k / per) metadata) (1 + k % per)
      (times-get chain (k / per)
      (chain_reaches shape wide sizes words object chain content k below h)) (omega arith)
      ∙ ap Some (h.payload k below);
}

pub detach_permitted : {N : Type 0} (fits : Shape → Entry N → Type 0) (shape : Shape)
    (before : View N) (object : Place) → IsBlock shape object → MayDetach before object
    → Permits fits shape (Length object) (λ _. 0) before
    (λ _ after. Detaches shape object before after)
detach_permitted {N} fits shape before object block may = record {
  goes = λ words views id now word_fits.
      let ground = now.lawful.ground in
      let h = now.lawful.holds in
      let kept = content_of (store_after ground.history) object in
      let chain = (ground.objects object).chain in
      let known : Known = record { chain = chain; content = kept } in
      let cells = rows (data_in words) shape.words chain before.cells in
      let stood = stood_now fits shape words views ground h id before now.there now.live object
      block may in record {
        after = detached object known cells before;
        lawful = record {
          ground = record ground {
            objects = with_standing ground.objects object
                (record { writer = Some id; chain = chain; content = None });
          };
          holds = detach_keeps fits shape words views ground h id before now.there now.live object
              block may;
        };
        same_rights = refl;
        told = record {
          known = known;
          cells = cells;
          view = refl;
          same = λ was is. known_same fits shape words views ground h id before now.there now.live
              object block may was is;
          blocks = stood.blocks;
          few_words = stood.few_words;
          lies = h.lie object;
          spelled = spelled_from shape (omega (arith, now.in_range.words)) (sizes_in words)
              (data_in words) object chain kept before.cells stood;
          apart = λ b. omega (
            arith,
            h.blocks.each (Within object) b,
            h.blocks.each (OwnOf id) b,
            two_shares (is_block shape b) (ground.owner b) (Within object) (OwnOf id) (λ e. cc e),
            ap (λ l. times b (places_of l))
                (part_before (λ (v : View N). v.private) views id before before [] now.there),
          );
          others = λ b i none. rows-else (data_in words) shape.words chain before.cells b i none;
        };
      };
}
