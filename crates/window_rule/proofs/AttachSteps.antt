-- An object's new words are attached: the whole invariant is kept.
use Rattle.std.proofs.Common.{◌≡◌, ◌≢◌, ℕ, ◌+◌, ◌-◌, ◌<◌, ◌&&◌, ◌^◌, not, true, false, cond, List, [], ◌∷◌, ◌++◌, length, set, get_or, refl, sym, ap, ◌∙◌, subst, inl, inr, arith, Some, None}
use Rattle.std.specs.List.{AllByRecursion}
use Rattle.std.proofs.lemmas.Bool.{cases_eq}
use Rattle.std.proofs.lemmas.Bool.Decides.{nat_tests}
use Rattle.std.proofs.lemmas.List.Sums.{sum_by-cons}
use mathlib.Core.Option.{some}
use lib.ListN.{get_elem?}
use Rattle.rma_layout.specs.declared.word.Word.TheVariants.{Length, Gate, Commit}
use Rattle.rma_layout.specs.Shape.{Shape}
use Rattle.rma_layout.specs.Placement.{Place, IsBlock, IsReserved, same_place, raw_of}
use Rattle.object_words.specs.Blocks.{is_reserved, blocks_for, on_rank as place_on}
use Rattle.object_words.specs.Contents.{content_of, is_empty}
use Rattle.object_words.specs.Entries.{Entry, store_after}
use Rattle.window_rule.specs.View.{View, Known, Dirt, OwnBlock, Marked, AsWriter}
use Rattle.window_rule.specs.Dirty.{dirt_of}
use Rattle.window_rule.specs.Locks.{hold_of}
use Rattle.window_rule.specs.Words.{Words, with_word, is_block, locks_in, sizes_in, data_in, nexts_in, heads_in, stamps_in}
use Rattle.window_rule.specs.LocksHold.{LocksHold}
use Rattle.window_rule.specs.Objects.{Standing, Objects, IsKept, ObjectsStand, LiesAt, ChainsLie, BeginsAt, link_to, chain_length, with_standing}
use Rattle.window_rule.specs.ContentsHold.{ContentsAgree, DirtHolds, HasBlock, AreCells, stash_of, IsDirt, IsDirtOrNone, IsKnown, AreHeld, holdings_of, IsOwnKnown}
use Rattle.window_rule.specs.RoomHolds.{HasStock, stock_of, count_on, asked_for, kept_of, asked_at, kept_at}
use Rattle.window_rule.specs.Partition.{Holder, OwnOf, Within, part_of, places_of, times}
use Rattle.window_rule.specs.StampsHold.{IsOpenState, open_state_of, opened_of}
use Rattle.window_rule.specs.Attach.{attach_in, IsSpelled, MayAttach, MayAttachSome, Attaches, AttachesAll}
use Rattle.window_rule.specs.Permits.{Moment, Permits, Goes}
use Rattle.window_rule.specs.Lawful.{Ground, Holds, locks_of, owns_of, dirts_of}
use Rattle.window_rule.proofs.Sums.{map-set_same, sum_below-except}
use Rattle.window_rule.proofs.Counting.{sum_below-same}
use Rattle.window_rule.proofs.SpentKept.{SpentHold-live}
use Rattle.window_rule.proofs.LockLemmas.{place_cases, place_by_parts, same_place-refl, same_place-false}
use Rattle.window_rule.proofs.WordFunctions.{with_word-same, is_block-tells}
use Rattle.window_rule.proofs.ObjectsKept.{IsKept-elsewhere}
use Rattle.window_rule.proofs.PartitionKept.{share-tells}
use Rattle.window_rule.proofs.ViewsKept.{EachView-set, part_before, part_after, part_other}
use Rattle.window_rule.proofs.Frames.{MemoryHolds-same, RightsHold-same, GateHolds-same, HistoryHolds-same, NotesHold-same, StampsHold-opened}
use Rattle.window_rule.proofs.DetachKept.{standing-same, standing-other, is_none, blocks_of}
use Rattle.window_rule.proofs.RoomKept.{count_all}
use Rattle.window_rule.proofs.AttachKept.{IsKeptIn-built, first_in, blocks_exchanged}
use Rattle.window_rule.proofs.PutSteps.{dirt_here}
use Rattle.window_rule.proofs.Removals.{counts, as_own, without_all, AreRemoved, all_removed, without_all-keeps, places-both, times-both, on-both, as_own-all, one_chain, one_content, without_all-links}
use Rattle.window_rule.proofs.SparesKept.{link-left}

-- what the view has of the object, and of another
attached-same : (dirty : List Dirt) (object : Place) (chain : List Place) (content : List ℕ)
    (dirt : Dirt) → dirt_of dirty object ≡ Some dirt
    → dirt_of (attach_in dirty object chain content) object ≡ Some
    (record dirt { blocks = chain; attached = Some content })
attached-same [] object chain content dirt e = absurd (cc e)
attached-same (one ∷ more) object chain content dirt e =
    let new : Dirt = record one { blocks = chain; attached = Some content } in
    elim (place_cases one.object object) [
      | inl same ↦
          let t = ap (λ p. same_place p object) same ∙ same_place-refl object in
          let is : Some one ≡ Some dirt = sym
          (ap (λ b. cond b (Some one) (dirt_of more object)) t) ∙ e in
          let one_is : one ≡ dirt = cc is in
          ap (λ b. dirt_of (cond b (new ∷ more) (one ∷ attach_in more object chain content))
          object) t
          ∙ (ap (λ b. cond b (Some new) (dirt_of more object)) t
          ∙ ap (λ (d : Dirt). Some
          (let n : Dirt = record d { blocks = chain; attached = Some content } in n)) one_is)
      | inr ne ↦
          let t = same_place-false one.object object ne in
          ap (λ b. dirt_of (cond b (new ∷ more) (one ∷ attach_in more object chain content))
          object) t
          ∙ (ap (λ b. cond b (Some one) (dirt_of (attach_in more object chain content) object)) t
          ∙ attached-same more object chain content dirt
          (sym (ap (λ b. cond b (Some one) (dirt_of more object)) t) ∙ e))
    ]

attached-other : (dirty : List Dirt) (object other : Place) (chain : List Place) (content : List ℕ)
    → other ≢ object → dirt_of (attach_in dirty object chain content) other ≡ dirt_of dirty other
attached-other [] object other chain content ne = refl
attached-other (one ∷ more) object other chain content ne =
    let new : Dirt = record one { blocks = chain; attached = Some content } in
    elim (place_cases one.object object) [
      | inl same ↦
          let t = ap (λ p. same_place p object) same ∙ same_place-refl object in
          let u = same_place-false one.object other (λ e. ne (sym e ∙ same)) in
          ap (λ b. dirt_of (cond b (new ∷ more) (one ∷ attach_in more object chain content))
          other) t
          ∙ (ap (λ b. cond b (Some new) (dirt_of more other)) u
          ∙ sym (ap (λ b. cond b (Some one) (dirt_of more other)) u))
      | inr differ ↦
          let t = same_place-false one.object object differ in
          ap (λ b. dirt_of (cond b (new ∷ more) (one ∷ attach_in more object chain content))
          other) t
          ∙ ap (λ d. cond (same_place one.object other) (Some one) d)
          (attached-other more object other chain content ne)
    ]

chain_length-same : (shape : Shape) (object : Place) (one other : List ℕ)
    → length one ≡ length other → chain_length shape object one ≡ chain_length shape object other
chain_length-same shape object [] [] e = refl
chain_length-same shape object [] (y ∷ ys) e = absurd (omega arith)
chain_length-same shape object (x ∷ xs) [] e = absurd (omega arith)
chain_length-same shape object (x ∷ xs) (y ∷ ys) e = ap
    (λ n. cond (not (is_reserved shape object.block) && false) 0 (blocks_for n (shape.words - 1))) e

begin_alike : (object : Place) (one other : List Place) → length one ≡ length other
    → BeginsAt object one → BeginsAt object other → link_to one ≡ link_to other
begin_alike object [] [] same h l = refl
begin_alike object [] (b ∷ ys) same h l = absurd (omega arith)
begin_alike object (a ∷ xs) [] same h l = absurd (omega arith)
begin_alike object (a ∷ xs) (b ∷ ys) same h l = ap raw_of (h ∙ sym l)

none_on : (rank other : ℕ) (chain : List Place) → other ≢ rank
    → AllByRecursion (λ (b : Place). b.rank ≡ other) chain → count_on rank chain ≡ 0
none_on rank other [] ne h = refl
none_on rank other (b ∷ more) ne h =
    let here : counts rank b ≡ 0 = let e = h.0 in grind (arith, nat_tests) in
    omega (arith, sum_by-cons (counts rank) b more, none_on rank other more ne h.1)

reserved_has : (shape : Shape) (object : Place) (content : List ℕ) → IsReserved shape object.block
    → 0 < chain_length shape object content
reserved_has shape object content reserved =
    let t : is_reserved shape object.block ≡ true = grind (arith, nat_tests) in
    let is : chain_length shape object content ≡ blocks_for (length content) (shape.words - 1) = ap
    (λ b. cond (not b && is_empty content) 0
    (blocks_for (length content) (shape.words - 1))) t in
    omega arith

module _ {N : Type 0} (fits : Shape → Entry N → Type 0) (shape : Shape) (object : Place)
    (block : IsBlock shape object) (len : ℕ) (before : View N)
    (any : MayAttachSome shape object len before)
    (words : Words) (views : List (View N)) (id : ℕ)
    (now : Moment fits shape words views id before) where
  abbrev ground : Ground N
  ground = now.lawful.ground

  abbrev h : Holds fits shape words views ground
  h = now.lawful.holds

  abbrev there : get_elem? views id ≡ some before
  there = now.there

  abbrev chain : List Place
  chain = any.0

  abbrev content : List ℕ
  content = any.1

  abbrev may : MayAttach shape object chain content before
  may = any.3

  abbrev dirt : Dirt
  dirt = may.dirt

  abbrev gathered : List OwnBlock
  gathered = before.private ++ as_own dirt.blocks

  abbrev after : View N
  after = record before {
    dirty = attach_in before.dirty object chain content;
    private = without_all gathered chain;
  }

  abbrev new_dirt : Dirt
  new_dirt = record dirt { blocks = chain; attached = Some content }

  abbrev standing : Standing
  standing = record { writer = Some id; chain = chain; content = Some content }

  abbrev objects : Objects
  objects = with_standing ground.objects object standing

  abbrev new_words : Words
  new_words = with_word words (Length object) len

  abbrev new_views : List (View N)
  new_views = set views id after

  abbrev stored : Place → List ℕ
  stored other = content_of (store_after ground.history) other

  was : IsDirt (stored object) (ground.objects object) id dirt
  was = dirt_here fits shape words views ground h id before there object dirt may.is

  times_before : (b : Place)
      → times b (places_of gathered) ≡ times b (places_of before.private) + times b dirt.blocks
  times_before b = ap (times b) (places-both before.private dirt.blocks)
      ∙ times-both b (places_of before.private) dirt.blocks

  left : AreRemoved gathered chain (without_all gathered chain)
  left = all_removed gathered chain (λ b. omega (arith, may.has b, times_before b))

  conserved : (b : Place)
      → times b (places_of after.private) + times b chain ≡ times b
      (places_of before.private) + times b dirt.blocks
  conserved b = left.times_are b ∙ times_before b

  as_many : (rank : ℕ)
      → count_on rank (places_of after.private) + count_on rank chain ≡ count_on rank
      (places_of before.private) + count_on rank dirt.blocks
  as_many rank = left.ranks_are rank
      ∙ (ap (count_on rank) (places-both before.private dirt.blocks)
      ∙ on-both rank (places_of before.private) dirt.blocks)

  has_block : (b : Place) → 0 < times b (places_of before.private) + times b dirt.blocks
      → HasBlock (stash_of before) b
  has_block b some_times =
      elim (cases_eq (times b dirt.blocks) 0) [
        | inl none ↦ inl (omega arith)
        | inr here ↦ inr (object, dirt, may.is, omega arith)
      ]

  -- the blocks that the view has are blocks of the window
  is_ours : (b : Place) → 0 < times b (places_of before.private) + times b dirt.blocks
      → b.block < 2 ^ 48
  is_ours b some_times =
      let inside : (holder : Holder)
      → 0 < times b (part_of ground.free (owns_of views) ground.objects holder)
      → b.block < 2 ^ 48 = λ holder here.
      let is = is_block-tells shape b
      (share-tells (is_block shape b) (ground.owner b) holder
      (omega (arith, h.blocks.each holder b))).0 in
      omega (arith, is.1, now.in_range.blocks.1) in
      elim (cases_eq (times b dirt.blocks) 0) [
        | inl none ↦ inside (OwnOf id)
            (omega (
              arith,
              ap (λ l. times b (places_of l))
                  (part_before (λ (v : View N). v.private) views id before before [] there),
            ))
        | inr here ↦ inside (Within object) (omega (arith, ap (times b) was.chain))
      ]

  dirt_new : dirt_of after.dirty object ≡ Some new_dirt
  dirt_new = attached-same before.dirty object chain content dirt may.is

  dirt_now : (other : Place) → other ≢ object
      → dirt_of after.dirty other ≡ dirt_of before.dirty other
  dirt_now other ne = attached-other before.dirty object other chain content ne

  objects_stand : ObjectsStand shape (sizes_in new_words) (data_in words) objects
  objects_stand other is_other =
      elim (place_cases other object) [
        | inl same ↦
            subst (λ p. IsKept shape (sizes_in new_words) (data_in words) p (objects p).chain
            (objects p).content) (sym same)
            (subst (λ (s : Standing). IsKept shape (sizes_in new_words)
            (data_in words) object s.chain s.content)
            (sym (standing-same ground.objects object standing))
            (IsKeptIn-built shape (omega (arith, now.in_range.words)) (sizes_in new_words)
            (data_in words) before.cells object chain content may.built
            (λ b i w some_times e. h.cells id before there b i w
            (has_block b (omega (arith, may.has b))) e)
            (with_word-same words (Length object) len ∙ sym any.2)))
        | inr ne ↦
            subst (λ (s : Standing). IsKept shape (sizes_in new_words)
            (data_in words) other s.chain s.content)
            (sym (standing-other ground.objects object other standing ne))
            (IsKept-elsewhere shape (sizes_in words) (data_in words) object len other
            (ground.objects other).chain (ground.objects other).content ne
            (h.objects other is_other))
      ]

  chains_lie : ChainsLie objects
  chains_lie other =
      elim (place_cases other object) [
        | inl same ↦
            subst (λ p. LiesAt p (objects p).chain) (sym same)
            (subst (λ (s : Standing). LiesAt object s.chain)
            (sym (standing-same ground.objects object standing)) may.built.lies)
        | inr ne ↦ subst (λ (s : Standing). LiesAt other s.chain)
            (sym (standing-other ground.objects object other standing ne)) (h.lie other)
      ]

  contents_agree : ContentsAgree shape (store_after ground.history) objects
  contents_agree other is_other none =
      elim (place_cases other object) [
        | inl same ↦ absurd
            (let e : Some id ≡ None = sym
            (ap (λ (s : Standing). s.writer)
            (ap objects same ∙ standing-same ground.objects object standing)) ∙ none in cc e)
        | inr ne ↦
            let stays = standing-other ground.objects object other standing ne in
            ap (λ (s : Standing). s.content) stays
            ∙ h.contents other is_other (sym (ap (λ (s : Standing). s.writer) stays) ∙ none)
      ]

  not_theirs : (j : ℕ) → j ≢ id → dirt_of (get_or (dirts_of views) j []) object ≡ None
  not_theirs j ne = is_none (dirt_of (get_or (dirts_of views) j []) object) (λ d e.
      let theirs : IsDirt (stored object) (ground.objects object) j d = subst
      (IsDirtOrNone (stored object) (ground.objects object) j) e (h.dirt j object) in
      let same : Some id ≡ Some j = sym was.writer ∙ theirs.writer in
      ne (cc same))

  dirt_of_object : (j : ℕ)
      → IsDirtOrNone (stored object) standing j (dirt_of (get_or (dirts_of new_views) j []) object)
  dirt_of_object j =
      elim (cases_eq j id) [
        | inl same ↦
            subst (λ k. IsDirtOrNone (stored object) standing k
            (dirt_of (get_or (dirts_of new_views) k []) object)) (sym same)
            (subst (IsDirtOrNone (stored object) standing id)
            (sym (ap (λ d. dirt_of d object)
            (part_after (λ (v : View N). v.dirty) views id before after [] there) ∙ dirt_new))
            (record { writer = refl; chain = refl; content = refl; kept = was.kept }))
        | inr ne ↦
            subst (IsDirtOrNone (stored object) standing j)
            (sym (ap (λ d. dirt_of d object)
            (part_other (λ (v : View N). v.dirty) views id before after [] there j ne)
            ∙ not_theirs j ne))
            (λ e. ne (let same : id ≡ j = cc e in sym same))
      ]

  dirt_elsewhere : (j : ℕ) (other : Place) → other ≢ object
      → dirt_of (get_or (dirts_of new_views) j []) other ≡ dirt_of
      (get_or (dirts_of views) j []) other
  dirt_elsewhere j other ne =
      elim (cases_eq j id) [
        | inl same ↦
            ap (λ k. dirt_of (get_or (dirts_of new_views) k []) other) same
            ∙ (ap (λ d. dirt_of d other)
            (part_after (λ (v : View N). v.dirty) views id before after [] there)
            ∙ (dirt_now other ne
            ∙ (sym (ap (λ d. dirt_of d other)
            (part_before (λ (v : View N). v.dirty) views id before before [] there))
            ∙ sym (ap (λ k. dirt_of (get_or (dirts_of views) k []) other) same))))
        | inr differ ↦ ap (λ d. dirt_of d other)
            (part_other (λ (v : View N). v.dirty) views id before after [] there j differ)
      ]

  dirt_holds : DirtHolds (store_after ground.history) objects (dirts_of new_views)
  dirt_holds j other =
      elim (place_cases other object) [
        | inl same ↦
            subst (λ p. IsDirtOrNone (stored p) (objects p) j
            (dirt_of (get_or (dirts_of new_views) j []) p)) (sym same)
            (subst (λ (s : Standing). IsDirtOrNone (stored object) s j
            (dirt_of (get_or (dirts_of new_views) j []) object))
            (sym (standing-same ground.objects object standing)) (dirt_of_object j))
        | inr ne ↦
            subst (λ (s : Standing). IsDirtOrNone (stored other) s j
            (dirt_of (get_or (dirts_of new_views) j []) other))
            (sym (standing-other ground.objects object other standing ne))
            (subst (IsDirtOrNone (stored other) (ground.objects other) j)
            (sym (dirt_elsewhere j other ne)) (h.dirt j other))
      ]

  -- nobody knows the object, since it had no content
  known_stays : (other : Place) (known : Known)
      → IsKnown (ground.objects other).chain (ground.objects other).content known
      → (other ≢ object) × IsKnown (objects other).chain (objects other).content known
  known_stays other known told =
      elim (place_cases other object) [
        | inl same ↦ absurd
            (let e : None ≡ Some known.content = sym
            (ap (λ p. (ground.objects p).content) same ∙ (was.content ∙ may.not_attached))
            ∙ told.content_is in cc e)
        | inr ne ↦ (
          ne,
          subst (λ (s : Standing). IsKnown s.chain s.content known)
              (sym (standing-other ground.objects object other standing ne)) told,
        )
      ]

  mine_held : AreHeld ground.objects (holdings_of before) → AreHeld objects (holdings_of after)
  mine_held e = record {
    read = λ other known is. let told = e.read other known is in let stays =
        known_stays other known told.0 in (stays.1, dirt_now other stays.0 ∙ told.1, told.2);
    marked = λ other d is. elim (place_cases other object) [
      | inl same ↦ subst (λ p. (hold_of before.locks p ≡ Some Marked) × (before.gate ≡ AsWriter))
          (sym same) (e.marked object dirt may.is)
      | inr ne ↦ e.marked other d (sym (dirt_now other ne) ∙ is)
    ];
  }

  mine_cells : AreCells (data_in words) (stash_of after)
  mine_cells b i word has e =
      h.cells id before there b i word (elim has [
        | inl own ↦ has_block b (omega (arith, conserved b))
        | inr of_dirt ↦ elim (place_cases of_dirt.0 object) [
          | inl same ↦
              let is : Some new_dirt ≡ Some of_dirt.1 = sym dirt_new
              ∙ (ap (dirt_of after.dirty) (sym same) ∙ of_dirt.2) in
              has_block b (omega
              (arith, conserved b, ap (λ o. times b (blocks_of o)) is, of_dirt.3))
          | inr ne ↦ inr (of_dirt.0, of_dirt.1, sym (dirt_now of_dirt.0 ne) ∙ of_dirt.2, of_dirt.3)
        ]
      ]) e

  asked_same : (place : Place)
      → asked_for shape place (dirt_of after.dirty place) ≡ asked_for shape place
      (dirt_of before.dirty place)
  asked_same place =
      elim (place_cases place object) [
        | inl same ↦
            subst (λ p. asked_for shape p (dirt_of after.dirty p) ≡ asked_for shape p
            (dirt_of before.dirty p)) (sym same)
            (ap (asked_for shape object) dirt_new ∙ sym (ap (asked_for shape object) may.is))
        | inr ne ↦ ap (asked_for shape place) (dirt_now place ne)
      ]

  stock_after : HasStock shape (stock_of after)
  stock_after rank =
      let enough = h.room id before there rank in
      let asked = sum_below-same shape.blocks (asked_at shape after.dirty rank)
      (asked_at shape before.dirty rank) (λ b below. asked_same (place_on rank b)) in
      let had = subst (λ l. AllByRecursion (λ (b : Place). b.rank ≡ object.rank) l) was.chain
      (h.lie object).one_rank in
      elim (cases_eq object.rank rank) [
        | inl same ↦
            let place : place_on rank object.block ≡ object = place_by_parts _ _ (sym same) refl in
            let f : kept_at before.dirty rank object.block ≡ length dirt.blocks = ap
            (λ p. kept_of (dirt_of before.dirty p)) place ∙ ap kept_of may.is in
            let g : kept_at after.dirty rank object.block ≡ length chain = ap
            (λ p. kept_of (dirt_of after.dirty p)) place ∙ ap kept_of dirt_new in
            let sums = sum_below-except shape.blocks (kept_at before.dirty rank)
            (kept_at after.dirty rank) object.block
            (λ k ne. ap kept_of
            (dirt_now (place_on rank k) (λ e. ne (ap (λ (p : Place). p.block) e)))) block.1 in
            let a : count_on rank chain ≡ length chain = ap (λ r. count_on r chain) (sym same)
            ∙ count_all object.rank chain may.built.lies.one_rank in
            let b : count_on rank dirt.blocks ≡ length dirt.blocks = ap
            (λ r. count_on r dirt.blocks) (sym same) ∙ count_all object.rank dirt.blocks had in
            omega (arith, as_many rank)
        | inr ne ↦
            let sums = sum_below-same shape.blocks (kept_at after.dirty rank)
            (kept_at before.dirty rank)
            (λ k below. ap kept_of
            (dirt_now (place_on rank k) (λ e. ne (sym (ap (λ (p : Place). p.rank) e))))) in
            omega (
              arith,
              as_many rank,
              none_on rank object.rank chain ne may.built.lies.one_rank,
              none_on rank object.rank dirt.blocks ne had,
            )
      ]

  opening_after : IsOpenState (open_state_of before) → IsOpenState (open_state_of after)
  opening_after e = record {
    marked = e.marked;
    dirty = λ other d is. elim (place_cases other object) [
      | inl same ↦ subst (λ p. opened_of before.stamps.opened p ≢ None) (sym same)
          (e.dirty object dirt may.is)
      | inr ne ↦ e.dirty other d (sym (dirt_now other ne) ∙ is)
    ];
  }

  attach_goes : Goes fits shape new_words views id before (AttachesAll shape object before len)
  attach_goes = record {
    after = after;
    lawful = record {
      ground = record ground { objects = objects; owner = _ };
      holds = record {
        rights = RightsHold-same shape views id before after there (words Commit) refl h.rights;
        spent = SpentHold-live views id after now.live h.spent;
        locks = subst (LocksHold shape (locks_in words))
            (sym (map-set_same locks_of views id before after there refl)) h.locks;
        gate = GateHolds-same shape views id before after there (words Gate) refl h.gate;
        history = HistoryHolds-same shape views id before after there fits
            (words Commit) ground.history refl refl h.history;
        objects = objects_stand;
        lie = chains_lie;
        free = h.free;
        blocks = blocks_exchanged shape views id before after there ground.free ground.objects
            ground.owner object standing h.blocks
            (λ b. omega (arith, conserved b, ap (times b) was.chain))
            (λ reserved. first_in object chain may.built.lies.begins
            (omega (arith, may.built.enough, reserved_has shape object content reserved)));
        contents = contents_agree;
        dirt = dirt_holds;
        holdings = EachView-set (holdings_of {N = N}) views id before after there
            (λ _. AreHeld ground.objects) (λ _. AreHeld objects)
            (mine_held (h.holdings id before there))
            (λ j view ne at e.
            record {
              read = λ other known is. let told = e.read other known is in
                  ((known_stays other known told.0).1, told.1, told.2);
              marked = e.marked;
            })
            h.holdings;
        own = EachView-set (λ (v : View N). v.private) views id before after there
            (λ _. AllByRecursion (IsOwnKnown (nexts_in words)))
            (λ _. AllByRecursion (IsOwnKnown (nexts_in words)))
            (without_all-keeps (IsOwnKnown (nexts_in words)) gathered chain
            (as_own-all (IsOwnKnown (nexts_in words)) before.private dirt.blocks
            (λ b n e. absurd (cc e)) (h.own id before there))) (λ j view ne at p. p) h.own;
        memory = MemoryHolds-same shape views id before after there refl h.memory;
        cells = EachView-set (stash_of {N = N}) views id before after there
            (λ _. AreCells (data_in words)) (λ _. AreCells (data_in words)) mine_cells
            (λ j view ne at p. p) h.cells;
        room = EachView-set (stock_of {N = N}) views id before after there (λ _. HasStock shape)
            (λ _. HasStock shape) stock_after (λ j view ne at p. p) h.room;
        notes = NotesHold-same shape views id before after there
            (heads_in words) ground.free refl h.notes;
        stamps = StampsHold-opened shape views id before after there (stamps_in words)
            (words Commit) ground.opener refl opening_after h.stamps;
      };
    };
    same_rights = refl;
    told = λ other_chain other_content size other.
        let same_size : length other_content ≡ length content = size ∙ sym any.2 in
        let blocks_are : dirt.blocks ≡ other.dirt.blocks = ap blocks_of (sym may.is ∙ other.is) in
        let same_blocks : length other_chain ≡ length chain = other.built.enough
        ∙ (chain_length-same shape object other_content content same_size
        ∙ sym may.built.enough) in
        let chains : other_chain ≡ chain = one_chain before.cells other_chain chain same_blocks
        (begin_alike object other_chain chain same_blocks other.built.lies.begins
        may.built.lies.begins)
        (λ b some_times. is_ours b (omega (arith, other.has b, ap (times b) blocks_are)))
        (λ b some_times. is_ours b (omega (arith, may.has b)))
        other.built.spelled.linked may.built.spelled.linked in
        let contents : other_content ≡ content =
        one_content shape before.cells chain other_content content same_size
        (subst (λ l. IsSpelled shape before.cells l other_content) chains other.built.spelled)
        may.built.spelled in
        let made : Attaches object chain content before after = record {
          view = refl;
          exchanged = λ d is b. omega
              (arith, conserved b, ap (λ o. times b (blocks_of o)) (sym may.is ∙ is));
          links = λ b n none is. without_all-links gathered chain b none
              ∙ link-left before.private (as_own dirt.blocks) b n is;
          as_many = λ d is rank. omega
              (arith, as_many rank, ap (λ o. count_on rank (blocks_of o)) (sym may.is ∙ is));
        } in
        subst (λ l. Attaches object l other_content before after) (sym chains)
        (subst (λ w. Attaches object chain w before after) (sym contents) made);
  }

pub attach_permitted : {N : Type 0} (fits : Shape → Entry N → Type 0) (shape : Shape)
    (object : Place) (len : ℕ) (before : View N) → IsBlock shape object
    → MayAttachSome shape object len before
    → Permits fits shape (Length object) (λ _. len) before
    (λ _. AttachesAll shape object before len)
attach_permitted fits shape object len before block any =
    record {
      goes = λ words views id now small.
          attach_goes fits shape object block len before any words views id now;
    }
