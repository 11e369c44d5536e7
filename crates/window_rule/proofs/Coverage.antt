-- Every block of a rank is counted: with its free list, with an object of the rank or with a view.
use Rattle.std.proofs.Common.{◌≡◌, ◌≢◌, ℕ, zero, suc, ◌+◌, ◌<◌, List, [], ◌∷◌, length, get_or, refl, sym, ap, ◌∙◌, subst, inl, inr, arith}
use Rattle.std.specs.List.{AllByRecursion}
use Rattle.std.proofs.lemmas.Bool.{cases_Bool}
use Rattle.object_words.specs.Blocks.{one_if, on_rank as place_on}
use Rattle.rma_layout.specs.Shape.{Shape}
use Rattle.rma_layout.specs.Placement.{Place, same_place}
use Rattle.window_rule.specs.View.{OwnBlock}
use Rattle.window_rule.specs.Words.{is_block}
use Rattle.window_rule.specs.Objects.{Objects, FreeListsStand, ChainsLie, BeginsAt}
use Rattle.window_rule.specs.RoomHolds.{sum_below, count_on}
use Rattle.window_rule.specs.Partition.{Holder, FreeOf, OwnOf, Within, IsPartition, part_of, places_of, times}
use Rattle.window_rule.proofs.Sums.{sum_below-add, sum_below-ones}
use Rattle.window_rule.proofs.Counting.{sum_below-same, sum_below-swap, on_rank_by_places, each_is_block}
use Rattle.window_rule.proofs.RoomKept.{sum_below-only, sum_below-none}
use Rattle.window_rule.proofs.LockLemmas.{same_place-refl}
use Rattle.window_rule.proofs.WordFunctions.{is_block-true, is_block-tells, same_place-tells}
use Rattle.window_rule.proofs.PartitionKept.{share, share-here, share-none, share-tells}

-- a fact of each block of a list, of one that stands in it
pub of_one : (P : Place → Type 0) (list : List Place) (block : Place) → AllByRecursion P list
    → 0 < times block list → P block
of_one P [] block h there = absurd (omega arith)
of_one P (one ∷ more) block h there =
    elim (cases_Bool (same_place one block)) [
      | inl same ↦ subst P (same_place-tells one block same) h.0
      | inr differ ↦ let none : one_if (same_place one block) ≡ 0 = ap one_if differ in
          of_one P more block h.1 (omega arith)
    ]

-- where the block of a rank with this number is
pub data Whereabouts (rank n views : ℕ) (owner : Holder) : Type 0 where
  free_here : owner ≡ FreeOf rank → Whereabouts rank n views owner
  in_object : (o : ℕ) → o < n → owner ≡ Within (place_on rank o) → Whereabouts rank n views owner
  in_view : (id : ℕ) → id < views → owner ≡ OwnOf id → Whereabouts rank n views owner

module _ (shape : Shape) (part : Holder → List Place) (owner : Place → Holder)
    (h : IsPartition shape part owner) (rank views : ℕ) (on : rank < shape.ranks)
    (where_is : (k : ℕ) → k < shape.blocks
    → Whereabouts rank shape.blocks views (owner (place_on rank k))) where
  counted_at : (k : ℕ) → k < shape.blocks
      → Whereabouts rank shape.blocks views (owner (place_on rank k))
      → times (place_on rank k) (part (FreeOf rank)) +
      (sum_below shape.blocks
      (λ o. times (place_on rank k) (part (Within (place_on rank o)))) + sum_below views
      (λ id. times (place_on rank k) (part (OwnOf id)))) ≡ 1
  counted_at k below (free_here e) =
      let b = place_on rank k in
      let here : (holder : Holder) → owner b ≡ holder
      → times b (part holder) ≡ 1 = λ holder is. h.each holder b
      ∙ (ap (λ w. share (is_block shape b) w holder) is
      ∙ share-here (is_block shape b) holder (is_block-true shape b (on, below))) in
      let none : (holder : Holder) → owner b ≢ holder
      → times b (part holder) ≡ 0 = λ holder ne. h.each holder b
      ∙ share-none (is_block shape b) (owner b) holder ne in
      omega (
        arith,
        here (FreeOf rank) e,
        sum_below-none shape.blocks (λ o. times b (part (Within (place_on rank o))))
            (λ o less. none (Within (place_on rank o)) (λ is. cc (sym e ∙ is))),
        sum_below-none views (λ id. times b (part (OwnOf id)))
            (λ id less. none (OwnOf id) (λ is. cc (sym e ∙ is))),
      )
  counted_at k below (in_object o less e) =
      let b = place_on rank k in
      let here : (holder : Holder) → owner b ≡ holder
      → times b (part holder) ≡ 1 = λ holder is. h.each holder b
      ∙ (ap (λ w. share (is_block shape b) w holder) is
      ∙ share-here (is_block shape b) holder (is_block-true shape b (on, below))) in
      let none : (holder : Holder) → owner b ≢ holder
      → times b (part holder) ≡ 0 = λ holder ne. h.each holder b
      ∙ share-none (is_block shape b) (owner b) holder ne in
      omega (
        arith,
        none (FreeOf rank) (λ is. cc (sym e ∙ is)),
        sum_below-only shape.blocks (λ i. times b (part (Within (place_on rank i)))) o less
            (λ i ne. none (Within (place_on rank i))
            (λ is. ne (let p : place_on rank o ≡ place_on rank i = cc (sym e ∙ is) in sym
            (ap (λ (q : Place). q.block) p)))),
        here (Within (place_on rank o)) e,
        sum_below-none views (λ id. times b (part (OwnOf id)))
            (λ id l. none (OwnOf id) (λ is. cc (sym e ∙ is))),
      )
  counted_at k below (in_view id less e) =
      let b = place_on rank k in
      let here : (holder : Holder) → owner b ≡ holder
      → times b (part holder) ≡ 1 = λ holder is. h.each holder b
      ∙ (ap (λ w. share (is_block shape b) w holder) is
      ∙ share-here (is_block shape b) holder (is_block-true shape b (on, below))) in
      let none : (holder : Holder) → owner b ≢ holder
      → times b (part holder) ≡ 0 = λ holder ne. h.each holder b
      ∙ share-none (is_block shape b) (owner b) holder ne in
      omega (
        arith,
        none (FreeOf rank) (λ is. cc (sym e ∙ is)),
        sum_below-none shape.blocks (λ o. times b (part (Within (place_on rank o))))
            (λ o l. none (Within (place_on rank o)) (λ is. cc (sym e ∙ is))),
        sum_below-only views (λ i. times b (part (OwnOf i))) id less
            (λ i ne. none (OwnOf i) (λ is. ne (let p : id ≡ i = cc (sym e ∙ is) in sym p))),
        here (OwnOf id) e,
      )

  -- so the blocks of a rank are all there
  pub blocks_are_counted : count_on rank (part (FreeOf rank)) +
      (sum_below shape.blocks
      (λ o. count_on rank (part (Within (place_on rank o)))) + sum_below views
      (λ id. count_on rank (part (OwnOf id)))) ≡ shape.blocks
  blocks_are_counted =
      let n = shape.blocks in
      let in_free = λ (k : ℕ). times (place_on rank k) (part (FreeOf rank)) in
      let in_objects = λ (o k : ℕ). times (place_on rank k) (part (Within (place_on rank o))) in
      let in_views = λ (id k : ℕ). times (place_on rank k) (part (OwnOf id)) in
      let by_places = λ (holder : Holder). on_rank_by_places n rank (part holder)
      (each_is_block shape part owner h holder) in
      omega (
        arith,
        by_places (FreeOf rank),
        sum_below-same n (λ o. count_on rank (part (Within (place_on rank o))))
            (λ o. sum_below n (in_objects o)) (λ o below. by_places (Within (place_on rank o))),
        sum_below-same views (λ id. count_on rank (part (OwnOf id)))
            (λ id. sum_below n (in_views id)) (λ id below. by_places (OwnOf id)),
        sum_below-swap n n in_objects,
        sum_below-swap views n in_views,
        sum_below-add n (λ k. sum_below n (λ o. in_objects o k))
            (λ k. sum_below views (λ id. in_views id k))
            (λ k. sum_below n (λ o. in_objects o k) + sum_below views (λ id. in_views id k))
            (λ k. refl),
        sum_below-add n in_free
            (λ k. sum_below n (λ o. in_objects o k) + sum_below views (λ id. in_views id k))
            (λ k. in_free k +
            (sum_below n (λ o. in_objects o k) + sum_below views (λ id. in_views id k)))
            (λ k. refl),
        sum_below-ones n (λ k. in_free k +
            (sum_below n (λ o. in_objects o k) + sum_below views (λ id. in_views id k)))
            (λ k below. counted_at k below (where_is k below)),
      )

own_in_range : (owns : List (List OwnBlock)) (id : ℕ) (block : Place)
    → 0 < times block (places_of (get_or owns id [])) → id < length owns
own_in_range [] id block h = absurd (omega arith)
own_in_range (one ∷ more) zero block h = omega arith
own_in_range (one ∷ more) (suc id) block h = omega (arith, own_in_range more id block h)

first_there : (object : Place) (chain : List Place) (block : Place) → BeginsAt object chain
    → 0 < times block chain → 0 < times object chain
first_there object [] block h there = absurd (omega arith)
first_there object (one ∷ more) block h there = let here : one_if (same_place one object) ≡ 1 = ap
    (λ p. one_if (same_place p object)) h ∙ ap one_if (same_place-refl object) in omega arith

module _ (shape : Shape) (heads : ℕ → ℕ) (nexts : Place → ℕ) (free : ℕ → List Place)
    (owns : List (List OwnBlock)) (objects : Objects) (owner : Place → Holder)
    (h : IsPartition shape (part_of free owns objects) owner)
    (lists : FreeListsStand heads nexts free) (lie : ChainsLie objects) (rank : ℕ)
    (on : rank < shape.ranks) where
  whereabouts : (k : ℕ) → k < shape.blocks → (holder : Holder) → owner (place_on rank k) ≡ holder
      → 0 < times (place_on rank k) (part_of free owns objects holder)
      → Whereabouts rank shape.blocks (length owns) (owner (place_on rank k))
  whereabouts k below (FreeOf r) e there = free_here
      (e ∙ ap FreeOf (sym
      (of_one (λ (b : Place). b.rank ≡ r) (free r) (place_on rank k)
      (lists.lists r).one_rank there)))
  whereabouts k below (OwnOf id) e there = in_view id
      (own_in_range owns id (place_on rank k) there) e
  whereabouts k below (Within object) e there =
      let rank_is : rank ≡ object.rank = of_one (λ (b : Place). b.rank ≡ object.rank)
      (objects object).chain (place_on rank k) (lie object).one_rank there in
      let inside = is_block-tells shape object
      (share-tells (is_block shape object) (owner object) (Within object)
      (omega (
        arith,
        h.each (Within object) object,
        first_there object (objects object).chain (place_on rank k)
            (lie object).begins there,
      ))).0 in
      in_object object.block inside.1
      (e ∙ ap Within (λ i. record { rank = sym rank_is i; block = object.block }))

  pub free_blocks_are_counted : count_on rank (free rank) +
      (sum_below shape.blocks (λ o. count_on rank (objects (place_on rank o)).chain) + sum_below
      (length owns) (λ id. count_on rank (places_of (get_or owns id [])))) ≡ shape.blocks
  free_blocks_are_counted =
      blocks_are_counted shape (part_of free owns objects) owner h rank (length owns) on (λ k below.
      whereabouts k below (owner (place_on rank k)) refl
      (omega (
        arith,
        h.each (owner (place_on rank k)) (place_on rank k),
        share-here (is_block shape (place_on rank k)) (owner (place_on rank k))
            (is_block-true shape (place_on rank k) (on, below)),
      )))
