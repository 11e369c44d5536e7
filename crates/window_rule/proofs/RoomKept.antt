-- What an entry needs is there: the blocks of a rank are counted over its objects and over all
-- views.
use Rattle.std.proofs.Common.{◌≡◌, ◌≢◌, ℕ, zero, suc, ◌+◌, ◌<◌, ◌≤◌, ◌==◌, cond, List, [], ◌∷◌, length, get_or, refl, sym, ap, ◌∙◌, subst, arith, Option, Some, None}
use Rattle.std.specs.List.{AllByRecursion}
use Rattle.std.proofs.lemmas.List.Sums.{sum_by-cons}
use Rattle.std.proofs.lemmas.Bool.Decides.{nat_tests}
use Rattle.rma_layout.specs.Shape.{Shape}
use Rattle.rma_layout.specs.Placement.{Place, IsBlock}
use Rattle.object_words.specs.Blocks.{on_rank as place_on}
use Rattle.object_words.specs.Contents.{Contents, content_of}
use Rattle.window_rule.specs.View.{Dirt, OwnBlock}
use Rattle.window_rule.specs.Dirty.{dirt_of}
use Rattle.window_rule.specs.Objects.{Objects, IsKept, IsKeptIn, ObjectsStand, ChainsLie, chain_length}
use Rattle.window_rule.specs.ContentsHold.{ContentsAgree, DirtHolds, IsDirtOrNone}
use Rattle.window_rule.specs.RoomHolds.{sum_below, count_on, asked_for, kept_of, asked_at, kept_at}
use Rattle.window_rule.specs.Partition.{IsPartition, Holder, Within, part_of, places_of}
use Rattle.window_rule.proofs.Sums.{sum_below-zero, sum_below-add, sum_below-except}
use Rattle.window_rule.proofs.Counting.{sum_below-same, sum_below-swap, blocks_suffice, part_on}

-- a sum with one term only
pub sum_below-only : (n : ℕ) (f : ℕ → ℕ) (i : ℕ) → i < n → ((k : ℕ) → k ≢ i → f k ≡ 0)
    → sum_below n f ≡ f i
sum_below-only n f i below none = omega
    (arith, sum_below-except n (λ _. 0) f i none below, sum_below-zero n)

pub sum_below-none : (n : ℕ) (f : ℕ → ℕ) → ((k : ℕ) → k < n → f k ≡ 0) → sum_below n f ≡ 0
sum_below-none n f none = sum_below-same n f (λ _. 0) none ∙ sum_below-zero n

-- whose dirt an object has is in range
in_range : (all : List (List Dirt)) (j : ℕ) (object : Place)
    → dirt_of (get_or all j []) object ≢ None → j < length all
in_range [] j object found = absurd (found refl)
in_range (one ∷ more) zero object found = omega arith
in_range (one ∷ more) (suc j) object found = omega (arith, in_range more j object found)

abbrev counts : ℕ → Place → ℕ
counts rank one = cond (one.rank == rank) 1 0

pub count_all : (rank : ℕ) (chain : List Place)
    → AllByRecursion (λ (b : Place). b.rank ≡ rank) chain → count_on rank chain ≡ length chain
count_all rank [] h = refl
count_all rank (b ∷ more) h =
    let cons = sum_by-cons (counts rank) b more in
    let here : counts rank b ≡ 1 = let e = h.0 in grind (arith, nat_tests) in
    let rest = count_all rank more h.1 in
    omega arith

module _ (shape : Shape) (sizes : Place → ℕ) (cells : Place → ℕ → ℕ) (store : Contents)
    (objects : Objects) (dirts : List (List Dirt)) (stand : ObjectsStand shape sizes cells objects)
    (agree : ContentsAgree shape store objects) (dirt : DirtHolds store objects dirts)
    (lie : ChainsLie objects) where
  abbrev dirt_at : ℕ → Place → Option Dirt
  dirt_at id object = dirt_of (get_or dirts id []) object

  no_dirt : (object : Place) (id : ℕ) (found : Option Dirt) → (objects object).writer ≢ Some id
      → IsDirtOrNone (content_of store object) (objects object) id found → found ≡ None
  no_dirt object id None ne h = refl
  no_dirt object id (Some one) ne h = absurd (ne h.writer)

  some_dirt : (object : Place) (id : ℕ) (found : Option Dirt) → (objects object).writer ≡ Some id
      → IsDirtOrNone (content_of store object) (objects object) id found
      → (asked_for shape object found ≡ chain_length shape object (content_of store object))
      × (kept_of found ≡ length (objects object).chain)
  some_dirt object id None e h = absurd (h e)
  some_dirt object id (Some one) e h =
      (ap (chain_length shape object) h.kept, sym (ap length h.chain))

  chain_on : (rank b : ℕ) → IsBlock shape (place_on rank b)
      → count_on rank (objects (place_on rank b)).chain ≡ length (objects (place_on rank b)).chain
  chain_on rank b block = count_all rank (objects (place_on rank b)).chain
      (lie (place_on rank b)).one_rank

  -- what an object uses by the history, and what it has: of a dirty one the difference is with its
  -- view
  balanced : (object : Place) → IsBlock shape object → (writer : Option ℕ)
      → (objects object).writer ≡ writer
      → chain_length shape object (content_of store object) + sum_below (length dirts)
      (λ id. kept_of (dirt_at id object))
      ≡ length (objects object).chain + sum_below (length dirts)
      (λ id. asked_for shape object (dirt_at id object))
  balanced object block None e =
      let clean : (id : ℕ)
      → dirt_at id object ≡ None = λ id. no_dirt object id (dirt_at id object)
      (λ same. absurd (let none : None ≡ Some id = sym e ∙ same in cc none)) (dirt id object) in
      let stood : IsKeptIn shape sizes cells object (objects object).chain
      (content_of store object) = subst (IsKept shape sizes cells object (objects object).chain)
      (agree object block e) (stand object block) in
      omega (
        arith,
        stood.blocks,
        sum_below-none (length dirts) (λ id. kept_of (dirt_at id object))
            (λ id below. ap kept_of (clean id)),
        sum_below-none (length dirts) (λ id. asked_for shape object (dirt_at id object))
            (λ id below. ap (asked_for shape object) (clean id)),
      )
  balanced object block (Some writer) e =
      let others : (id : ℕ) → id ≢ writer
      → dirt_at id object ≡ None = λ id ne. no_dirt object id (dirt_at id object)
      (λ same. ne (let ids : Some writer ≡ Some id = sym e ∙ same in cc ids))
      (dirt id object) in
      let mine = some_dirt object writer (dirt_at writer object) e (dirt writer object) in
      let there = dirt writer object in
      let found : dirt_at writer object ≢ None = λ none. subst
      (IsDirtOrNone (content_of store object) (objects object) writer) none there e in
      let below = in_range dirts writer object found in
      omega (
        arith,
        mine.0,
        mine.1,
        sum_below-only (length dirts) (λ id. kept_of (dirt_at id object)) writer below
            (λ id ne. ap kept_of (others id ne)),
        sum_below-only (length dirts)
            (λ id. asked_for shape object (dirt_at id object)) writer below
            (λ id ne. ap (asked_for shape object) (others id ne)),
      )

  -- what the blocks of a rank are used for by the history, with what its writers have besides
  pub used_by_history : (rank views : ℕ) (owns : List (List OwnBlock)) (free : ℕ → List Place)
      (owner : Place → Holder) (need : ℕ) → rank < shape.ranks
      → IsPartition shape (part_of free owns objects) owner
      → sum_below (length dirts)
      (λ id. sum_below shape.blocks (asked_at shape (get_or dirts id []) rank)) + need
      ≤ sum_below (length dirts) (λ id. count_on rank (places_of (get_or owns id []))) + sum_below
      (length dirts) (λ id. sum_below shape.blocks (kept_at (get_or dirts id []) rank))
      → sum_below shape.blocks
      (λ b. chain_length shape (place_on rank b) (content_of store (place_on rank b))) + need
      ≤ shape.blocks
  used_by_history rank views owns free owner need on part room =
      let n = shape.blocks in
      let used = λ (b : ℕ). chain_length shape (place_on rank b)
      (content_of store (place_on rank b)) in
      let has = λ (b : ℕ). length (objects (place_on rank b)).chain in
      let kept = λ (b id : ℕ). kept_of (dirt_at id (place_on rank b)) in
      let asked = λ (b id : ℕ). asked_for shape (place_on rank b) (dirt_at id (place_on rank b)) in
      let each : (b : ℕ) → b < n
      → used b + sum_below (length dirts) (kept b) ≡ has b + sum_below (length dirts)
      (asked b) = λ b below. balanced (place_on rank b) (on, below)
      (objects (place_on rank b)).writer refl in
      omega (
        arith,
        sum_below-same n (λ b. used b + sum_below (length dirts) (kept b))
            (λ b. has b + sum_below (length dirts) (asked b)) each,
        sum_below-add n used (λ b. sum_below (length dirts) (kept b))
            (λ b. used b + sum_below (length dirts) (kept b)) (λ b. refl),
        sum_below-add n has (λ b. sum_below (length dirts) (asked b))
            (λ b. has b + sum_below (length dirts) (asked b)) (λ b. refl),
        sum_below-swap n (length dirts) kept,
        sum_below-swap n (length dirts) asked,
        blocks_suffice shape (part_of free owns objects) owner part rank (length dirts),
        sum_below-same n (λ o. part_on shape (part_of free owns objects) owner part rank
            (Within (place_on rank o))) has (λ b below. chain_on rank b (on, below)),
      )
