-- The blocks of a rank, counted by who has them.
use Rattle.std.proofs.Common.{◌≡◌, ◌≢◌, ℕ, zero, suc, ◌+◌, ◌<◌, ◌≤◌, ◌==◌, cond, List, [], ◌∷◌, refl, sym, ap, ◌∙◌, inl, inr, arith}
use Rattle.std.specs.List.{count_by}
use Rattle.std.proofs.lemmas.List.Sums.{sum_by-cons}
use Rattle.std.proofs.lemmas.Bool.{cases_eq}
use Rattle.std.proofs.lemmas.Bool.Decides.{nat_tests}
use Rattle.rma_layout.specs.Shape.{Shape}
use Rattle.rma_layout.specs.Placement.{Place, same_place}
use Rattle.object_words.specs.Blocks.{one_if, on_rank}
use Rattle.window_rule.specs.Words.{is_block}
use Rattle.window_rule.specs.Partition.{Holder, OwnOf, Within, times, IsPartition}
use Rattle.window_rule.specs.RoomHolds.{sum_below}
use Rattle.window_rule.proofs.Sums.{sum_below-zero, sum_below-ones, sum_below-add}
use Rattle.window_rule.proofs.PartitionKept.{share-tells, share-le}

pub sum_below-mono : (n : ℕ) (f g : ℕ → ℕ) → ((k : ℕ) → k < n → f k ≤ g k)
    → sum_below n f ≤ sum_below n g
sum_below-mono zero f g h = omega arith
sum_below-mono (suc n) f g h = omega
    (arith, sum_below-mono n f g (λ k below. h k (omega arith)), h n (omega arith))

pub sum_below-same : (n : ℕ) (f g : ℕ → ℕ) → ((k : ℕ) → k < n → f k ≡ g k)
    → sum_below n f ≡ sum_below n g
sum_below-same zero f g h = refl
sum_below-same (suc n) f g h = omega
    (arith, sum_below-same n f g (λ k below. h k (omega arith)), h n (omega arith))

-- the order of two sums
pub sum_below-swap : (n m : ℕ) (f : ℕ → ℕ → ℕ)
    → sum_below n (λ i. sum_below m (f i)) ≡ sum_below m (λ k. sum_below n (λ i. f i k))
sum_below-swap zero m f = sym (sum_below-zero m)
sum_below-swap (suc n) m f =
    omega (
      arith,
      sum_below-swap n m f,
      sum_below-add m (λ k. sum_below n (λ i. f i k)) (f n)
          (λ k. sum_below n (λ i. f i k) + f n k) (λ k. refl),
    )

-- where the sum is more than 0, so is one of its terms
pub sum_below-some : (n : ℕ) (f : ℕ → ℕ) → 0 < sum_below n f → (i : ℕ) × (i < n) × (0 < f i)
sum_below-some zero f h = absurd (omega arith)
sum_below-some (suc n) f h =
    elim (cases_eq (f n) 0) [
      | inl none ↦ let found = sum_below-some n f (omega arith) in
          (found.0, omega (arith, found.1), found.2)
      | inr some ↦ (n, omega arith, omega arith)
    ]

-- one term at most is not 0, and it is 1
pub sum_below-one : (n : ℕ) (f : ℕ → ℕ) → ((i : ℕ) → f i ≤ 1)
    → ((i j : ℕ) → 0 < f i → 0 < f j → i ≡ j) → sum_below n f ≤ 1
sum_below-one zero f small same = omega arith
sum_below-one (suc n) f small same =
    elim (cases_eq (f n) 0) [
      | inl none ↦ omega (arith, sum_below-one n f small same)
      | inr some ↦ elim (cases_eq (sum_below n f) 0) [
        | inl rest ↦ omega (arith, small n)
        | inr more ↦
            let found = sum_below-some n f (omega arith) in
            absurd (omega (arith, found.1, same found.0 n found.2 (omega arith)))
      ]
    ]

-- a fact of each block of a list, block by block
abbrev pub Each : (Place → Type 0) → List Place → Type 0
Each P [] = Unit {0}
Each P (one ∷ more) = P one × Each P more

-- what holds of each block that stands in a list
pub Each-from_times : (P : Place → Type 0) (blocks : List Place)
    → ((block : Place) → 0 < times block blocks → P block) → Each P blocks
Each-from_times P [] h = tt
Each-from_times P (one ∷ more) h = (
  h one (let here : one_if (same_place one one) ≡ 1 = grind (arith, nat_tests) in omega arith),
  Each-from_times P more (λ block there. h block (omega arith)),
)

-- one block is counted at one place of its rank
abbrev at_place : ℕ → Place → ℕ → ℕ
at_place rank one k = one_if (same_place one (on_rank rank k))

none_past : (n rank : ℕ) (one : Place) → n ≤ one.block → sum_below n (at_place rank one) ≡ 0
none_past zero rank one h = refl
none_past (suc n) rank one h =
    let here : at_place rank one n ≡ 0 = grind (arith, nat_tests) in
    omega (arith, none_past n rank one (omega arith))

none_elsewhere : (n rank : ℕ) (one : Place) → one.rank ≢ rank → sum_below n (at_place rank one) ≡ 0
none_elsewhere zero rank one h = refl
none_elsewhere (suc n) rank one h =
    let here : at_place rank one n ≡ 0 = grind (arith, nat_tests) in
    omega (arith, none_elsewhere n rank one h)

one_here : (n rank : ℕ) (one : Place) → one.rank ≡ rank → one.block < n
    → sum_below n (at_place rank one) ≡ 1
one_here zero rank one on below = absurd (omega arith)
one_here (suc n) rank one on below =
    elim (cases_eq one.block n) [
      | inl e ↦
          let here : at_place rank one n ≡ 1 = grind (arith, nat_tests) in
          omega (arith, none_past n rank one (omega arith))
      | inr ne ↦
          let here : at_place rank one n ≡ 0 = grind (arith, nat_tests) in
          omega (arith, one_here n rank one on (omega arith))
    ]

abbrev counts : ℕ → Place → ℕ
counts rank one = cond (one.rank == rank) 1 0

-- the blocks of a list that are on a rank, counted place by place
pub on_rank_by_places : (n rank : ℕ) (blocks : List Place)
    → Each (λ (block : Place). block.block < n) blocks
    → count_by (λ (block : Place). block.rank == rank) blocks ≡ sum_below n
    (λ k. times (on_rank rank k) blocks)
on_rank_by_places n rank [] h = sym (sum_below-zero n)
on_rank_by_places n rank (one ∷ more) h =
    let split = sum_below-add n (at_place rank one) (λ k. times (on_rank rank k) more)
    (λ k. times (on_rank rank k) (one ∷ more)) (λ k. refl) in
    let rest = on_rank_by_places n rank more h.1 in
    let cons = sum_by-cons (counts rank) one more in
    elim (cases_eq one.rank rank) [
      | inl e ↦
          let here : counts rank one ≡ 1 = grind (arith, nat_tests) in
          omega (arith, one_here n rank one e h.0)
      | inr ne ↦
          let here : counts rank one ≡ 0 = grind (arith, nat_tests) in
          omega (arith, none_elsewhere n rank one ne)
    ]

within_same : (rank i j : ℕ) → Within (on_rank rank i) ≡ Within (on_rank rank j) → i ≡ j
within_same rank i j e = let places : on_rank rank i ≡ on_rank rank j = cc in ap
    (λ (p : Place). p.block) places

module _ (shape : Shape) (part : Holder → List Place) (owner : Place → Holder)
    (h : IsPartition shape part owner) where
  pub each_is_block : (holder : Holder)
      → Each (λ (block : Place). block.block < shape.blocks) (part holder)
  each_is_block holder = Each-from_times (λ (block : Place). block.block < shape.blocks)
      (part holder) (λ block there.
      let inside = (share-tells (is_block shape block) (owner block) holder
      (omega (arith, h.each holder block))).0 in
      grind (arith, nat_tests))

  abbrev pub part_on : ℕ → Holder → ℕ
  part_on rank holder = count_by (λ (block : Place). block.rank == rank) (part holder)

  -- a block of a rank is counted once among objects and views
  once : (rank objects views k : ℕ)
      → sum_below objects
      (λ o. times (on_rank rank k) (part (Within (on_rank rank o)))) + sum_below views
      (λ id. times (on_rank rank k) (part (OwnOf id))) ≤ 1
  once rank objects views k =
      let b = on_rank rank k in
      let in_object = λ (o : ℕ). times b (part (Within (on_rank rank o))) in
      let in_view = λ (id : ℕ). times b (part (OwnOf id)) in
      let owned : (holder : Holder) → 0 < times b (part holder)
      → owner b ≡ holder = λ holder there.
      (share-tells (is_block shape b) (owner b) holder (omega (arith, h.each holder b))).1 in
      let small : (holder : Holder)
      → times b (part holder) ≤ 1 = λ holder. omega
      (arith, h.each holder b, share-le (is_block shape b) (owner b) holder) in
      let few_objects = sum_below-one objects in_object (λ o. small (Within (on_rank rank o)))
      (λ i j here there. within_same rank i j
      (sym (owned (Within (on_rank rank i)) here) ∙ owned (Within (on_rank rank j)) there)) in
      let few_views = sum_below-one views in_view (λ id. small (OwnOf id))
      (λ i j here there. cc (owned (OwnOf i) here, owned (OwnOf j) there)) in
      elim (cases_eq (sum_below objects in_object) 0) [
        | inl none ↦ omega arith
        | inr some ↦ elim (cases_eq (sum_below views in_view) 0) [
          | inl none ↦ omega arith
          | inr more ↦
              let o = sum_below-some objects in_object (omega arith) in
              let v = sum_below-some views in_view (omega arith) in
              absurd (cc (owned (Within (on_rank rank o.0)) o.2, owned (OwnOf v.0) v.2))
        ]
      ]

  -- the blocks of a rank that are with its objects and with views are no more than there are
  pub blocks_suffice : (rank views : ℕ)
      → sum_below shape.blocks (λ o. part_on rank (Within (on_rank rank o))) + sum_below views
      (λ id. part_on rank (OwnOf id)) ≤ shape.blocks
  blocks_suffice rank views =
      let n = shape.blocks in
      let in_object = λ (o k : ℕ). times (on_rank rank k) (part (Within (on_rank rank o))) in
      let in_view = λ (id k : ℕ). times (on_rank rank k) (part (OwnOf id)) in
      omega (
        arith,
        sum_below-same n (λ o. part_on rank (Within (on_rank rank o)))
            (λ o. sum_below n (in_object o))
            (λ o below. on_rank_by_places n rank (part (Within (on_rank rank o)))
            (each_is_block (Within (on_rank rank o)))),
        sum_below-same views (λ id. part_on rank (OwnOf id)) (λ id. sum_below n (in_view id))
            (λ id below. on_rank_by_places n rank (part (OwnOf id)) (each_is_block (OwnOf id))),
        sum_below-swap n n in_object,
        sum_below-swap views n in_view,
        sum_below-add n (λ k. sum_below n (λ o. in_object o k))
            (λ k. sum_below views (λ id. in_view id k))
            (λ k. sum_below n (λ o. in_object o k) + sum_below views (λ id. in_view id k))
            (λ k. refl),
        sum_below-mono n (λ k. sum_below n (λ o. in_object o k) + sum_below views
            (λ id. in_view id k)) (λ k. 1) (λ k below. once rank n views k),
        sum_below-ones n (λ k. 1) (λ k below. refl),
      )
