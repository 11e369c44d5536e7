-- The spares of a rank: what keeps them.
use Rattle.std.proofs.Common.{◌≡◌, ◌≢◌, ℕ, ◌<◌, ◌≤◌, cond, true, false, List, [], ◌∷◌, ◌++◌, refl, sym, ap, ◌∙◌, inl, inr, arith, Some}
use Rattle.std.proofs.lemmas.Bool.{cases_Bool}
use Rattle.rma_layout.specs.Shape.{Shape}
use Rattle.rma_layout.specs.Placement.{Place, same_place}
use Rattle.object_words.specs.Blocks.{one_if}
use Rattle.window_rule.specs.View.{OwnBlock}
use Rattle.window_rule.specs.Objects.{number_to}
use Rattle.window_rule.specs.Partition.{times, places_of}
use Rattle.window_rule.specs.Pool.{MayBeFree, own_of, without_own, with_link}
use Rattle.window_rule.specs.Spares.{AreChained, AreSpares, own_next_of, next_in, last_number}
use Rattle.window_rule.proofs.LockLemmas.{same_place-refl, same_place-false}
use Rattle.window_rule.proofs.WordFunctions.{same_place-tells}

-- what a spare leads to is known as before
pub chained_same : (own after : List OwnBlock) (list : List Place)
    → ((block : Place) → 0 < times block list → own_next_of after block ≡ own_next_of own block)
    → AreChained own list → AreChained after list
chained_same own after [] same h = tt
chained_same own after (block ∷ more) same h = (
  same block (let here : one_if (same_place block block) ≡ 1 = ap one_if (same_place-refl block) in
      omega arith) ∙ h.0,
  chained_same own after more (λ b there. same b (omega arith)) h.1,
)

pub AreSpares-same : (shape : Shape) (own after : List OwnBlock) (rank first last : ℕ)
    (list : List Place)
    → ((block : Place) → 0 < times block list → own_next_of after block ≡ own_next_of own block)
    → AreSpares shape own rank first last list → AreSpares shape after rank first last list
AreSpares-same shape own after rank first last list same h =
    record {
      chained = chained_same own after list same h.chained;
      first_is = h.first_is;
      last_is = h.last_is;
      places = h.places;
    }

-- a block that is popped, linked or pushed is no spare
pub link-popped : (one : OwnBlock) (own : List OwnBlock) (block : Place) → block ≢ one.block
    → own_next_of (one ∷ own) block ≡ own_next_of own block
link-popped one own block ne = ap (λ b. next_in (cond b (Some one) (own_of own block)))
    (same_place-false one.block block (λ e. ne (sym e)))

pub link-linked : (linked : Place) (next : ℕ) (own : List OwnBlock) (block : Place) → block ≢ linked
    → own_next_of (with_link linked next own) block ≡ own_next_of own block
link-linked linked next [] block ne = refl
link-linked linked next (one ∷ more) block ne =
    elim (cases_Bool (same_place one.block linked)) [
      | inl same ↦
          let is : one.block ≡ linked = same_place-tells one.block linked same in
          let other : same_place one.block block ≡ false = same_place-false one.block block
          (λ e. ne (sym e ∙ is)) in
          ap (λ b. own_next_of
          (cond b (record one { next = Some next }) one ∷ with_link linked next more)
          block) same
          ∙ (ap (λ b. next_in
          (cond b (Some (record one { next = Some next }))
          (own_of (with_link linked next more) block))) other
          ∙ (link-linked linked next more block ne
          ∙ sym (ap (λ b. next_in (cond b (Some one) (own_of more block))) other)))
      | inr differ ↦
          ap (λ b. own_next_of
          (cond b (record one { next = Some next }) one ∷ with_link linked next more)
          block) differ
          ∙ (elim (same_place one.block block) as
          (λ b. next_in (cond b (Some one) (own_of (with_link linked next more) block))
          ≡ next_in (cond b (Some one) (own_of more block))) [
            | true ↦ refl
            | false ↦ link-linked linked next more block ne
          ])
    ]

pub link-here : (block : Place) (next : ℕ) (own : List OwnBlock) → 0 < times block (places_of own)
    → own_next_of (with_link block next own) block ≡ Some next
link-here block next [] there = absurd (omega arith)
link-here block next (one ∷ more) there =
    elim (cases_Bool (same_place one.block block)) [
      | inl same ↦
          ap (λ b. own_next_of
          (cond b (record one { next = Some next }) one ∷ with_link block next more) block) same
          ∙ ap (λ b. next_in
          (cond b (Some (record one { next = Some next }))
          (own_of (with_link block next more) block))) same
      | inr differ ↦
          let none : one_if (same_place one.block block) ≡ 0 = ap one_if differ in
          ap (λ b. own_next_of
          (cond b (record one { next = Some next }) one ∷ with_link block next more)
          block) differ
          ∙ (ap (λ b. next_in (cond b (Some one) (own_of (with_link block next more) block))) differ
          ∙ link-here block next more (omega arith))
    ]

pub link-pushed : (gone : Place) (own : List OwnBlock) (block : Place) → block ≢ gone
    → own_next_of (without_own own gone) block ≡ own_next_of own block
link-pushed gone [] block ne = refl
link-pushed gone (one ∷ more) block ne =
    elim (cases_Bool (same_place one.block gone)) [
      | inl same ↦
          let is : one.block ≡ gone = same_place-tells one.block gone same in
          ap (λ b. own_next_of (cond b more (one ∷ without_own more gone)) block) same
          ∙ sym (ap (λ b. next_in (cond b (Some one) (own_of more block)))
          (same_place-false one.block block (λ e. ne (sym e ∙ is))))
      | inr differ ↦
          ap (λ b. own_next_of (cond b more (one ∷ without_own more gone)) block) differ
          ∙ (elim (same_place one.block block) as
          (λ b. next_in (cond b (Some one) (own_of (without_own more gone) block)) ≡ next_in
          (cond b (Some one) (own_of more block))) [
            | true ↦ refl
            | false ↦ link-pushed gone more block ne
          ])
    ]

-- a block that leads to the first becomes the first
pub spare_kept : (shape : Shape) (own : List OwnBlock) (rank first last : ℕ) (list : List Place)
    (block : Place) → MayBeFree shape rank block → own_next_of own block ≡ Some first → AreSpares shape own rank first last list
    → AreSpares shape own rank block.block (last_number (block ∷ list)) (block ∷ list)
spare_kept shape own rank first last list block may link h = record {
  chained = (link ∙ ap Some h.first_is, h.chained);
  first_is = refl;
  last_is = refl;
  places = (may, h.places);
}

-- and the first is no spare any more
pub spare_used : (shape : Shape) (own : List OwnBlock) (rank first last next : ℕ) (block : Place)
    (more : List Place) → own_next_of own block ≡ Some next
    → AreSpares shape own rank first last (block ∷ more)
    → AreSpares shape own rank next (last_number more) more
spare_used shape own rank first last next block more link h = record {
  chained = h.chained.1;
  first_is = (let both : Some next ≡ Some (number_to more) = sym link ∙ h.chained.0 in cc both);
  last_is = refl;
  places = h.places.1;
}

pub link-left : (mine theirs : List OwnBlock) (block : Place) (n : ℕ)
    → own_next_of mine block ≡ Some n → own_next_of (mine ++ theirs) block ≡ Some n
link-left [] theirs block n e = absurd (cc e)
link-left (one ∷ more) theirs block n e =
    elim (cases_Bool (same_place one.block block)) [
      | inl same ↦ ap (λ b. next_in (cond b (Some one) (own_of (more ++ theirs) block))) same
          ∙ (sym (ap (λ b. next_in (cond b (Some one) (own_of more block))) same) ∙ e)
      | inr differ ↦
          ap (λ b. next_in (cond b (Some one) (own_of (more ++ theirs) block))) differ
          ∙ link-left more theirs block n
          (sym (ap (λ b. next_in (cond b (Some one) (own_of more block))) differ) ∙ e)
    ]

pub link-right : (mine theirs : List OwnBlock) (block : Place) → times block (places_of mine) ≡ 0
    → own_next_of (mine ++ theirs) block ≡ own_next_of theirs block
link-right [] theirs block none = refl
link-right (one ∷ more) theirs block none =
    elim (cases_Bool (same_place one.block block)) [
      | inl same ↦ let here : one_if (same_place one.block block) ≡ 1 = ap one_if same in absurd
          (omega arith)
      | inr differ ↦ ap (λ b. next_in (cond b (Some one) (own_of (more ++ theirs) block))) differ
          ∙ link-right more theirs block (omega arith)
    ]

-- all but the last of a chain is as it was, and the last leads to the other chain
abbrev pub AreChainedTo : List OwnBlock → ℕ → List Place → Type 0
AreChainedTo own to [] = Unit {0}
AreChainedTo own to (block ∷ []) = own_next_of own block ≡ Some to
AreChainedTo own to (block ∷ (next ∷ more)) = (own_next_of own block ≡ Some next.block)
    × AreChainedTo own to (next ∷ more)

-- the last block of a chain
abbrev pub last_of : Place → List Place → Place
last_of block [] = block
last_of block (next ∷ more) = last_of next more

pub last_in : (block : Place) (xs : List Place) → 0 < times (last_of block xs) (block ∷ xs)
last_in block [] = let here : one_if (same_place block block) ≡ 1 = ap one_if
    (same_place-refl block) in omega arith
last_in block (next ∷ more) = omega (arith, last_in next more)

-- the step that links it makes such a chain of it, if no block stands twice
pub last_linked : (own : List OwnBlock) (to : ℕ) (block : Place) (xs : List Place)
    → 0 < times (last_of block xs) (places_of own) → ((b : Place) → times b (block ∷ xs) ≤ 1)
    → AreChained own (block ∷ xs)
    → AreChainedTo (with_link (last_of block xs) to own) to (block ∷ xs)
last_linked own to block [] there once h = link-here block to own there
last_linked own to block (next ∷ more) there once h = (
  link-linked (last_of next more) to own block (λ same.
      let here : one_if (same_place block (last_of next more)) ≡ 1 = ap
      (λ p. one_if (same_place p (last_of next more))) same
      ∙ ap one_if (same_place-refl (last_of next more)) in
      omega (arith, once (last_of next more), last_in next more)) ∙ h.0,
  last_linked own to next more there (λ b. omega (arith, once b)) h.1,
)
