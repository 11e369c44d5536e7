-- Blocks taken out of a view's own, and the chain that known words spell.
use Rattle.std.proofs.Common.{◌≡◌, ◌≢◌, ℕ, ◌+◌, ◌^◌, ◌<◌, ◌≤◌, ◌==◌, cond, List, [], ◌∷◌, ◌++◌, map, length, get_or, refl, sym, ap, ◌∙◌, subst, inl, inr, arith, Some, None}
use Rattle.std.specs.List.{AllByRecursion}
use Rattle.std.proofs.lemmas.Bool.{cases_Bool}
use Rattle.std.proofs.lemmas.Grind.{same_number_lists}
use Rattle.std.proofs.lemmas.List.{map-append}
use Rattle.std.proofs.lemmas.List.Sums.{sum_by-cons, sum_by-append}
use Rattle.rma_layout.specs.Shape.{Shape}
use Rattle.rma_layout.specs.Placement.{Place, same_place}
use Rattle.object_words.specs.Blocks.{one_if}
use Rattle.object_words.specs.Chains.{place_of}
use Rattle.window_rule.specs.View.{Cell, OwnBlock}
use Rattle.window_rule.specs.Known.{cell_of}
use Rattle.window_rule.specs.Objects.{link_to}
use Rattle.window_rule.specs.Partition.{times, places_of}
use Rattle.window_rule.specs.RoomHolds.{count_on}
use Rattle.window_rule.specs.Pool.{without_own}
use Rattle.window_rule.specs.Attach.{AreLinksKnown, IsSpelled}
use Rattle.window_rule.proofs.LockLemmas.{same_place-refl}
use Rattle.window_rule.proofs.WordFunctions.{same_place-tells}
use Rattle.window_rule.specs.Spares.{own_next_of}
use Rattle.window_rule.proofs.SparesKept.{link-pushed}
use Rattle.window_rule.proofs.Walks.{place_of-raw_of}

-- a block of an object, as one of a view's own
abbrev pub as_own : List Place → List OwnBlock
as_own blocks = map
    (λ (b : Place). let own : OwnBlock = record { block = b; next = None } in own) blocks

pub places-as_own : (blocks : List Place) → places_of (as_own blocks) ≡ blocks
places-as_own [] = refl
places-as_own (b ∷ more) = λ k. b ∷ places-as_own more k

abbrev pub without_all : List OwnBlock → List Place → List OwnBlock
without_all own [] = own
without_all own (block ∷ more) = without_all (without_own own block) more

abbrev pub counts : ℕ → Place → ℕ
counts rank one = cond (one.rank == rank) 1 0

-- one block is taken out
record IsRemoved (own : List OwnBlock) (block : Place) (left : List OwnBlock) : Type 0 where
  times_are : (b : Place)
      → times b (places_of left) + one_if (same_place block b) ≡ times b (places_of own)
  ranks_are : (rank : ℕ)
      → count_on rank (places_of left) + counts rank block ≡ count_on rank (places_of own)

removed : (own : List OwnBlock) (block : Place) → 0 < times block (places_of own)
    → IsRemoved own block (without_own own block)
removed [] block some_time = absurd (omega arith)
removed (one ∷ more) block some_time =
    elim (cases_Bool (same_place one.block block)) [
      | inl same ↦
          let here : one.block ≡ block = same_place-tells one.block block same in
          subst (IsRemoved (one ∷ more) block)
          (sym (ap (λ t. cond t more (one ∷ without_own more block)) same))
          (let gone : IsRemoved (one ∷ more) block more = record {
            times_are = λ b. let c : one_if (same_place one.block b) ≡ one_if (same_place block b) =
                ap (λ p. one_if (same_place p b)) here in omega arith;
            ranks_are = λ rank. let c : counts rank one.block ≡ counts rank block = ap
                (counts rank) here in
                omega (arith, sum_by-cons (counts rank) one.block (places_of more));
          } in gone)
      | inr differ ↦
          let not_first : one_if (same_place one.block block) ≡ 0 = ap one_if differ in
          let rest = removed more block (omega arith) in
          subst (IsRemoved (one ∷ more) block)
          (sym (ap (λ t. cond t more (one ∷ without_own more block)) differ))
          (let gone : IsRemoved (one ∷ more) block (one ∷ without_own more block) = record {
            times_are = λ b. omega (arith, rest.times_are b);
            ranks_are = λ rank. omega (
              arith,
              rest.ranks_are rank,
              sum_by-cons (counts rank) one.block (places_of more),
              sum_by-cons (counts rank) one.block (places_of (without_own more block)),
            );
          } in gone)
    ]

-- all blocks of a chain are
pub record AreRemoved (own : List OwnBlock) (chain : List Place)
    (left : List OwnBlock) : Type 0 where
  pub times_are : (b : Place) → times b (places_of left) + times b chain ≡ times b (places_of own)
  pub ranks_are : (rank : ℕ)
      → count_on rank (places_of left) + count_on rank chain ≡ count_on rank (places_of own)

pub all_removed : (own : List OwnBlock) (chain : List Place)
    → ((b : Place) → times b chain ≤ times b (places_of own))
    → AreRemoved own chain (without_all own chain)
all_removed own [] enough = record { times_are = λ b. omega arith; ranks_are = λ rank. omega arith }
all_removed own (block ∷ more) enough =
    let here : one_if (same_place block block) ≡ 1 = ap one_if (same_place-refl block) in
    let one = removed own block (omega (arith, enough block)) in
    let rest = all_removed (without_own own block) more
    (λ b. omega (arith, enough b, one.times_are b)) in
    record {
      times_are = λ b. omega (arith, rest.times_are b, one.times_are b);
      ranks_are = λ rank. omega
          (arith, rest.ranks_are rank, one.ranks_are rank, sum_by-cons (counts rank) block more);
    }

without_one-keeps : (P : OwnBlock → Type 0) (own : List OwnBlock) (block : Place)
    → AllByRecursion P own → AllByRecursion P (without_own own block)
without_one-keeps P [] block h = tt
without_one-keeps P (one ∷ more) block h =
    elim (cases_Bool (same_place one.block block)) [
      | inl same ↦ subst (AllByRecursion P)
          (sym (ap (λ t. cond t more (one ∷ without_own more block)) same)) h.1
      | inr differ ↦ subst (AllByRecursion P)
          (sym (ap (λ t. cond t more (one ∷ without_own more block)) differ))
          (h.0, without_one-keeps P more block h.1)
    ]

pub without_all-keeps : (P : OwnBlock → Type 0) (own : List OwnBlock) (chain : List Place)
    → AllByRecursion P own → AllByRecursion P (without_all own chain)
without_all-keeps P own [] h = h
without_all-keeps P own (block ∷ more) h = without_all-keeps P (without_own own block) more
    (without_one-keeps P own block h)

-- what a view's own and an object have together
pub places-both : (own : List OwnBlock) (blocks : List Place)
    → places_of (own ++ as_own blocks) ≡ places_of own ++ blocks
places-both own blocks = map-append (λ (one : OwnBlock). one.block) own (as_own blocks)
    ∙ ap (λ l. places_of own ++ l) (places-as_own blocks)

pub times-both : (b : Place) (xs ys : List Place) → times b (xs ++ ys) ≡ times b xs + times b ys
times-both b [] ys = omega arith
times-both b (x ∷ xs) ys = omega (arith, times-both b xs ys)

pub on-both : (rank : ℕ) (xs ys : List Place)
    → count_on rank (xs ++ ys) ≡ count_on rank xs + count_on rank ys
on-both rank xs ys = sum_by-append (counts rank) xs ys

pub as_own-all : (P : OwnBlock → Type 0) (own : List OwnBlock) (blocks : List Place)
    → ((b : Place) → P (record { block = b; next = None })) → AllByRecursion P own
    → AllByRecursion P (own ++ as_own blocks)
as_own-all P [] [] fresh h = tt
as_own-all P [] (b ∷ more) fresh h = (fresh b, as_own-all P [] more fresh tt)
as_own-all P (one ∷ own) blocks fresh h = (h.0, as_own-all P own blocks fresh h.1)

-- the words fix the chain: two chains of one length that begin alike are one
pub one_chain : (cells : List Cell) (one other : List Place) → length one ≡ length other
    → link_to one ≡ link_to other
    → ((b : Place) → 0 < times b one → b.block < 2 ^ 48)
    → ((b : Place) → 0 < times b other → b.block < 2 ^ 48)
    → AreLinksKnown cells one → AreLinksKnown cells other → one ≡ other
one_chain cells [] [] same begin small low h l = refl
one_chain cells [] (b ∷ more) same begin small low h l = absurd (omega arith)
one_chain cells (a ∷ more) [] same begin small low h l = absurd (omega arith)
one_chain cells (a ∷ xs) (b ∷ ys) same begin small low h l =
    let a_here : one_if (same_place a a) ≡ 1 = ap one_if (same_place-refl a) in
    let b_here : one_if (same_place b b) ≡ 1 = ap one_if (same_place-refl b) in
    let heads : a ≡ b = sym (place_of-raw_of a (small a (omega arith)))
    ∙ (ap place_of begin ∙ place_of-raw_of b (low b (omega arith))) in
    let links : Some (link_to xs) ≡ Some (link_to ys) = sym h.0
    ∙ (ap (λ p. cell_of cells p 0) heads ∙ l.0) in
    let rest = one_chain cells xs ys (omega arith) (cc links)
    (λ p some_times. small p (omega arith)) (λ p some_times. low p (omega arith)) h.1 l.1 in
    λ k. heads k ∷ rest k

pub one_content : (shape : Shape) (cells : List Cell) (chain : List Place) (one other : List ℕ)
    → length one ≡ length other → IsSpelled shape cells chain one
    → IsSpelled shape cells chain other → one ≡ other
one_content shape cells chain one other same h l =
    same_number_lists one other same
    (λ k below. let e : Some (get_or one k 0) ≡ Some (get_or other k 0) = sym
    (h.payload k below) ∙ l.payload k (omega arith) in cc e)

pub without_all-links : (own : List OwnBlock) (chain : List Place) (block : Place)
    → times block chain ≡ 0 → own_next_of (without_all own chain) block ≡ own_next_of own block
without_all-links own [] block none = refl
without_all-links own (gone ∷ more) block none =
    let ne : block ≢ gone = λ e. absurd
    (let here : one_if (same_place gone block) ≡ 1 = ap (λ p. one_if (same_place gone p)) e
    ∙ ap one_if (same_place-refl gone) in omega arith) in
    without_all-links (without_own own gone) more block (omega arith)
    ∙ link-pushed gone own block ne
