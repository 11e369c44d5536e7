-- Blocks that are left over are given back one after the other.
use Rattle.std.proofs.Common.{◌≡◌, ◌≢◌, ℕ, suc, ◌+◌, ◌<◌, List, [], ◌∷◌, ◌++◌, drop, ap, ◌∙◌, arith, Some}
use Rattle.std.specs.List.{slice_get}
use Rattle.std.proofs.Math.Seq.{drop-cons}
use Rattle.std.proofs.lemmas.Option.{get_or_from_slice_get, slice_get_within}
use Rattle.rma_layout.specs.Shape.{Shape}
use Rattle.rma_layout.specs.Placement.{Place, same_place}
use Rattle.object_words.specs.Blocks.{one_if}
use Rattle.window_rule.specs.Partition.{times}
use Rattle.window_rule.proofs.JoinSteps.{times-append}
use Rattle.window_rule.proofs.LockLemmas.{same_place-refl}
use Rattle.fabric.specs.Window.{RankModel}
use Rattle.block_pool.specs.Gives.{IsForUse}
use Rattle.object_txn.specs.Tied.{HasTaken}

module _ {N : Type 0} (shape : Shape) (xs ys : List Place) where
  pub first_taken : (rank : RankModel N) → HasTaken shape rank.view.private rank.spares (xs ++ ys) → HasTaken shape rank.view.private rank.spares xs
  first_taken rank all = record {
    own = λ block there. all.own block (omega (arith, there, times-append block xs ys));
    no_spare = λ block there. all.no_spare block (omega (arith, there, times-append block xs ys));
    blocks = λ block there. all.blocks block (omega (arith, there, times-append block xs ys));
    once = λ block. omega (arith, all.once block, times-append block xs ys);
  }

  -- the others are for use still
  pub rest_taken : (before after : RankModel N) → ((other : Place) → times other xs ≡ 0 → IsForUse shape before other → IsForUse shape after other)
      → HasTaken shape before.view.private before.spares (xs ++ ys) → HasTaken shape after.view.private after.spares ys
  rest_taken before after stay all = record {
    own = λ block there. (still block there).own;
    no_spare = λ block there. (still block there).no_spare;
    blocks = λ block there. all.blocks block (omega (arith, there, times-append block xs ys));
    once = λ block. omega (arith, all.once block, times-append block xs ys);
  }
    where
      still : (block : Place) → 0 < times block ys → IsForUse shape after block
      still block there =
          let among : 0 < times block (xs ++ ys) = omega (arith, there, times-append block xs ys) in
          stay block (omega (arith, there, times-append block xs ys, all.once block)) (record { own = all.own block among; no_spare = all.no_spare block among })

-- the block at a place, and those behind it
pub behind_at : (blocks : List Place) (j : ℕ) (block : Place) → slice_get blocks j ≡ Some block → drop j blocks ≡ block ∷ drop (j + 1) blocks
behind_at blocks j block at =
    let next : suc j ≡ j + 1 = omega arith in
    drop-cons blocks j block (slice_get_within blocks j block at)
    ∙ (ap (λ b. b ∷ drop (suc j) blocks) (get_or_from_slice_get blocks j block block at) ∙ ap (λ n. block ∷ drop n blocks) next)

pub one_stays : (block other : Place) → times other (block ∷ []) ≡ 0 → other ≢ block
one_stays block other none same =
    let here : one_if (same_place block other) ≡ 1 = ap (λ p. one_if (same_place block p)) same ∙ ap one_if (same_place-refl block) in
    omega (arith, none, here)

pub at_there : (blocks : List Place) (j : ℕ) (block : Place) → drop j blocks ≡ block ∷ drop (j + 1) blocks → 0 < times block (drop j blocks)
at_there blocks j block left =
    let here : one_if (same_place block block) ≡ 1 = ap one_if (same_place-refl block) in
    omega (arith, ap (times block) left, here)
