-- What is left where a transaction ends.
use Rattle.std.proofs.Common.{◌≡◌, ◌≢◌, ◌+◌, ◌<◌, ◌≤◌, List, [], ◌∷◌, ◌++◌, length, ◌⊎◌, inl, inr, refl, sym, ap, ◌∙◌, subst, arith, length-append, None}
use Rattle.rma_layout.specs.Shape.{Shape}
use Rattle.rma_layout.specs.Placement.{Place, same_place}
use Rattle.object_words.specs.Blocks.{one_if}
use Rattle.window_rule.specs.View.{View, Locks}
use Rattle.window_rule.specs.Locks.{hold_of}
use Rattle.window_rule.specs.Partition.{times}
use Rattle.window_rule.proofs.JoinSteps.{times-append}
use Rattle.window_rule.proofs.LockLemmas.{same_place-refl}
use Rattle.fabric.specs.Window.{RankModel, WindowModel}
use Rattle.block_pool.specs.Gives.{Frees, IsForUse, Keeps, MayGive, OnlyBlocks}
use Rattle.object_txn.specs.declared.txn.Txn.{Txn}
use Rattle.object_store.specs.declared.phase.Phase.TheVariants.{Idle}
use Rattle.object_txn.specs.Endings.{GivesBack, GivesEach}
use Rattle.object_txn.specs.Tied.{HasTaken, IsClosed, IsFree, IsNone, IsTied}

-- the last of some blocks, and the others
module _ (items more : List Place) (block : Place) (is : items ≡ more ++ block ∷ []) where
  counted : (b : Place) → times b items ≡ times b more + (one_if (same_place block b) + 0)
  counted b = ap (times b) is ∙ times-append b more (block ∷ [])

  pub last_there : 0 < times block items
  last_there = let here : one_if (same_place block block) ≡ 1 = ap one_if (same_place-refl block) in omega (arith, counted block, here)

  pub rest_there : (b : Place) → 0 < times b more → 0 < times b items
  rest_there b h = omega (arith, counted b, h)

  -- the last isn't among the others
  pub rest_differs : (b : Place) → times b items ≤ 1 → 0 < times b more → b ≢ block
  rest_differs b once h same =
      let here : one_if (same_place block b) ≡ 1 = ap (λ p. one_if (same_place block p)) same ∙ ap one_if (same_place-refl block) in
      omega (arith, counted b, here, once, h)

  pub rest_once : (b : Place) → times b items ≤ 1 → times b more ≤ 1
  rest_once b once = omega (arith, counted b, once)

  pub fewer : length more + 1 ≡ length items
  fewer = sym (ap length is ∙ length-append more (block ∷ []))

module _ {N : Type 0} where
  pub given_view : (block : Place) (before after : RankModel N) → Frees block before after ⊎ Keeps block before after
      → OnlyBlocks before.view after.view
  given_view block before after (inl frees) = frees.view
  given_view block before after (inr keeps) = keeps.view

  pub blocks-then : (first before after : View N) → OnlyBlocks first before → OnlyBlocks before after → OnlyBlocks first after
  blocks-then first before after one two = two ∙ ap (λ (v : View N). record v {
    private = after.private;
    notes = after.notes;
    bounds = after.bounds;
    misses = after.misses;
    looks = after.looks;
  }) one

  -- the blocks that are left to give are for use still
  pub taken_less : (shape : Shape) (before after : RankModel N) (items more : List Place) (block : Place) → items ≡ more ++ block ∷ []
      → ((other : Place) → other ≢ block → IsForUse shape before other → IsForUse shape after other)
      → HasTaken shape before.view.private before.spares items → HasTaken shape after.view.private after.spares more
  taken_less shape before after items more block is stay taken = record {
    own = λ b h. (still b h).own;
    no_spare = λ b h. (still b h).no_spare;
    blocks = λ b h. taken.blocks b (rest_there items more block is b h);
    once = λ b. rest_once items more block is b (taken.once b);
  }
    where
      still : (b : Place) → 0 < times b more → IsForUse shape after b
      still b h =
          let there = rest_there items more block is b h in
          stay b (rest_differs items more block is b (taken.once b) h) (record { own = taken.own b there; no_spare = taken.no_spare b there })

  pub may_give : (shape : Shape) (rank : RankModel N) (items more : List Place) (block : Place) → items ≡ more ++ block ∷ []
      → HasTaken shape rank.view.private rank.spares items → hold_of rank.view.locks block ≡ None → rank.view.dirty ≡ [] → MayGive shape rank block
  may_give shape rank items more block is taken left clean =
      let there = last_there items more block is in
      record { own = taken.own block there; no_spare = taken.no_spare block there; left = left; clean = clean }

pub rank_by_parts : {N : Type 0} (one other : RankModel N) → one.window ≡ other.window → one.view ≡ other.view → one.spares ≡ other.spares → one ≡ other
rank_by_parts one other w v s i = record { window = w i; view = v i; spares = s i }

-- a rank that is tied to no transaction is free
pub free_by : {N : Type 0} (window : WindowModel) (rank : RankModel N) (txn : Txn) → IsTied window rank txn → IsNone txn → IsFree rank.view
free_by window rank txn tied none = record {
  locks = λ object. tied.locks.same object ∙ ap (λ (h : Locks). hold_of h object) none.held;
  closed = subst (IsClosed rank.view) none.phase tied.closed;
}

-- so is a rank whose transaction is idle
pub free_while_idle : {N : Type 0} (window : WindowModel) (rank : RankModel N) (txn : Txn) → IsTied window rank txn → txn.phase ≡ Idle → IsFree rank.view
free_while_idle window rank txn tied idle = record {
  locks = λ object. tied.locks.same object ∙ ap (λ (h : Locks). hold_of h object) (tied.phase.held idle);
  closed = subst (IsClosed rank.view) idle tied.closed;
}

-- a transaction that isn't writing took no block
pub gives_none : {N : Type 0} (rank : RankModel N) (items : List Place) → items ≡ [] → GivesBack items rank rank
gives_none {N} rank items none = record {
  left = rank;
  private = refl;
  spares = refl;
  given = subst (λ (l : List Place). GivesEach l rank rank) (sym none) refl;
}

-- some are given back, and then others
pub gives_then : {N : Type 0} (some more : List Place) (first mid last : RankModel N) → GivesEach some first mid → GivesEach more mid last
    → GivesEach (more ++ some) first last
gives_then {N} some [] first mid last one two = subst (GivesEach some first) (sym two) one
gives_then {N} some (block ∷ more) first mid last one two = (two.0, gives_then some more first mid two.0 one two.1, two.2)
