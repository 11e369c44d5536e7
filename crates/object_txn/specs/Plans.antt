-- What becomes of the objects that a transaction has written.
use Rattle.std.specs.Prelude.{◌≡◌, ◌≢◌, ℕ, ◌+◌, ◌<◌, ◌≤◌, List, [], ◌∷◌, ◌++◌, drop, length, Bool, true, false, Some, None, ◌⊎◌}
use Rattle.std.specs.List.{AllByRecursion}
use Rattle.rma_layout.specs.Shape.{Shape}
use Rattle.rma_layout.specs.Placement.{Place, IsBlock}
use Rattle.object_words.specs.Blocks.{on_rank as place_on}
use Rattle.object_words.specs.Contents.{Contents, content_of, words_at}
use Rattle.window_rule.specs.View.{View, Dirt, Locks, Marked}
use Rattle.window_rule.specs.Commit.{WasRead, attached_of, need_of}
use Rattle.window_rule.specs.Dirty.{dirt_of}
use Rattle.window_rule.specs.Locks.{hold_of}
use Rattle.window_rule.specs.Objects.{chain_length}
use Rattle.window_rule.specs.Partition.{places_of, times}
use Rattle.window_rule.specs.RoomHolds.{asked_at, count_on, kept_at, sum_below}
use Rattle.window_rule.specs.StampsHold.{opened_of}
use Rattle.fabric.specs.Window.{RankModel}
use Rattle.object_moves.specs.Rewrites.{MayRewrite}
use Rattle.object_txn.specs.declared.plan.Plan.{Plan}

abbrev pub objects_in : List Plan → List Place
objects_in [] = []
objects_in (plan ∷ more) = plan.at ∷ objects_in more

-- the blocks that their objects no longer need
abbrev pub surplus_in : List Plan → List Place
surplus_in [] = []
surplus_in (plan ∷ more) = drop plan.used plan.blocks ++ surplus_in more

-- how often a block was taken for these
abbrev pub taken_for : Place → List Plan → ℕ
taken_for block [] = 0
taken_for block (plan ∷ more) = times block (drop plan.kept plan.blocks) + taken_for block more

-- how many blocks of a rank were taken for these
abbrev pub taken_on : ℕ → List Plan → ℕ
taken_on rank [] = 0
taken_on rank (plan ∷ more) = count_on rank (drop plan.kept plan.blocks) + taken_on rank more

-- the object may be rewritten with what is written to it. It has a block, also one that stays empty
pub record IsReady {N : Type 0} (shape : Shape) (reads writes : Contents) (rank : RankModel N)
    (plan : Plan) : Type 0 where
  pub may : MayRewrite shape plan.at plan.blocks plan.kept (content_of reads plan.at)
      (content_of writes plan.at) rank
  pub used_is : plan.used ≡ chain_length shape plan.at (content_of writes plan.at)
  pub some_block : 0 < length plan.blocks
  pub written : words_at writes plan.at ≢ None
  pub object : IsBlock shape plan.at

-- each of these objects may be rewritten, and none is there twice. No block was taken for two
pub record ArePlanned {N : Type 0} (shape : Shape) (reads writes : Contents) (rank : RankModel N)
    (plans : List Plan) : Type 0 where
  pub ready : AllByRecursion (IsReady shape reads writes rank) plans
  pub once : (object : Place) → times object (objects_in plans) ≤ 1
  pub taken : (block : Place) → taken_for block plans ≤ times block (places_of rank.view.private)

-- what was read stands as an entry says it, and so does what was written, but of the objects that are left
pub record AreWritten {N : Type 0} (reads writes : Contents) (left : List Plan)
    (view : View N) : Type 0 where
  pub as_read : (object : Place) (words : List ℕ) → words_at reads object ≡ Some words
      → WasRead view object words
  pub as_written : (object : Place) → times object (objects_in left) ≡ 0
      → words_at writes object ≡ attached_of (dirt_of view.dirty object)
  pub attached : (object : Place) (dirt : Dirt) → dirt_of view.dirty object ≡ Some dirt
      → dirt.attached ≢ None

-- there are blocks on each rank for what is detached and what is attached, beside those that were taken
-- for the objects that are left
abbrev pub HasRoom : {N : Type 0} → Shape → List Plan → View N → Type 0
HasRoom shape left view = (rank : ℕ) → rank < shape.ranks
    → sum_below shape.blocks (asked_at shape view.dirty rank) + sum_below shape.blocks
    (λ b. need_of shape (place_on rank b) (dirt_of view.dirty (place_on rank b)))
    + taken_on rank left ≤ count_on rank (places_of view.private) + sum_below shape.blocks
    (kept_at view.dirty rank)

-- nothing has changed but what is detached, what is known, and the blocks of the view's own
abbrev pub OnlyStored : {N : Type 0} → View N → View N → Type 0
OnlyStored before after = after ≡ record before {
  dirty = after.dirty;
  known = after.known;
  cells = after.cells;
  private = after.private;
}

-- the object is a block of the window, and marked
abbrev pub IsMarked : Shape → Locks → Plan → Type 0
IsMarked shape locks plan = IsBlock shape plan.at × (hold_of locks plan.at ≡ Some Marked)

-- nothing has changed but which objects are open
abbrev pub OnlyOpened : {N : Type 0} → View N → View N → Type 0
OnlyOpened before after = after ≡ record before {
  stamps = record before.stamps { opened = after.stamps.opened };
}

-- of all these objects those that aren't left are open, with nothing of them committed, and no other is
pub record AreOpened (all left : List Plan) (opened : List (Place × Bool)) : Type 0 where
  pub some : (object : Place) → times object (objects_in left) ≤ times object (objects_in all)
  pub done : (object : Place) → 0 < times object (objects_in all)
      → times object (objects_in left) ≡ 0 → opened_of opened object ≡ Some false
  pub others : (object : Place)
      → (times object (objects_in all) ≡ 0) ⊎ (0 < times object (objects_in left))
      → opened_of opened object ≡ None

-- the objects that are left are open, with a write of them committed, and no other is
pub record AreToClose (left : List Plan) (opened : List (Place × Bool)) : Type 0 where
  pub left_open : (object : Place) → 0 < times object (objects_in left)
      → opened_of opened object ≡ Some true
  pub others : (object : Place) → times object (objects_in left) ≡ 0
      → opened_of opened object ≡ None
