use Rattle.std.proofs.Common.{◌≡◌, length, Some}
use Rattle.rma_layout.specs.Placement.{Place, IsBlock}
use Rattle.window_rule.specs.View.{Hold}
use Rattle.window_rule.specs.Locks.{hold_of}
use Rattle.window_rule.specs.Trails.{Follows}
use Rattle.object_moves.specs.Leaves.{OnlyLocks}
use Rattle.object_moves.proofs.leaving.leave_all.Given as goal

abbrev pub invariant-loop-at : goal.invariant-loop-at
invariant-loop-at g l = record {
  window : l.rank.window ≡ l.initial.rank.window;
  spares : l.rank.spares ≡ l.initial.rank.spares;
  locks : (object : Place) → hold_of l.rank.view.locks object ≡ hold_of l.held object;
  blocks : (object : Place) (hold : Hold) → hold_of l.held object ≡ Some hold → IsBlock l.window.shape object;
  only : OnlyLocks l.initial.rank.view l.rank.view;
  follows : Follows l.initial.rank.view l.rank.view;
}

abbrev pub decreases-loop-at : goal.decreases-loop-at
decreases-loop-at g l = length l.held
