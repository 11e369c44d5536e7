use Rattle.std.proofs.Common.{◌≡◌}
use Rattle.window_rule.specs.Trails.{Follows}
use Rattle.object_moves.specs.Stores.{AreFilled, OnlyCells}
use Rattle.object_moves.proofs.storing.put_payload.Given as goal

abbrev pub invariant-loop-k : goal.invariant-loop-k
invariant-loop-k g l = record {
  window : l.rank.window ≡ l.initial.rank.window;
  spares : l.rank.spares ≡ l.initial.rank.spares;
  only : OnlyCells l.initial.rank.view l.rank.view;
  filled : AreFilled l.window.shape l.blocks l.words l.k l.initial.rank.view.cells l.rank.view.cells;
  follows : Follows l.initial.rank.view l.rank.view;
}
