use Rattle.std.proofs.Common.{◌≡◌}
use Rattle.window_rule.specs.Trails.{Follows}
use Rattle.object_moves.specs.Stores.{AreLinkedTo, OnlyCells}
use Rattle.object_moves.proofs.storing.put_links.Given as goal

abbrev pub invariant-loop-j : goal.invariant-loop-j
invariant-loop-j g l = record {
  window : l.rank.window ≡ l.initial.rank.window;
  spares : l.rank.spares ≡ l.initial.rank.spares;
  only : OnlyCells l.initial.rank.view l.rank.view;
  linked : AreLinkedTo l.blocks l.used l.j l.initial.rank.view.cells l.rank.view.cells;
  follows : Follows l.initial.rank.view l.rank.view;
}
