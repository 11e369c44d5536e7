use Rattle.std.proofs.Common.{◌≡◌, ◌≤◌, drop}
use Rattle.std.specs.List.{AllByRecursion}
use Rattle.rma_layout.specs.Placement.{Place}
use Rattle.window_rule.specs.Partition.{times}
use Rattle.window_rule.specs.Trails.{Follows}
use Rattle.object_txn.specs.Plans.{AreToClose, IsMarked, OnlyOpened, objects_in}
use Rattle.object_txn.proofs.stamping.close_all.Given as goal

abbrev pub invariant-loop-plan : goal.invariant-loop-plan
invariant-loop-plan g l = record {
  window : l.rank.window ≡ l.initial.rank.window;
  spares : l.rank.spares ≡ l.initial.rank.spares;
  only : OnlyOpened l.initial.rank.view l.rank.view;
  marked : AllByRecursion (IsMarked l.window.shape l.initial.rank.view.locks) (drop l.plan-index l.plans);
  once : (object : Place) → times object (objects_in (drop l.plan-index l.plans)) ≤ 1;
  opened : AreToClose (drop l.plan-index l.plans) l.rank.view.stamps.opened;
  follows : Follows l.initial.rank.view l.rank.view;
}
