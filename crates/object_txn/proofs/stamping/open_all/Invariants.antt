use Rattle.std.proofs.Common.{◌≡◌, drop}
use Rattle.std.specs.List.{AllByRecursion}
use Rattle.window_rule.specs.Trails.{Follows}
use Rattle.object_txn.specs.Plans.{AreOpened, IsMarked, OnlyOpened}
use Rattle.object_txn.proofs.stamping.open_all.Given as goal

abbrev pub invariant-loop-plan : goal.invariant-loop-plan
invariant-loop-plan g l = record {
  window : l.rank.window ≡ l.initial.rank.window;
  spares : l.rank.spares ≡ l.initial.rank.spares;
  only : OnlyOpened l.initial.rank.view l.rank.view;
  marked : AllByRecursion (IsMarked l.window.shape l.initial.rank.view.locks) (drop l.plan-index l.plans);
  opened : AreOpened l.plans (drop l.plan-index l.plans) l.rank.view.stamps.opened;
  follows : Follows l.initial.rank.view l.rank.view;
}
