use Rattle.std.proofs.Common.{◌≡◌, ◌+◌, ◌≤◌, drop}
use Rattle.rma_layout.specs.Placement.{Place}
use Rattle.window_rule.specs.Partition.{places_of, times}
use Rattle.window_rule.specs.Spares.{IsNoSpare}
use Rattle.window_rule.specs.Trails.{Follows}
use Rattle.object_txn.specs.Plans.{ArePlanned, AreWritten, HasRoom, OnlyStored, surplus_in, taken_for}
use Rattle.object_txn.proofs.storing.rewrite_all.Given as goal

abbrev pub invariant-loop-plan : goal.invariant-loop-plan
invariant-loop-plan g l = record {
  window : l.rank.window ≡ l.initial.rank.window;
  spares : l.rank.spares ≡ l.initial.rank.spares;
  only : OnlyStored l.initial.rank.view l.rank.view;
  planned : ArePlanned l.window.shape l.reads l.writes l.rank (drop l.plan-index l.plans);
  written : AreWritten l.reads l.writes (drop l.plan-index l.plans) l.rank.view;
  room : HasRoom l.window.shape (drop l.plan-index l.plans) l.rank.view;
  surplus : (block : Place) → times block (surplus_in l.plans) + taken_for block (drop l.plan-index l.plans)
      ≤ times block (places_of l.rank.view.private) + times block (surplus_in (drop l.plan-index l.plans));
  exchanged : (block : Place) → times block (places_of l.rank.view.private) + taken_for block l.plans + times block (surplus_in (drop l.plan-index l.plans))
      ≡ times block (places_of l.initial.rank.view.private) + times block (surplus_in l.plans) + taken_for block (drop l.plan-index l.plans);
  no_spare : (block : Place) → IsNoSpare l.window.shape l.initial.rank.view.private l.initial.rank.spares block
      → IsNoSpare l.window.shape l.rank.view.private l.rank.spares block;
  follows : Follows l.initial.rank.view l.rank.view;
}
