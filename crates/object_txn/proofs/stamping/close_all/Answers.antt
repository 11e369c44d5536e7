use Rattle.std.proofs.Common.{◌≡◌, ◌+◌, ◌≤◌, List, [], ◌∷◌, drop, refl, ap, ◌∙◌, subst, arith}
use Rattle.std.specs.List.{AllByRecursion}
use Rattle.std.proofs.lemmas.List.{drop_all}
use Rattle.rma_layout.specs.Placement.{Place}
use Rattle.window_rule.specs.Partition.{times}
use Rattle.window_rule.specs.View.{View}
use Rattle.window_rule.proofs.Trails.{follows_trans}
use Rattle.object_txn.specs.declared.plan.Plan.{Plan}
use Rattle.object_txn.specs.Plans.{AreToClose, IsMarked, objects_in}
use Rattle.object_txn.proofs.PlanFacts.{plans_left}
use Rattle.object_txn.proofs.StampFacts.{may_close, none_open, only_opened, to_close-less}
use Rattle.object_txn.proofs.stamping.close_all.Goals as goal

pub stamp_up-requires-clause-object : goal.stamp_up-requires-clause-object
stamp_up-requires-clause-object g c =
    let left = plans_left c.args.plans.now c.loop-plan.plan-index c.plan-item.result c.loop-plan-test.true c.plan-item.is in
    (subst (AllByRecursion (IsMarked c.args.window.now.shape c.args.rank.now.view.locks)) left c.loop-plan.invariant.marked).0.0

pub stamp_up-requires-clause-may : goal.stamp_up-requires-clause-may
stamp_up-requires-clause-may g c =
    let plan = c.plan-item.result in
    let more = drop (c.loop-plan.plan-index + 1) c.args.plans.now in
    let left = plans_left c.args.plans.now c.loop-plan.plan-index plan c.loop-plan-test.true c.plan-item.is in
    let marked = (subst (AllByRecursion (IsMarked c.args.window.now.shape c.args.rank.now.view.locks)) left c.loop-plan.invariant.marked).0.1 in
    let opened = subst (λ (l : List Plan). AreToClose l c.loop-plan.rank.view.stamps.opened) left c.loop-plan.invariant.opened in
    may_close more plan c.loop-plan.rank.view.stamps.opened opened c.args.rank.now.view c.loop-plan.rank.view c.loop-plan.invariant.only refl marked c.requires.clean

pub loop-plan-preserved : goal.loop-plan-preserved
loop-plan-preserved g c =
    let plan = c.plan-item.result in
    let was = c.loop-plan.rank in
    let now = c.stamp_up.new.self in
    let old = c.loop-plan.invariant in
    let more = drop (c.loop-plan.plan-index + 1) c.args.plans.now in
    let left = plans_left c.args.plans.now c.loop-plan.plan-index plan c.loop-plan-test.true c.plan-item.is in
    let opened = subst (λ (l : List Plan). AreToClose l was.view.stamps.opened) left old.opened in
    let once : (object : Place) → times object (objects_in (plan ∷ more)) ≤ 1 = λ object. subst (λ (l : List Plan). times object (objects_in l) ≤ 1) left (old.once object) in
    record {
      window = c.stamp_up.ensures.window ∙ old.window;
      spares = c.stamp_up.ensures.spares ∙ old.spares;
      only = only_opened c.args.rank.now.view was.view now.view plan.at old.only c.stamp_up.ensures.view;
      marked = (subst (AllByRecursion (IsMarked c.args.window.now.shape c.args.rank.now.view.locks)) left old.marked).1;
      once = λ object. omega (arith, once object);
      opened = to_close-less more plan was.view.stamps.opened opened once now.view.stamps.opened
          (ap (λ (v : View g.row.L-Note.Denot). v.stamps.opened) c.stamp_up.ensures.view);
      follows = follows_trans c.args.rank.now.view was.view now.view old.follows c.stamp_up.ensures.follows;
    }

pub returns-clause-closed : goal.returns-clause-closed
returns-clause-closed g c =
    let old = c.loop-plan.invariant in
    let none : drop c.loop-plan.plan-index c.args.plans.now ≡ [] = drop_all c.loop-plan.plan-index c.args.plans.now (omega (arith, c.loop-plan-test.false, c.loop-plan.auto.plan-index-end)) in
    none_open c.loop-plan.rank.view.stamps.opened (subst (λ (l : List Plan). AreToClose l c.loop-plan.rank.view.stamps.opened) none old.opened)
