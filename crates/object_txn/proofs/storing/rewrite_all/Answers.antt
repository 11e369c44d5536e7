use Rattle.std.proofs.Common.{[], ap, arith, ◌≡◌, ◌+◌, ◌≤◌, List, ℕ, ◌∷◌, drop, refl, sym, ◌∙◌, subst}
use Rattle.std.proofs.lemmas.List.{drop_all}
use Rattle.object_words.specs.Contents.{content_of}
use Rattle.window_rule.specs.Partition.{places_of, times}
use Rattle.window_rule.proofs.Trails.{follows_trans}
use Rattle.object_moves.specs.Rewrites.{MayRewrite, Rewrites, chain_of_first}
use Rattle.object_txn.specs.declared.plan.Plan.{Plan}
use Rattle.object_txn.specs.Plans.{ArePlanned, AreWritten, HasRoom, surplus_in, taken_for}
use Rattle.object_txn.proofs.PlanFacts.{exchanged_less, only_stored, planned_less, plans_left, stands_there, surplus_less, written_more}
use Rattle.object_txn.proofs.RoomFacts.{room_less}
use Rattle.object_txn.proofs.storing.rewrite_all.Goals as goal

pub rewrite-requires-clause-object : goal.rewrite-requires-clause-object
rewrite-requires-clause-object g c =
    let left = plans_left c.args.plans.now c.loop-plan.plan-index c.plan-item.result c.loop-plan-test.true c.plan-item.is in
    let planned = subst (ArePlanned c.args.window.now.shape c.args.reads.now c.args.writes.now c.loop-plan.rank) left c.loop-plan.invariant.planned in
    planned.ready.0.object

pub rewrite-requires-clause-may : goal.rewrite-requires-clause-may
rewrite-requires-clause-may g c =
    let plan = c.plan-item.result in
    let shape = c.args.window.now.shape in
    let left = plans_left c.args.plans.now c.loop-plan.plan-index plan c.loop-plan-test.true c.plan-item.is in
    let planned = subst (ArePlanned shape c.args.reads.now c.args.writes.now c.loop-plan.rank) left c.loop-plan.invariant.planned in
    subst (λ (old : List ℕ). MayRewrite shape plan.at plan.blocks plan.kept old c.words_or-words.result.now c.loop-plan.rank) (sym c.words_or-old.ensures)
    (subst (λ (words : List ℕ). MayRewrite shape plan.at plan.blocks plan.kept (content_of c.args.reads.now plan.at) words c.loop-plan.rank) (sym c.words_or-words.ensures)
    planned.ready.0.may)

pub loop-plan-preserved : goal.loop-plan-preserved
loop-plan-preserved g c =
    let plan = c.plan-item.result in
    let shape = c.args.window.now.shape in
    let reads = c.args.reads.now in
    let writes = c.args.writes.now in
    let was = c.loop-plan.rank in
    let now = c.rewrite.new.rank in
    let words = content_of writes plan.at in
    let chain = chain_of_first shape plan.at plan.blocks words in
    let more = drop (c.loop-plan.plan-index + 1) c.args.plans.now in
    let old = c.loop-plan.invariant in
    let left = plans_left c.args.plans.now c.loop-plan.plan-index plan c.loop-plan-test.true c.plan-item.is in
    let planned : ArePlanned shape reads writes was (plan ∷ more) = subst (ArePlanned shape reads writes was) left old.planned in
    let written : AreWritten reads writes (plan ∷ more) was.view = subst (λ (l : List Plan). AreWritten reads writes l was.view) left old.written in
    let ready = planned.ready.0 in
    let told : Rewrites shape plan.at chain words was.view now.view =
    subst (λ (w : List ℕ). Rewrites shape plan.at (chain_of_first shape plan.at plan.blocks w) w was.view now.view) c.words_or-words.ensures c.rewrite.ensures.rewrites in
    record {
      window = c.rewrite.ensures.window ∙ old.window;
      spares = c.rewrite.ensures.spares ∙ old.spares;
      only = only_stored shape plan.at chain words was.view now.view told c.args.rank.now.view old.only;
      planned = planned_less shape reads writes was now plan ready told c.rewrite.ensures.no_spare more planned;
      written = written_more shape plan.at chain words was.view now.view told reads writes more plan refl (stands_there writes plan.at ready.written) ready.may.detach.clean written;
      room = room_less shape reads writes was now plan ready told more (subst (λ (l : List Plan). HasRoom shape l was.view) left old.room);
      surplus = surplus_less shape reads writes was now plan ready told c.rewrite.ensures.no_spare c.args.plans.now more
          (λ block. subst (λ (l : List Plan). times block (surplus_in c.args.plans.now) + taken_for block l ≤ times block (places_of was.view.private) + times block (surplus_in l)) left
          (old.surplus block));
      exchanged = exchanged_less shape reads writes was now plan ready told c.rewrite.ensures.no_spare c.args.plans.now more c.args.rank.now.view.private
          (λ block. subst (λ (l : List Plan). times block (places_of was.view.private) + taken_for block c.args.plans.now + times block (surplus_in l)
          ≡ times block (places_of c.args.rank.now.view.private) + times block (surplus_in c.args.plans.now) + taken_for block l) left
          (old.exchanged block));
      no_spare = λ block none. c.rewrite.ensures.no_spare block (old.no_spare block none);
      follows = follows_trans c.args.rank.now.view was.view now.view old.follows c.rewrite.ensures.follows;
    }

pub returns-clause-exchanged : goal.returns-clause-exchanged
returns-clause-exchanged g c = λ block.
    let none : drop c.loop-plan.plan-index c.args.plans.now ≡ [] = drop_all c.loop-plan.plan-index c.args.plans.now (omega (arith, c.loop-plan-test.false, c.loop-plan.auto.plan-index-end)) in
    omega (
      arith,
      c.loop-plan.invariant.exchanged block,
      ap (taken_for block) none,
      ap (λ (l : List Plan). times block (surplus_in l)) none,
    )
