use Rattle.std.proofs.Common.{◌≡◌, ◌+◌, ◌++◌, ◌∷◌, [], ◌∙◌, ap, subst, sym, suc, arith, take, drop, drop-cons}
use Rattle.std.proofs.lemmas.List.{take_all, take_more}
use Rattle.std.specs.List.{AllByRecursion}
use Rattle.graph_model.specs.Placed.{transactions_of}
use Rattle.graph_model.specs.LegalRun.{MayEnd}
use Rattle.run_replay.specs.declared.visit.Visit.{Visit}
use Rattle.run_replay.specs.Visits.{AreInOrder, earlier}
use Rattle.run_replay.proofs.Knowing.{may_end_sorted}
use Rattle.run_replay.proofs.Replays.{Goes, all_drop, begins, ends, goes_on}
use Rattle.run_replay.proofs.Walking.{outcome_of}
use Rattle.run_replay.proofs.replaying.replay.Goals as goal

pub loop-visit-init : goal.loop-visit-init
loop-visit-init c =
    let ps = transactions_of c.args.script.now in
    let items = c.as_slice-visit-items.result.now in
    let order = subst (AreInOrder ps c.args.run.now.lines) (sym c.as_slice-visit-items.ensures.value)
    (subst (λ lines. AreInOrder ps lines c.in_ok-visits.visits.items) c.as_slice.ensures c.in_ok-visits.ensures) in
    record { goes = begins c.args.graph c.args.entries c.args.script.now c.args.run.now items c.requires.numbered order }

pub look-requires : goal.look-requires
look-requires c =
    let ps = transactions_of c.args.script.now in
    let items = c.as_slice-visit-items.result.now in
    let i = c.loop-visit.visit-index in
    let visit = c.visit-item.result in
    let order = subst (AreInOrder ps c.args.run.now.lines) (sym c.as_slice-visit-items.ensures.value)
    (subst (λ lines. AreInOrder ps lines c.in_ok-visits.visits.items) c.as_slice.ensures c.in_ok-visits.ensures) in
    let rest : drop i items ≡ visit ∷ drop (suc i) items = drop-cons items i visit c.loop-visit-test.true ∙ ap (λ v. v ∷ drop (suc i) items) (sym c.visit-item.is) in
    let all = all_drop (λ (v : Visit). MayEnd v.txn.now (outcome_of v)) i items (may_end_sorted ps c.args.run.now.lines items c.requires.fits order) in
    (subst (AllByRecursion (λ (v : Visit). MayEnd v.txn.now (outcome_of v))) rest all).0

pub loop-visit-preserved : goal.loop-visit-preserved
loop-visit-preserved c =
    let ps = transactions_of c.args.script.now in
    let items = c.as_slice-visit-items.result.now in
    let i = c.loop-visit.visit-index in
    let visit = c.visit-item.result in
    let order = subst (AreInOrder ps c.args.run.now.lines) (sym c.as_slice-visit-items.ensures.value)
    (subst (λ lines. AreInOrder ps lines c.in_ok-visits.visits.items) c.as_slice.ensures c.in_ok-visits.ensures) in
    let next : suc i ≡ i + 1 = omega arith in
    let rest : drop i items ≡ visit ∷ drop (i + 1) items
    = drop-cons items i visit c.loop-visit-test.true ∙ ap (λ v. v ∷ drop (suc i) items) (sym c.visit-item.is) ∙ ap (λ n. visit ∷ drop n items) next in
    let done : take (i + 1) items ≡ take i items ++ visit ∷ [] = take_more items i visit c.loop-visit-test.true ∙ ap (λ v. take i items ++ v ∷ []) (sym c.visit-item.is) in
    let goes = goes_on c.args.graph c.args.entries c.args.script.now c.args.run.now items i c.loop-visit.graph c.look.new.graph c.loop-visit.replies c.loop-visit.room visit c.in_ok-sight.sight
    c.requires.numbered order rest done c.loop-visit.invariant.goes c.look.ensures.shape c.in_ok-sight.ensures.sight c.in_ok-sight.ensures.graph in
    record {
      goes = subst (λ first. Goes c.args.graph c.args.entries c.args.script.now c.args.run.now items (i + 1) c.look.new.graph first c.earlier-room.result) (sym c.earlier-replies.ensures)
          (subst (Goes c.args.graph c.args.entries c.args.script.now c.args.run.now items (i + 1) c.look.new.graph (earlier c.loop-visit.replies c.in_ok-sight.sight.replies visit)) (sym c.earlier-room.ensures) goes);
    }

pub returns : goal.returns
returns c =
    let ps = transactions_of c.args.script.now in
    let items = c.as_slice-visit-items.result.now in
    let i = c.loop-visit.visit-index in
    let order = subst (AreInOrder ps c.args.run.now.lines) (sym c.as_slice-visit-items.ensures.value)
    (subst (λ lines. AreInOrder ps lines c.in_ok-visits.visits.items) c.as_slice.ensures c.in_ok-visits.ensures) in
    ends c.args.graph c.args.entries c.args.script.now c.args.run.now items i c.loop-visit.graph c.loop-visit.replies c.loop-visit.room _
    order (take_all i items c.loop-visit-test.false) c.loop-visit.invariant.goes c.place_told.ensures c.place_told-2.ensures
