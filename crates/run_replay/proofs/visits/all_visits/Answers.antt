use Rattle.std.proofs.Common.{◌≡◌, ◌+◌, ◌∷◌, [], ◌∙◌, ap, subst, sym, suc, arith, drop, drop-cons}
use Rattle.std.proofs.lemmas.List.{drop_all}
use Rattle.graph_model.specs.Placed.{sections_from, transactions_of}
use Rattle.run_replay.specs.Visits.{AreVisits, GoesOn}
use Rattle.run_replay.proofs.Visiting.{all_are}
use Rattle.run_replay.proofs.visits.all_visits.Goals as goal

pub returns : goal.returns
returns c =
    let i = c.loop-section.section-index in
    let items = c.as_slice-section-items.result.now in
    let visits = c.loop-section.visits.items in
    let lines = c.args.lines.now in
    let end : drop i items ≡ [] = drop_all i items c.loop-section-test.false in
    let goes : GoesOn (transactions_of items) lines visits [] = subst (λ l. GoesOn (transactions_of items) lines visits (sections_from (i + 1) l)) end c.loop-section.invariant.goes in
    subst (λ script. AreVisits 0 (transactions_of script) lines visits) c.as_slice-section-items.ensures (all_are (transactions_of items) lines visits goes)

pub loop-section-preserved : goal.loop-section-preserved
loop-section-preserved c =
    let i = c.loop-section.section-index in
    let items = c.as_slice-section-items.result.now in
    let txns = c.section-item.result in
    let all = transactions_of items in
    let next : suc i ≡ i + 1 = omega arith in
    let rest : drop i items ≡ txns ∷ drop (i + 1) items = drop-cons items i txns c.loop-section-test.true ∙ ap (λ t. t ∷ drop (suc i) items) (sym c.section-item.is) ∙ ap (λ n. txns ∷ drop n items) next in
    record {
      goes = c.in_ok-visit_section.ensures all (sections_from (i + 1 + 1) (drop (i + 1) items)) (i + 1)
          (subst (λ l. GoesOn all c.args.lines.now c.loop-section.visits.items (sections_from (i + 1) l)) rest c.loop-section.invariant.goes);
    }
