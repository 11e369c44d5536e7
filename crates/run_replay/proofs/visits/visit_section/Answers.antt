use Rattle.std.proofs.Common.{◌≡◌, ◌+◌, ◌++◌, ◌∷◌, [], ◌∙◌, ap, refl, subst, sym, suc, arith, drop, drop-cons}
use Rattle.std.proofs.lemmas.List.{drop_all}
use Rattle.graph_model.specs.Placed.{placed_from}
use Rattle.run_replay.specs.Visits.{GoesOn}
use Rattle.run_replay.proofs.visits.visit_section.Goals as goal

pub loop-txn-preserved : goal.loop-txn-preserved
loop-txn-preserved c =
    let i = c.loop-txn.txn-index in
    let items = c.as_slice-txn-items.result.now in
    let txn = c.txn-item.result in
    let next : suc i ≡ i + 1 = omega arith in
    let rest : drop i items ≡ txn ∷ drop (i + 1) items = drop-cons items i txn c.loop-txn-test.true ∙ ap (λ t. t ∷ drop (suc i) items) (sym c.txn-item.is) ∙ ap (λ n. txn ∷ drop n items) next in
    record {
      goes = λ all more number start.
          c.in_ok-visit_txn.ensures all (placed_from number (i + 1 + 1) (drop (i + 1) items) ++ more) (record { section = number; number = i + 1; txn = txn }) refl
          (subst (λ l. GoesOn all c.args.lines.now c.loop-txn.visits.items (placed_from number (i + 1) l ++ more)) rest (c.loop-txn.invariant.goes all more number start));
    }

pub returns : goal.returns
returns c =
    let i = c.loop-txn.txn-index in
    let items = c.as_slice-txn-items.result.now in
    let end : drop i items ≡ [] = drop_all i items c.loop-txn-test.false in
    λ all more number start.
    subst (λ l. GoesOn all c.args.lines.now c.loop-txn.visits.items (placed_from number (i + 1) l ++ more)) end
    (c.loop-txn.invariant.goes all more number (subst (λ s. GoesOn all c.args.lines.now c.args.visits.now.items (placed_from number 1 s ++ more)) (sym c.as_slice-txn-items.ensures) start))
