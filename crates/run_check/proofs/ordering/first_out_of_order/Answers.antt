use Rattle.std.proofs.Common.{◌≡◌, ◌+◌, ◌++◌, ◌∷◌, [], suc, take, drop, drop-cons, arith, ap, subst, sym, ◌∙◌}
use Rattle.std.proofs.lemmas.List.{take_more, drop_all}
use Rattle.run_check.specs.Places.{NoneFails}
use Rattle.run_check.specs.Ordering.{HasCome, MayFollow, TooEarly}
use Rattle.run_check.proofs.Numbers.{none_before, first_later}
use Rattle.run_check.proofs.Orders.{Left, keeps_order, next_left, next_is_later}
use Rattle.run_check.proofs.ordering.first_out_of_order.Goals as goal

pub loop-line-preserved : goal.loop-line-preserved
loop-line-preserved c =
    let i = c.loop-line.line-index in
    let items = c.args.lines.now in
    let line = c.line-item.result in
    let here = sym c.line-item.is in
    let next : suc i ≡ i + 1 = omega arith in
    let more = take_more items i line c.loop-line-test.true ∙ ap (λ l. take i items ++ l ∷ []) here in
    let rest = drop-cons items i line c.loop-line-test.true ∙ ap (λ l. l ∷ drop (suc i) items) here ∙ ap (λ n. line ∷ drop n items) next in
    let later = next_is_later _ _ line _ rest c.loop-line.invariant.left in
    let come : HasCome (take i items) line.section c.enter.new.self.least = c.enter.ensures.come (take i items) c.loop-line.invariant.come later in
    let entered : HasCome (take i items) c.enter.new.self.section c.enter.new.self.least = subst (λ s. HasCome (take i items) s c.enter.new.self.least) (sym c.enter.ensures.section) come in
    let may : MayFollow (take i items) line = grind (arith, c.passes.ensures (take i items) entered) in
    let right : ¬ TooEarly (take i items) line = λ early. early may in
    let behind : HasCome (take i items ++ line ∷ []) c.enter.new.self.section c.pass.new.self.least = c.pass.ensures.behind (take i items) entered in
    record {
      small = c.pass.ensures.least;
      come = subst (λ l. HasCome l c.pass.new.self.section c.pass.new.self.least) (sym more) (subst (λ s. HasCome (take i items ++ line ∷ []) s c.pass.new.self.least) (sym c.pass.ensures.section) behind);
      left = subst (λ s. Left (drop (i + 1) items) s) (sym (c.pass.ensures.section ∙ c.enter.ensures.section)) (next_left _ _ line _ rest c.loop-line.invariant.left);
      none = λ all. c.loop-line.invariant.none (none_before _ _ _ _ _ line more rest right all);
      first = λ place found. c.loop-line.invariant.first place (first_later _ _ _ _ _ line place more rest right found);
    }

pub returns : goal.returns
returns c =
    let i = c.loop-line.line-index in
    let items = c.args.lines.now in
    let end : drop i items ≡ [] = drop_all i items c.loop-line-test.false in
    keeps_order items (c.loop-line.invariant.none (subst (NoneFails TooEarly (take i items)) (sym end) tt))
