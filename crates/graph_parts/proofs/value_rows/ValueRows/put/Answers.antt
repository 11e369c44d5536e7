use Rattle.std.proofs.Common.{sym, ap, subst, ◌∙◌}
use Rattle.std.specs.Ordering.{nat_cmp}
use Rattle.graph_model.specs.Graph.{Props}
use Rattle.graph_model.specs.Maps.{IsMap, with_at}
use Rattle.graph_parts.specs.Rows.{IsAt, IsGap}
use Rattle.graph_parts.proofs.Rows.{rising-with_at, written}
use Rattle.graph_parts.proofs.value_rows.ValueRows.put.Goals as goal

pub invariant_of-self : goal.invariant_of-self
invariant_of-self c =
    let rows = c.self.inside.rows.items in
    let is = subst (λ (es : Props). IsAt es c.args.ty c.in-Ok.place) c.as_slice.ensures.value c.in-Ok.ensures.place in
    subst (IsMap nat_cmp) (sym (written rows c.args.ty c.in-Ok.place c.index_mut.result.now is c.index_mut.ensures.value c.args.values c.self.invariant)) (rising-with_at c.args.ty c.args.values rows c.self.invariant)

pub invariant_of-self-in-Err : goal.invariant_of-self-in-Err
invariant_of-self-in-Err c =
    let rows = c.self.inside.rows.items in
    let is = subst (λ (es : Props). IsGap es c.args.ty c.in-Err.place) c.as_slice.ensures.value c.in-Err.ensures.place in
    subst (IsMap nat_cmp) (sym (c.in_ok-insert-in-Err.ensures.items ∙ is.gap c.args.values)) (rising-with_at c.args.ty c.args.values rows c.self.invariant)

pub returns-in-Ok-clause-ok : goal.returns-in-Ok-clause-ok
returns-in-Ok-clause-ok c =
    let is = subst (λ (es : Props). IsAt es c.args.ty c.in-Ok.place) c.as_slice.ensures.value c.in-Ok.ensures.place in
    written c.self.inside.rows.items c.args.ty c.in-Ok.place c.index_mut.result.now is c.index_mut.ensures.value c.args.values c.self.invariant ∙ ap (λ (es : Props). with_at es c.args.ty c.args.values) c.self.view_is
