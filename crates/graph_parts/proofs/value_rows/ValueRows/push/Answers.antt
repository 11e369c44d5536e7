use Rattle.std.proofs.Common.{◌≡◌, [], ◌∷◌, ◌++◌, List, Option, sym, ap, subst, ◌∙◌}
use Rattle.std.specs.List.{slice_set}
use Rattle.std.specs.Option.{unwrap_or}
use Rattle.std.specs.Ordering.{nat_cmp}
use Rattle.gdi_kinds.specs.declared.value.Value.{Value}
use Rattle.graph_model.specs.Graph.{Props}
use Rattle.graph_model.specs.Lookups.{values_at}
use Rattle.graph_model.specs.Maps.{IsMap, with_at}
use Rattle.graph_parts.specs.Rows.{IsAt, IsGap}
use Rattle.graph_parts.proofs.Rows.{lent_is, rising-with_at, written}
use Rattle.graph_parts.proofs.value_rows.ValueRows.push.Goals as goal

pub invariant_of-self-in-Ok : goal.invariant_of-self-in-Ok
invariant_of-self-in-Ok c =
    let rows = c.self.inside.rows.items in
    let is = subst (λ (es : Props). IsAt es c.args.ty c.in-Ok.place) c.as_slice.ensures.value c.in-Ok.ensures.place in
    subst (IsMap nat_cmp) (sym (written rows c.args.ty c.in-Ok.place c.index_mut.result.now is c.index_mut.ensures.value c.push.new.self c.self.invariant)) (rising-with_at c.args.ty c.push.new.self rows c.self.invariant)

pub invariant_of-self-in-Err : goal.invariant_of-self-in-Err
invariant_of-self-in-Err c =
    let rows = c.self.inside.rows.items in
    let values = c.in_ok-one_value-in-Err.field-0 in
    let is = subst (λ (es : Props). IsGap es c.args.ty c.in-Err.place) c.as_slice.ensures.value c.in-Err.ensures.place in
    subst (IsMap nat_cmp) (sym (c.in_ok-insert-in-Err.ensures.items ∙ is.gap values)) (rising-with_at c.args.ty values rows c.self.invariant)

pub returns-in_ok-push-in-Ok-clause-ok : goal.returns-in_ok-push-in-Ok-clause-ok
returns-in_ok-push-in-Ok-clause-ok c =
    let rows = c.self.inside.rows.items in
    let is = subst (λ (es : Props). IsAt es c.args.ty c.in-Ok.place) c.as_slice.ensures.value c.in-Ok.ensures.place in
    let lent = lent_is rows c.args.ty c.in-Ok.place c.index_mut.result.now is c.index_mut.ensures.value in
    let pushed : c.push.new.self ≡ values_at rows c.args.ty ++ c.args.value ∷ [] =
    c.in_ok-push-in-Ok.ensures.ok ∙ ap (λ (one : _). one.1 ++ c.args.value ∷ []) lent ∙ ap (λ (o : Option (List Value)). unwrap_or o [] ++ c.args.value ∷ []) (sym is.found) in
    written rows c.args.ty c.in-Ok.place c.index_mut.result.now is c.index_mut.ensures.value c.push.new.self c.self.invariant
    ∙ ap (λ vs. with_at rows c.args.ty vs) pushed ∙ ap (λ (es : Props). with_at es c.args.ty (values_at es c.args.ty ++ c.args.value ∷ [])) c.self.view_is
