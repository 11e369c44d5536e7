use Rattle.std.proofs.Common.{◌≡◌, ℕ, List, rules, eqb, not, sym, ap, subst, ◌∙◌}
use Rattle.std.specs.Ordering.{nat_cmp}
use Rattle.std.proofs.lemmas.Fn.{filter_same}
use Rattle.gdi_kinds.specs.declared.value.Value.{Value}
use Rattle.graph_model.specs.Graph.{Props}
use Rattle.graph_model.specs.Maps.{IsMap, without}
use Rattle.graph_parts.proofs.Rows.{rising-without}
use Rattle.graph_parts.proofs.value_rows.ValueRows.forget.Goals as goal

pub invariant_of-self : goal.invariant_of-self
invariant_of-self c =
    let rows = c.self.inside.rows.items in
    let left : c.retain.new.self.items ≡ without rows c.args.ty = filter_same _ (λ (row : ℕ × List Value). not (eqb row.0 c.args.ty)) _ (λ x b after called. search rules) _ _ c.retain.ensures.filtered in
    subst (IsMap nat_cmp) (sym left) (rising-without c.args.ty rows c.self.invariant)

pub returns-clause-left : goal.returns-clause-left
returns-clause-left c =
    filter_same _ (λ (row : ℕ × List Value). not (eqb row.0 c.args.ty)) _ (λ x b after called. search rules) _ _ c.retain.ensures.filtered ∙ ap (λ (es : Props). without es c.args.ty) c.self.view_is
