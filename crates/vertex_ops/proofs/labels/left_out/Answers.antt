use Rattle.std.proofs.Common.{rules, eqb, not, ap, ◌∙◌}
use Rattle.std.proofs.lemmas.Fn.{filter_same}
use Rattle.graph_model.specs.Maps.{take_out}
use Rattle.vertex_ops.proofs.labels.left_out.Goals as goal

pub returns : goal.returns
returns c =
    c.from_vec.ensures ∙ (filter_same _ (λ m. not (eqb m c.args.label)) _ (λ x b after called. search rules) _ _ c.retain.ensures.filtered ∙ ap (take_out c.args.label) c.into_vec-labels.ensures)
