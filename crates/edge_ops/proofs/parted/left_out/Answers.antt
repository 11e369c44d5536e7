use Rattle.std.proofs.Common.{rules, eqb, not, ap, ◌∙◌, List}
use Rattle.std.specs.List.{filter}
use Rattle.std.proofs.lemmas.Fn.{filter_same}
use Rattle.holder_codec.specs.declared.edge_record.EdgeRecord.{EdgeRecord}
use Rattle.edge_ops.proofs.parted.left_out.Goals as goal

pub returns : goal.returns
returns c =
    c.from_vec.ensures
    ∙ (filter_same _ (λ (edge : EdgeRecord). not (eqb edge.other c.args.id)) _ (λ x b after called. search rules) _ _ c.retain.ensures.filtered
    ∙ ap (λ (es : List EdgeRecord). filter (λ edge. not (eqb edge.other c.args.id)) es) c.into_vec-edges.ensures)
