use Rattle.std.proofs.Common.{◌≡◌, ◌∙◌, List, slice_get, Some, None, ap, sym, subst}
use Rattle.std.specs.List.{remove}
use Rattle.holder_codec.specs.declared.edge_record.EdgeRecord.{EdgeRecord}
use Rattle.edge_ops.specs.Records.{record_for}
use Rattle.edge_ops.proofs.RecordLists.{none_taken_out, record_taken_out}
use Rattle.edge_ops.proofs.records.without_record.Goals as goal

pub returns-in-Ok : goal.returns-in-Ok
returns-in-Ok c =
    let es = c.args.edges in
    let place = c.in-Ok.place in
    let found = c.in-Ok.ensures.position in
    let there = subst (λ (xs : List EdgeRecord). slice_get xs place ≡ Some found.0) c.as_slice.ensures found.1 in
    let at_key = subst (λ (xs : List EdgeRecord). record_for xs c.args.key ≡ Some found.0) c.as_slice.ensures found.2 in
    c.from_vec.ensures
    ∙ (c.remove-cut.ensures.items
    ∙ (ap (λ (xs : List EdgeRecord). remove xs place) c.into_vec-edges.ensures ∙ record_taken_out c.args.key es place found.0 c.requires there at_key))

pub returns-in-Err : goal.returns-in-Err
returns-in-Err c =
    sym (none_taken_out c.args.key c.args.edges (subst (λ (xs : List EdgeRecord). record_for xs c.args.key ≡ None) c.as_slice.ensures c.in-Err.ensures.position.1))
