use Rattle.std.proofs.Common.{◌≡◌, ◌∙◌, List, slice_get, Some, ap, subst}
use Rattle.std.specs.List.{insert, remove}
use Rattle.holder_codec.specs.declared.edge_record.EdgeRecord.{EdgeRecord}
use Rattle.edge_ops.specs.Records.{Key, record_for}
use Rattle.edge_ops.proofs.RecordLists.{record_replaced}
use Rattle.edge_ops.proofs.records.with_record.Goals as goal

-- the record of this key goes, and the other one comes in its place
pub returns-in_ok-insert-in-Ok : goal.returns-in_ok-insert-in-Ok
returns-in_ok-insert-in-Ok c =
    let es = c.args.edges in
    let place = c.in-Ok.place in
    let found = c.in-Ok.ensures.position in
    let there = subst (λ (xs : List EdgeRecord). slice_get xs place ≡ Some found.0) c.as_slice.ensures found.1 in
    let at_key = subst (λ (key : Key). record_for es key ≡ Some found.0) c.key_of.ensures (subst (λ (xs : List EdgeRecord). record_for xs c.key_of.result ≡ Some found.0) c.as_slice.ensures found.2) in
    c.from_vec.ensures
    ∙ (c.in_ok-insert-in-Ok.ensures.items
    ∙ (ap (λ (xs : List EdgeRecord). insert xs place c.args.edge) (c.remove-replaced.ensures.items ∙ ap (λ (xs : List EdgeRecord). remove xs place) c.into_vec-edges.ensures)
    ∙ record_replaced c.args.edge es place found.0 c.requires there at_key))
