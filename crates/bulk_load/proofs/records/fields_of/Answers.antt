use Rattle.std.proofs.Common.{◌<◌, length, arith, sym}
use Rattle.csv.specs.Records.{fields_of}
use Rattle.csv.proofs.RecordFacts.{field-there}
use Rattle.bulk_load.proofs.ReadLemmas.{one_field_more}
use Rattle.bulk_load.proofs.records.fields_of.Goals as goal

pub unreachable-requires : goal.unreachable-requires
unreachable-requires c =
    let lt : c.loop-i.i < length (fields_of c.args.row.now) = grind (arith, c.len-i-end.ensures, c.loop-i-test.true) in
    field-there (fields_of c.args.row.now) c.loop-i.i lt (sym (rw c.in_default.is at c.get.ensures.value))

pub loop-i-preserved : goal.loop-i-preserved
loop-i-preserved c =
    let lt : c.loop-i.i < length (fields_of c.args.row.now) = grind (arith, c.len-i-end.ensures, c.loop-i-test.true) in
    rw c.in_ok-push.ensures.items (one_field_more c.loop-i.fields.items c.in-Some.field (fields_of c.args.row.now) c.loop-i.i lt c.loop-i.invariant (sym (rw c.in-Some.is at c.get.ensures.value)))
