use Rattle.std.proofs.Common.{◌∷◌, ◌∙◌}
use Rattle.csv.specs.Records.{fields_of}
use Rattle.bulk_load.proofs.LoadLemmas.{load_ends, load_goes_on, load_stops}
use Rattle.bulk_load.proofs.loader.load_records.Goals as goal

pub returns-then-not-branch-clause-loads : goal.returns-then-not-branch-clause-loads
returns-then-not-branch-clause-loads c bytes first read =
    let far = c.loop-row.invariant.far bytes first read in
    load_ends bytes first c.args.header.now c.args.graph.now c.args.calls.now c.loop-row.reader c.loop-row.row c.loop-row.calls c.loop-row.graph far
    (rw c.if-not-branch.true at (c.in_ok-next_record.ensures.reads bytes (first ∷ far.right) far.read))

pub returns-in-Err-clause-loads : goal.returns-in-Err-clause-loads
returns-in-Err-clause-loads c bytes first read =
    let far = c.loop-row.invariant.far bytes first read in
    let more = rw c.if-not-branch.false at (c.in_ok-next_record.ensures.reads bytes (first ∷ far.right) far.read) in
    rw c.refused_at.ensures (load_stops bytes first c.args.header.now c.args.graph.now c.args.calls.now c.loop-row.reader c.next_record.new.reader c.loop-row.row c.loop-row.calls c.loop-row.graph
    (fields_of c.next_record.new.row) c.in-Err.stop far more c.loop-row.invariant.shape (rw (c.as_slice.ensures.value, c.in_ok-fields.ensures) at c.in-Err.ensures.record))

pub loop-row-preserved : goal.loop-row-preserved
loop-row-preserved c = record {
  shape = c.load_record.ensures.shape ∙ c.loop-row.invariant.shape;
  plain = c.in_ok-next_record.ensures.plain;
  well_formed = c.in_default.ensures.well_formed;
  far = λ bytes first read.
      let far = c.loop-row.invariant.far bytes first read in
      let more = rw c.if-not-branch.false at (c.in_ok-next_record.ensures.reads bytes (first ∷ far.right) far.read) in
      load_goes_on bytes first c.args.header.now c.args.graph.now c.args.calls.now c.loop-row.reader c.next_record.new.reader c.loop-row.row c.loop-row.calls c.load_record.new.calls c.loop-row.graph c.load_record.new.graph
      (fields_of c.next_record.new.row) far more c.loop-row.invariant.shape (rw (c.as_slice.ensures.value, c.in_ok-fields.ensures) at c.in_default.ensures.record);
}
