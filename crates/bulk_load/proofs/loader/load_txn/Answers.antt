use Rattle.std.proofs.Common.{◌∙◌, [], refl, sym}
use Rattle.std.proofs.lemmas.Result.{err_from_is_err_and}
use Rattle.csv.specs.Records.{fields_of}
use Rattle.bulk_load.specs.Loads.{HasHeader, no_record, no_header, no_room}
use Rattle.bulk_load.proofs.RowLemmas.{not_false, not_true}
use Rattle.bulk_load.proofs.LoadLemmas.{starts_reading, begins, wrong_behind, loads_behind}
use Rattle.bulk_load.proofs.loader.load_txn.Goals as goal

pub returns-then-not-branch-clause-loads : goal.returns-then-not-branch-clause-loads
returns-then-not-branch-clause-loads c =
    let fr = c.from_reader-reader.ensures in
    let start = starts_reading c.args.bytes.now c.from_reader-reader.result fr.source fr.state in
    let none = rw c.if-not-branch.true at (c.in_ok-next_record.ensures.reads c.args.bytes.now [] start) in
    rw c.bad_file-then-not-branch.ensures (no_record refl refl (c.has_paired_quotes.ensures.0 c.if-not-has_paired_quotes.false) none)

pub returns-in_default-clause-loads : goal.returns-in_default-clause-loads
returns-in_default-clause-loads c =
    let fr = c.from_reader-reader.ensures in
    let start = starts_reading c.args.bytes.now c.from_reader-reader.result fr.source fr.state in
    let read = rw c.if-not-branch.false at (c.in_ok-next_record.ensures.reads c.args.bytes.now [] start) in
    let none = rw (c.in_default.is, c.as_slice.ensures.value, c.in_ok-fields_of.ensures) at c.in_ok-header.ensures in
    rw c.bad_file-in_default.ensures (no_header refl refl (c.has_paired_quotes.ensures.0 c.if-not-has_paired_quotes.false) (fields_of c.next_record.new.row) (begins c.args.bytes.now _ c.next_record.new.reader read) none)

pub returns-then-not-branch-2-clause-loads : goal.returns-then-not-branch-2-clause-loads
returns-then-not-branch-2-clause-loads c =
    let fr = c.from_reader-reader.ensures in
    let start = starts_reading c.args.bytes.now c.from_reader-reader.result fr.source fr.state in
    let read = rw c.if-not-branch.false at (c.in_ok-next_record.ensures.reads c.args.bytes.now [] start) in
    let is = rw (c.in-Some.is, c.as_slice.ensures.value, c.in_ok-fields_of.ensures) at c.in_ok-header.ensures in
    let limit = rw (c.as_slice-2.ensures, c.in_ok-calls.ensures) at c.in_ok-do_calls.ensures.limit in
    rw c.bad_file-then-not-branch-2.ensures (no_room refl refl (c.has_paired_quotes.ensures.0 c.if-not-has_paired_quotes.false) (fields_of c.next_record.new.row) (begins c.args.bytes.now _ c.next_record.new.reader read)
    c.in-Some.header is (not_false _ (sym c.if-not-branch-2.true ∙ limit)))

pub returns-in_err-load_records-clause-loads : goal.returns-in_err-load_records-clause-loads
returns-in_err-load_records-clause-loads c =
    let fr = c.from_reader-reader.ensures in
    let start = starts_reading c.args.bytes.now c.from_reader-reader.result fr.source fr.state in
    let read = rw c.if-not-branch.false at (c.in_ok-next_record.ensures.reads c.args.bytes.now [] start) in
    let is = rw (c.in-Some.is, c.as_slice.ensures.value, c.in_ok-fields_of.ensures) at c.in_ok-header.ensures in
    let limit = rw (c.as_slice-2.ensures, c.in_ok-calls.ensures) at c.in_ok-do_calls.ensures.limit in
    let done = rw (c.as_slice-2.ensures, c.in_ok-calls.ensures) at (c.in_ok-do_calls.ensures.graph c.if-not-branch-2.false) in
    let headed : HasHeader c.args.file c.args.bytes.now c.args.graph.now (fields_of c.next_record.new.row) c.in-Some.header =
    record { quotes = c.has_paired_quotes.ensures.0 c.if-not-has_paired_quotes.false; is = is; within = not_true _ (sym c.if-not-branch-2.false ∙ limit) } in
    let p = err_from_is_err_and c.from_residual-in_err-load_records.result c.from_residual-in_err-load_records.ensures.1 in
    rw (p.1, p.2) (wrong_behind c.args.file c.args.bytes.now c.args.graph.now c.do_calls.new.graph (fields_of c.next_record.new.row) c.in-Some.header _ headed c.do_calls.ensures.shape done (c.in_err-load_records.ensures.loads c.args.bytes.now (fields_of c.next_record.new.row) read))

pub returns-clause-loads : goal.returns-clause-loads
returns-clause-loads c =
    let fr = c.from_reader-reader.ensures in
    let start = starts_reading c.args.bytes.now c.from_reader-reader.result fr.source fr.state in
    let read = rw c.if-not-branch.false at (c.in_ok-next_record.ensures.reads c.args.bytes.now [] start) in
    let is = rw (c.in-Some.is, c.as_slice.ensures.value, c.in_ok-fields_of.ensures) at c.in_ok-header.ensures in
    let limit = rw (c.as_slice-2.ensures, c.in_ok-calls.ensures) at c.in_ok-do_calls.ensures.limit in
    let done = rw (c.as_slice-2.ensures, c.in_ok-calls.ensures) at (c.in_ok-do_calls.ensures.graph c.if-not-branch-2.false) in
    let headed : HasHeader c.args.file c.args.bytes.now c.args.graph.now (fields_of c.next_record.new.row) c.in-Some.header =
    record { quotes = c.has_paired_quotes.ensures.0 c.if-not-has_paired_quotes.false; is = is; within = not_true _ (sym c.if-not-branch-2.false ∙ limit) } in
    (loads_behind c.args.file c.args.bytes.now c.args.graph.now c.do_calls.new.graph c.load_records.new.graph (fields_of c.next_record.new.row) c.in-Some.header c.in_ok-calls.calls c.load_records.new.calls headed c.do_calls.ensures.shape done c.in_ok-calls.ensures
    (c.in_ok-load_records.ensures.loads c.args.bytes.now (fields_of c.next_record.new.row) read)).0

pub returns-clause-graph : goal.returns-clause-graph
returns-clause-graph c =
    let fr = c.from_reader-reader.ensures in
    let start = starts_reading c.args.bytes.now c.from_reader-reader.result fr.source fr.state in
    let read = rw c.if-not-branch.false at (c.in_ok-next_record.ensures.reads c.args.bytes.now [] start) in
    let is = rw (c.in-Some.is, c.as_slice.ensures.value, c.in_ok-fields_of.ensures) at c.in_ok-header.ensures in
    let limit = rw (c.as_slice-2.ensures, c.in_ok-calls.ensures) at c.in_ok-do_calls.ensures.limit in
    let done = rw (c.as_slice-2.ensures, c.in_ok-calls.ensures) at (c.in_ok-do_calls.ensures.graph c.if-not-branch-2.false) in
    let headed : HasHeader c.args.file c.args.bytes.now c.args.graph.now (fields_of c.next_record.new.row) c.in-Some.header =
    record { quotes = c.has_paired_quotes.ensures.0 c.if-not-has_paired_quotes.false; is = is; within = not_true _ (sym c.if-not-branch-2.false ∙ limit) } in
    (loads_behind c.args.file c.args.bytes.now c.args.graph.now c.do_calls.new.graph c.load_records.new.graph (fields_of c.next_record.new.row) c.in-Some.header c.in_ok-calls.calls c.load_records.new.calls headed c.do_calls.ensures.shape done c.in_ok-calls.ensures
    (c.in_ok-load_records.ensures.loads c.args.bytes.now (fields_of c.next_record.new.row) read)).1
