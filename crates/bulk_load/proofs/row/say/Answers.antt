use Rattle.std.proofs.Common.{length, drop, refl, arith}
use Rattle.std.proofs.lemmas.Result.{err_from_is_err_and}
use Rattle.text_words.specs.Forms.{texts}
use Rattle.bulk_load.specs.Fields.{lead_sorts}
use Rattle.bulk_load.proofs.RowLemmas.{say_fails, say_ends, say_count, texts_rest}
use Rattle.bulk_load.proofs.row.say.Goals as goal

pub returns-in_err-put_columns : goal.returns-in_err-put_columns
returns-in_err-put_columns c =
    let p = err_from_is_err_and c.from_residual-in_err-put_columns.result c.from_residual-in_err-put_columns.ensures.1 in
    let count = say_count c.args.header.now c.args.fields.now c.width-front.result (length c.args.header.now.columns) c.width-front.ensures.fields (grind (arith, c.if-fields-front.false)) (grind (arith, c.if-fields-front-2.false, c.len.ensures)) refl in
    rw (p.1, p.2) (say_fails c.args.graph.now.shape c.args.graph.now.graph c.args.header.now (texts c.args.fields.now) _ c.in_ok-subject.subject _ count c.in_ok-subject.ensures (rw (c.as_slice.ensures, texts_rest, c.width-front.ensures.fields) at c.in_err-put_columns.ensures))

pub returns : goal.returns
returns c =
    say_ends c.args.graph.now.graph c.args.header.now (texts c.args.fields.now) (drop (length (lead_sorts c.args.header.now.lead)) (texts c.args.fields.now)) c.in_ok-subject.subject c.owner_of-owner.result c.args.calls.now c.push_making.new.calls c.put_columns.new.calls
    c.in_ok-subject.ensures c.owner_of-owner.ensures c.in_ok-push_making.ensures (rw (c.as_slice.ensures, texts_rest, c.width-front.ensures.fields) at c.in_ok-put_columns.ensures)
