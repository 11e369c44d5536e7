use Rattle.std.proofs.Common.{drop, []}
use Rattle.text_words.specs.Forms.{texts}
use Rattle.bulk_load.proofs.HeaderLemmas.{three_texts}
use Rattle.bulk_load.proofs.header_reader.leads_edges.Goals as goal

pub returns : goal.returns
returns c =
    let first = rw c.if-not-is_same.false at c.is_same.ensures in
    let second = rw c.if-not-is_same-2.false at c.is_same-2.ensures in
    let third = rw c.if-not-is_same-3.false at c.is_same-3.ensures in
    (drop 3 (texts c.args.fields.now), rw (← first, ← second, ← third) (three_texts c.args.fields.now (record { ref_ptr = (0, 0); now = [] }) c.in-len3-up.len_at_least))
