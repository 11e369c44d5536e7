use Rattle.std.proofs.Common.{drop}
use Rattle.text_words.specs.Forms.{texts}
use Rattle.bulk_load.proofs.HeaderLemmas.{marked_front}
use Rattle.bulk_load.proofs.header_reader.leads_marked_edges.Goals as goal

pub returns : goal.returns
returns c =
    let front = rw c.if-not-leads_edges.false at c.leads_edges.ensures in
    let mark = rw c.if-not-is_same.false at c.is_same.ensures in
    (drop 4 (texts c.args.fields.now), marked_front c.args.fields.now _ front.0 c.in-len4-up.len_at_least front.1 mark)
