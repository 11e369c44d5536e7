use Rattle.std.proofs.Common.{refl, sym, ap, ◌∙◌, Some}
use Rattle.std.specs.Option.{option_copied}
use Rattle.object_txn.proofs.ReadingFacts.{reads_again}
use Rattle.object_txn.proofs.reading.read_at.Goals as goal

pub returns-in-Some-get-clause-reads : goal.returns-in-Some-get-clause-reads
returns-in-Some-get-clause-reads g c =
    let tied = c.requires.tied in
    let read = sym c.get-2.ensures ∙ (ap option_copied c.in-Some-get.is ∙ ap Some (sym c.in_ok-copy-2.ensures)) in
    reads_again c.args.at c.args.rank.now.view c.args.txn.now c.args.txn.now c.in_ok-copy-2.field-0
    (sym c.get.ensures ∙ ap option_copied c.in_default.is) read tied.reads.in_order
    (tied.reads.known_is c.args.at c.in_ok-copy-2.field-0 read) refl
