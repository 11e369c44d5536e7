use Rattle.std.proofs.Common.{◌∙◌, sym, ap, subst}
use Rattle.std.specs.Prelude.{is_some}
use Rattle.object_words.specs.Contents.{IsByRisingObject, words_at}
use Rattle.object_words.specs.Entries.{store_after}
use Rattle.object_store.proofs.PlainFacts.{agrees-answer, in_order-answer}
use Rattle.object_store.proofs.plain_store.PlainStore.try_read.Goals as goal

pub invariant_of-self-clause-agrees : goal.invariant_of-self-clause-agrees
invariant_of-self-clause-agrees g c =
    let self = c.args.self.now in
    agrees-answer c.read.result self.txn c.read.new.self self.committed (store_after self.ledger.seat.me.0.seen) c.args.at
    c.read.ensures.words c.read.ensures.reads c.read.ensures.err (self.same c.args.at) self.agrees

pub invariant_of-self-clause-reads_in_order : goal.invariant_of-self-clause-reads_in_order
invariant_of-self-clause-reads_in_order g c =
    let self = c.args.self.now in
    in_order-answer c.read.result self.txn c.read.new.self c.args.at c.read.ensures.reads c.read.ensures.err self.reads_in_order

pub invariant_of-self-clause-writes_in_order : goal.invariant_of-self-clause-writes_in_order
invariant_of-self-clause-writes_in_order g c = subst IsByRisingObject (sym c.read.ensures.writes.0) c.args.self.now.writes_in_order

pub invariant_of-self-clause-held : goal.invariant_of-self-clause-held
invariant_of-self-clause-held g c = λ object h. c.args.self.now.held object (ap (λ writes. is_some (words_at writes object)) (sym c.read.ensures.writes.0) ∙ h)
