use Rattle.std.proofs.Common.{sym, ◌∙◌, []}
use Rattle.object_words.specs.Entries.{store_after}
use Rattle.object_store.proofs.PlainFacts.{in_order-put, held-put, agrees-put}
use Rattle.object_store.proofs.plain_store.PlainStore.try_make.Goals as goal

pub invariant_of-self-2-clause-agrees : goal.invariant_of-self-2-clause-agrees
invariant_of-self-2-clause-agrees g c =
    let self = c.args.self.now in
    agrees-put (store_after self.ledger.seat.me.0.seen) self.txn.reads c.make.new.self.reads c.args.at [] c.make.ensures.reads self.agrees
    (sym (self.same c.args.at) ∙ c.requires.empty)

pub invariant_of-self-2-clause-reads_in_order : goal.invariant_of-self-2-clause-reads_in_order
invariant_of-self-2-clause-reads_in_order g c =
    in_order-put c.args.self.now.txn.reads c.make.new.self.reads c.args.at [] c.make.ensures.reads c.args.self.now.reads_in_order

pub invariant_of-self-2-clause-writes_in_order : goal.invariant_of-self-2-clause-writes_in_order
invariant_of-self-2-clause-writes_in_order g c =
    in_order-put c.args.self.now.txn.writes c.make.new.self.writes c.args.at [] c.make.ensures.writes c.args.self.now.writes_in_order

pub invariant_of-self-2-clause-held : goal.invariant_of-self-2-clause-held
invariant_of-self-2-clause-held g c =
    let self = c.args.self.now in
    held-put c.hold.new.self self.txn.writes c.make.new.self.writes c.args.at [] c.make.ensures.writes
    (λ other h. c.in_ok-hold.ensures.others other (self.held other h)) c.in_ok-hold.ensures.held

pub invariant_of-self-2-clause-same : goal.invariant_of-self-2-clause-same
invariant_of-self-2-clause-same g c = λ object. c.in_ok-hold.ensures.same object ∙ c.args.self.now.same object
