use Rattle.std.proofs.Common.{◌∙◌}
use Rattle.object_store.proofs.PlainFacts.{may_have_put, in_order-put, held-put}
use Rattle.object_store.proofs.plain_store.PlainStore.try_write.Goals as goal

pub invariant_of-self-2-clause-writes_in_order : goal.invariant_of-self-2-clause-writes_in_order
invariant_of-self-2-clause-writes_in_order g c =
    let self = c.args.self.now in
    let put = may_have_put c.put.result self.txn.writes c.put.new.self c.args.at c.args.words c.put.ensures.ok c.put.ensures.err in
    in_order-put self.txn.writes c.put.new.self c.args.at c.args.words put self.writes_in_order

pub invariant_of-self-2-clause-held : goal.invariant_of-self-2-clause-held
invariant_of-self-2-clause-held g c =
    let self = c.args.self.now in
    let put = may_have_put c.put.result self.txn.writes c.put.new.self c.args.at c.args.words c.put.ensures.ok c.put.ensures.err in
    held-put c.hold.new.self self.txn.writes c.put.new.self c.args.at c.args.words put
    (λ other h. c.in_ok-hold.ensures.others other (self.held other h)) c.in_ok-hold.ensures.held

pub invariant_of-self-2-clause-same : goal.invariant_of-self-2-clause-same
invariant_of-self-2-clause-same g c = λ object. c.in_ok-hold.ensures.same object ∙ c.args.self.now.same object
