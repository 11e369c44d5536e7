use Rattle.std.proofs.Common.{ap, ◌∙◌}
use Rattle.object_store.proofs.Making.{fresh_done, fresh_refused}
use Rattle.object_store.proofs.plain_store.calls.PlainStoreStore.fresh.Goals as goal

pub returns-in_default-clause-refused : goal.returns-in_default-clause-refused
returns-in_default-clause-refused g c =
    let self = c.args.self.now in
    fresh_refused self.geometry self.geometry self.ledger.seat.table_id c.look.new.self.seat.table_id self.txn c.end.new.self self.ledger.seat.me.0 c.look.new.self.seat.me.0 self.committed c.args.home
    c.look.ensures.same c.end.ensures self.same c.in_default.ensures

pub returns-in-Ok-clause-done : goal.returns-in-Ok-clause-done
returns-in-Ok-clause-done g c =
    let self = c.args.self.now in
    let made = c.try_make.new.self in
    fresh_done self.geometry made.geometry self.ledger.seat.table_id made.ledger.seat.table_id self.txn made.txn self.ledger.seat.me.0 made.ledger.seat.me.0 self.committed c.args.home
    c.in-Some.at c.in-Ok.ensures.history.0 (ap (λ ledger. ledger.seat.me.0) c.in-Ok.ensures.history.1 ∙ c.look.ensures.same) c.requires.begun c.in-Ok.ensures.ok self.same self.agrees c.in-Some.ensures c.requires.rank
