use Rattle.object_store.proofs.Opening.{plain_is}
use Rattle.object_store.proofs.plain_store.PlainStore.stands_alone.Goals as goal

pub returns : goal.returns
returns g c =
    let self = c.args.self.now in
    plain_is self.geometry self.ledger.seat.table_id self.txn self.ledger.seat.me.0
