use Rattle.object_store.proofs.Opening.{new_is}
use Rattle.object_store.proofs.plain_store.PlainStore.new.Goals as goal

pub returns : goal.returns
returns g c = new_is g.L.Law.fits c.args.geometry c.in_ok-ledger.ledger.seat.table_id c.none.result c.in_ok-ledger.ledger.seat.me.0 c.none.ensures c.in_ok-ledger.ensures
