use Rattle.std.proofs.Common.{lit<}
use Rattle.object_store.proofs.Placing.{placing}
use Rattle.object_store.proofs.ledger.Ledger.place.Goals as goal

pub fetch_add-requires : goal.fetch_add-requires
fetch_add-requires g c =
    let ledger = c.args.self.now in
    let said = c.requires.said in (
      ledger.same_table,
      rw ledger.one_word (lit< tt),
      rw ledger.first_seat (placing g.L.Law.fits ledger.table.shared.table_id.slots g.E.Placed.entry said.0 ledger.seat.me said.1 said.2 said.3 said.4 c.requires.room),
    )
