use Rattle.std.proofs.Common.{rules, ap, ◌∙◌, ◌≡◌, Some, ℕ, List}
use Rattle.rma_layout.specs.Placement.{Place}
use Rattle.object_words.specs.Contents.{words_at}
use Rattle.object_words.specs.Entries.{store_after}
use Rattle.object_store.proofs.Staying.{read_stays}
use Rattle.object_store.proofs.plain_store.calls.PlainStoreStore.read.Goals as goal

pub returns-in-Ok-clause-done : goal.returns-in-Ok-clause-done
returns-in-Ok-clause-done g c =
    let self = c.args.self.now in
    let at = c.args.at in
    let done = c.in-Ok.ensures in
    let stay : (other : Place) (ws : List ℕ) → words_at self.txn.reads other ≡ Some ws → words_at c.try_read.new.self.txn.reads other ≡ Some ws =
    λ other ws h. ap (λ reads. words_at reads other) done.reads
    ∙ read_stays self.txn.reads self.txn.writes self.committed (store_after self.ledger.seat.me.0.seen) at c.in-Ok.words self.agrees self.same done.words other ws h in
    search rules
