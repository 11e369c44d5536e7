use Rattle.std.proofs.Common.{ap}
use Rattle.object_txn.proofs.Explaining.{explained_of, recalls_by}
use Rattle.object_txn.proofs.window_store.calls.WindowStoreStore.stays_sound.Goals as goal

pub returns-clause-explained_still : goal.returns-clause-explained_still
returns-clause-explained_still g c =
    let old = c.args.self.now in
    let new = c.stays_sound.new.self in
    explained_of (λ store. store.window.now.shape) (λ store. store.rank.view) old new (ap (λ state. state.shape) c.stays_sound.ensures.same) (recalls_by old.rank.view new.rank.view c.stays_sound.ensures.follows)
