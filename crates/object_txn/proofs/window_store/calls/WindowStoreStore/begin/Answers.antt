use Rattle.object_txn.proofs.Explaining.{explained_of, recalls_by}
use Rattle.object_txn.proofs.window_store.calls.WindowStoreStore.begin.Goals as goal

pub returns-clause-explained_still : goal.returns-clause-explained_still
returns-clause-explained_still g c =
    let old = c.args.self.now in
    let new = c.begin.new.self in
    explained_of (λ store. store.window.now.shape) (λ store. store.rank.view) old new c.begin.ensures.keeps.shape (recalls_by old.rank.view new.rank.view c.begin.ensures.follows)
