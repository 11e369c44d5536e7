use Rattle.object_txn.proofs.Explaining.{explained_of}
use Rattle.object_txn.proofs.window_store.calls.WindowStoreStore.commit.Goals as goal

pub returns-clause-explained_still : goal.returns-clause-explained_still
returns-clause-explained_still g c =
    let old = c.args.self.now in
    let new = c.commit.new.self in
    explained_of (λ store. store.window.now.shape) (λ store. store.rank.view) old new c.commit.ensures.keeps.shape c.commit.ensures.recalls
