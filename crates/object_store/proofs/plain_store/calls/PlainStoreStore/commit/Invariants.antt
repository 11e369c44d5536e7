use Rattle.std.proofs.Common.{Some}
use Rattle.std.specs.List.{range_with_len}
use Rattle.object_store.specs.State.{least_right}
use Rattle.object_store.proofs.plain_store.calls.PlainStoreStore.commit.Given as goal

-- the entry of the transaction with its note
abbrev pub ghosts-place : goal.ghosts-place
ghosts-place g a = record {
  entry = Some record {
    rank = least_right (range_with_len 0 a.geometry.ranks);
    reads = a.txn.now.reads;
    writes = a.txn.now.writes;
    note = g.C.Carries.note a.note.now;
  };
}
