use Rattle.std.proofs.Common.{sym, subst}
use Rattle.id_hash.specs.Buckets.{TellsRoom}
use Rattle.id_hash.proofs.InBuckets.{has_room}
use Rattle.id_hash.proofs.calls.room.room.Goals as goal

pub returns-clause-room : goal.returns-clause-room
returns-clause-room g c = subst (TellsRoom c.args.id (g.S.Store.state c.args.store.now) (g.S.Store.state c.read_bucket.new.store)) (sym c.has_room.ensures) (has_room c.in_ok-bucket.ensures.found c.requires.absent)
