use Rattle.std.proofs.Common.{refl, arith}
use Rattle.object_txn.proofs.placing.place_entry.Goals as goal

pub commit-requires-clause-may : goal.commit-requires-clause-may
commit-requires-clause-may g c = record {
  allowed = c.requires.allowed;
  rank = refl;
  fitting = c.requires.fits;
  maps = record { reads = c.requires.reads_in_order; writes = c.requires.writes_in_order };
  reads = λ object words e. (c.requires.inside object words e, c.requires.written.as_read object words e);
  writes = λ object. c.requires.written.as_written object refl;
  attached = c.requires.written.attached;
  room = λ rank below. omega (arith, c.requires.room rank below);
}
