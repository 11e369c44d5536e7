use Rattle.std.proofs.Common.{◌-◌, ◌≤◌, vec_len}
use Rattle.gdi_io.specs.Whole.{longest_file}
use Rattle.gdi_io.proofs.ReadSoFar.{HasRead}
use Rattle.gdi_io.proofs.whole.read_all.Given as goal

abbrev pub invariant-pieces : goal.invariant-pieces
invariant-pieces g l = record {
  read : HasRead (g.F.Shelf.told l.fn.shelf) (g.F.Shelf.told l.shelf) l.name l.bytes.items;
  short : vec_len l.bytes ≤ longest_file;
}

abbrev pub decreases-pieces : goal.decreases-pieces
decreases-pieces g l = longest_file - vec_len l.bytes
