use Rattle.std.proofs.Common.{ℕ, arith, length-take}
use Rattle.gdi_io.proofs.ReadSoFar.{has_selected, has_read_on, has_read_all, has_failed, has_too_many, has_no_memory}
use Rattle.gdi_io.proofs.whole.read_all.Goals as goal

pub pieces-init : goal.pieces-init
pieces-init g c = record {
  read = rw c.new-bytes.ensures.items (has_selected _ _ _ (rw c.in-Ok.is at c.select.ensures));
  short = omega arith;
}

pub returns-then-count-eq0 : goal.returns-then-count-eq0
returns-then-count-eq0 g c = rw c.from_vec.ensures (has_read_all _ _ _ _ _ _ c.pieces.invariant.read (rw c.if-count-eq0.true at (rw c.in-Ok-read.is at c.read.ensures)))

pub returns-then-count-len : goal.returns-then-count-len
returns-then-count-len g c = has_too_many _ _ _ _ _ _ _ c.pieces.invariant.read (rw c.in-Ok-read.is at c.read.ensures) (omega arith)

pub pieces-preserved : goal.pieces-preserved
pieces-preserved g c = record {
  read = rw (rw c.in-Ok-extend_from_slice.is at c.extend_from_slice.ensures).items (has_read_on _ _ _ _ _ _ _ c.pieces.invariant.read (rw c.in-Ok-read.is at c.read.ensures) (omega arith));
  short = omega (arith, (rw c.in-Ok-extend_from_slice.is at c.extend_from_slice.ensures).len, length-take {A = ℕ});
}

pub returns-in-Err-read : goal.returns-in-Err-read
returns-in-Err-read g c = has_failed _ _ _ _ _ _ _ c.pieces.invariant.read (rw c.in-Err-read.is at c.read.ensures)

pub returns-in-Err-extend_from_slice : goal.returns-in-Err-extend_from_slice
returns-in-Err-extend_from_slice g c =
    has_no_memory _ _ _ _ (has_read_on _ _ _ _ _ _ _ c.pieces.invariant.read (rw c.in-Ok-read.is at c.read.ensures) (omega arith))
