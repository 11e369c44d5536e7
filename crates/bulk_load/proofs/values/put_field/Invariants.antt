use Rattle.std.proofs.Common.{length}
use Rattle.bulk_load.specs.Fields.{parts_of, pieces_of}
use Rattle.bulk_load.proofs.SpellLemmas.{PutSoFar}
use Rattle.bulk_load.proofs.values.put_field.Given as goal

abbrev pub invariant-pieces : goal.invariant-pieces
invariant-pieces l = PutSoFar l.fn.owner l.fn.column (parts_of l.fn.column l.fn.field) l.fn.calls l.calls (pieces_of l.rest)

abbrev pub decreases-pieces : goal.decreases-pieces
decreases-pieces l = length l.rest
