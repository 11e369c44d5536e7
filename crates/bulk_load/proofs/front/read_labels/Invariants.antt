use Rattle.std.proofs.Common.{length}
use Rattle.bulk_load.specs.Fields.{pieces_of}
use Rattle.bulk_load.proofs.ApartLemmas.{LabelsSoFar}
use Rattle.bulk_load.proofs.front.read_labels.Given as goal

abbrev pub invariant-pieces : goal.invariant-pieces
invariant-pieces l = LabelsSoFar l.fn.field l.labels (pieces_of l.rest)

abbrev pub decreases-pieces : goal.decreases-pieces
decreases-pieces l = length l.rest
