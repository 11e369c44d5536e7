use Rattle.std.proofs.Common.{◌∙◌, ap}
use Rattle.object_moves.specs.Loads.{blocks_asked}
use Rattle.object_txn.proofs.planning.used_by.Goals as goal

pub returns : goal.returns
returns g c = c.chain_blocks.ensures ∙ ap (λ s. blocks_asked s c.args.at c.args.words) c.geometry-geometry.ensures
