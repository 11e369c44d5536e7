use Rattle.std.proofs.Common.{ap, ◌∙◌}
use Rattle.object_moves.specs.Noted.{blocks_of, chains_in}
use Rattle.object_moves.proofs.HeldMaps.{blocks_of-chains_in}
use Rattle.object_moves.proofs.noted.NotedChains.pop_first.Goals as goal

pub returns-clause-once : goal.returns-clause-once
returns-clause-once c =
    ap (blocks_of (chains_in c.pop_first.new.self.entries)) c.pointer.ensures
    ∙ (blocks_of-chains_in c.pop_first.new.self.entries c.in_ok-raw.raw ∙ c.in_ok-raw.ensures.updates.1)
