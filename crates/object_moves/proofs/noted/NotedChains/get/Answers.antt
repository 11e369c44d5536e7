use Rattle.std.proofs.Common.{sym, ap, ◌∙◌}
use Rattle.object_moves.specs.Noted.{blocks_of, chains_in}
use Rattle.object_moves.proofs.HeldMaps.{blocks_of-chains_in}
use Rattle.object_moves.proofs.noted.NotedChains.get.Goals as goal

pub returns : goal.returns
returns c =
    c.get.ensures.value
    ∙ (sym (blocks_of-chains_in c.self.inside.blocks.entries c.key.result)
    ∙ (ap (blocks_of (chains_in c.self.inside.blocks.entries)) c.key.ensures
    ∙ ap (λ chains. blocks_of chains c.args.at) c.self.view_is))
