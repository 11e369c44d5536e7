use Rattle.std.proofs.lemmas.List.{get_or-replicate}
use Rattle.plain_graph.proofs.rooms.Rooms.all.Goals as goal

pub returns : goal.returns
returns c = λ rank below. get_or-replicate 64 rank c.args.blocks 0 below
