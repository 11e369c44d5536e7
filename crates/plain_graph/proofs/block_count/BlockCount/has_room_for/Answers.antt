use Rattle.std.proofs.Common.{◌≡◌, ap, arith}
use Rattle.plain_graph.specs.Rooms.{taken_on}
use Rattle.plain_graph.specs.Counted.{Blocks, makers_on, more_on, used_on}
use Rattle.plain_graph.proofs.Counts.{surely_room}
use Rattle.plain_graph.proofs.block_count.BlockCount.has_room_for.Goals as goal

pub returns : goal.returns
returns c = λ g room used more.
    let shape = c.args.geometry.now in
    surely_room shape g c.args.txn.now c.args.self.now c.args.after.now c.keeps_ranges.ensures.ranks.0 used more
    (λ rank below.
    let was : taken_on c.self.inside.used rank ≡ used_on c.args.self.now rank = ap (λ (blocks : Blocks). used_on blocks rank) c.self.view_is in
    let besides : taken_on c.after.inside.more rank ≡ more_on c.args.after.now rank = ap (λ (blocks : Blocks). more_on blocks rank) c.after.view_is in
    let makers : makers_on shape c.as_slice.result.now rank ≡ makers_on shape c.args.txn.now.calls rank = ap (λ calls. makers_on shape calls rank) c.as_slice.ensures in
    omega (arith, c.fit.ensures room rank below, c.in_ok-take_makers.ensures rank, was, besides, makers))
