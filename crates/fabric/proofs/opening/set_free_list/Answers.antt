use Rattle.std.proofs.Common.{arith}
use Rattle.rma_layout.specs.Placement.{Place}
use Rattle.window_rule.proofs.Openings.{AreWords-block}
use Rattle.fabric.proofs.opening.set_free_list.Goals as goal

pub loop-block-preserved : goal.loop-block-preserved
loop-block-preserved c =
    let place : Place = record { rank = c.args.rank; block = c.loop-block.block } in
    rw (c.number.ensures.value, c.new.ensures, c.next_free-next.ensures)
    (AreWords-block c.args.geometry.now c.args.tag c.loop-block.words c.args.geometry.now.ranks _ place
    (c.requires.rank, omega arith) (omega arith) c.loop-block.invariant)
