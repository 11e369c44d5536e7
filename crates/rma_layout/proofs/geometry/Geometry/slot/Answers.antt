use Rattle.std.proofs.Common.{◌/◌, arith}
use Rattle.std.proofs.lemmas.Grind.{common_steps}
use Rattle.std.proofs.Math.Nat.{add-mod}
use Rattle.rma_layout.proofs.geometry.Geometry.slot.Goals as goal

-- the slots of a sum are those of the sum of the remainders
pub returns-clause-value : goal.returns-clause-value
returns-clause-value c =
    let shape = c.args.self.now in
    let sum = add-mod c.args.label (c.args.id / shape.ranks) shape.slots in
    grind (arith, common_steps, sum)
