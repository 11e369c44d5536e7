use Rattle.std.proofs.Common.{◌∙◌, ◌+◌, ◌/◌, ap, sym, length, slice_get, arith}
use Rattle.drill.specs.Drill.{target_of}
use Rattle.drill.proofs.Growing.{at_number, how_many}
use Rattle.drill.proofs.script.target_at.Goals as goal

pub at-requires : goal.at-requires
at-requires c =
    let long = ap length c.requires.targets ∙ how_many (target_of c.args.n c.args.seed) ((c.args.n + 1) / 2) in
    omega (arith, long, c.requires.below)

pub returns : goal.returns
returns c =
    let found = sym c.at.ensures ∙ ap (λ l. slice_get l c.args.k) c.requires.targets ∙ at_number (target_of c.args.n c.args.seed) ((c.args.n + 1) / 2) c.args.k c.requires.below in
    grind (arith, found)
