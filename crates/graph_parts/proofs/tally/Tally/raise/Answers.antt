use Rattle.std.proofs.Common.{ap, ◌∙◌, arith}
use Rattle.std.specs.Ordering.{nat_cmp}
use Rattle.std.specs.BTreeMap.{insert_entry}
use Rattle.graph_parts.proofs.Tallies.{raised}
use Rattle.graph_parts.proofs.tally.Tally.raise.Goals as goal

pub returns : goal.returns
returns c =
    raised c.args.self.now c.insert.new.self.entries c.args.key c.in-Some.raised (omega (arith, c.count.ensures, c.in-Some.ensures))
    (c.in_ok-insert.ensures.entries ∙ ap (λ es. insert_entry nat_cmp es c.args.key c.in-Some.raised) c.self.view_is)
