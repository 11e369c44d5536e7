use Rattle.std.proofs.Common.{◌-◌, ap, ◌∙◌, arith}
use Rattle.std.specs.Ordering.{nat_cmp}
use Rattle.std.specs.BTreeMap.{insert_entry}
use Rattle.graph_parts.proofs.Tallies.{lowered}
use Rattle.graph_parts.proofs.tally.Tally.lower.Goals as goal

pub returns : goal.returns
returns c =
    lowered c.args.self.now c.insert.new.self.entries c.args.key (c.count-lowered.result - 1) c.requires (omega (arith, c.count-lowered.ensures))
    (c.in_ok-insert.ensures.entries ∙ ap (λ es. insert_entry nat_cmp es c.args.key (c.count-lowered.result - 1)) c.self.view_is)
