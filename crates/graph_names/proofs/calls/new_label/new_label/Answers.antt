use Rattle.std.proofs.Common.{subst}
use Rattle.rma_layout.specs.Ranges.{IsInRange}
use Rattle.graph_names.proofs.NameCalls.{label_applied, knows_names}
use Rattle.graph_names.proofs.calls.new_label.new_label.Goals as goal

pub add_label-requires-clause-names : goal.add_label-requires-clause-names
add_label-requires-clause-names g c = knows_names c.requires.stands

pub returns-clause-applied : goal.returns-clause-applied
returns-clause-applied g c =
    let did = c.in_ok-reply.ensures in
    label_applied (subst IsInRange c.geometry-geometry.ensures c.keeps_ranges.ensures) did.works.went.reaches c.requires.stands.ordered did.works.went.keeps.sound.writes_in_order c.bytes.ensures.name did.added
