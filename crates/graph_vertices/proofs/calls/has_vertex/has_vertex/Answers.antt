use Rattle.std.proofs.Common.{rules, ◌∙◌, ap, cond, subst}
use Rattle.gdi_kinds.specs.declared.call.Call.TheVariants.{Has}
use Rattle.gdi_kinds.specs.declared.reply.Reply.TheVariants.{No, Yes}
use Rattle.rma_layout.specs.Ranges.{IsInRange}
use Rattle.graph_law.proofs.Doing.{refuses_no_rank}
use Rattle.graph_vertices.proofs.Looking.{has_applied, knows_leads}
use Rattle.graph_vertices.proofs.calls.has_vertex.has_vertex.Goals as goal

pub find-requires-clause-leads : goal.find-requires-clause-leads
find-requires-clause-leads g c = knows_leads (subst IsInRange c.geometry-geometry.ensures c.keeps_ranges.ensures) c.requires.stands

pub returns-in_err-found-clause-refused : goal.returns-in_err-found-clause-refused
returns-in_err-found-clause-refused g c = let did = refuses_no_rank {call = Has c.args.id} c.in_err-found.ensures.works.fell.refused in search rules

pub returns-clause-applied : goal.returns-clause-applied
returns-clause-applied g c =
    let found = c.in_ok-found.ensures in
    has_applied (subst IsInRange c.geometry-geometry.ensures c.keeps_ranges.ensures) found.works.went.reaches found.found (c.yes_or_no-reply.ensures ∙ ap (λ b. cond b Yes No) c.is_some.ensures)
