use Rattle.std.proofs.Common.{arith, refl, subst}
use Rattle.gdi_kinds.specs.declared.call.Call.TheVariants.{Near}
use Rattle.rma_layout.specs.Ranges.{IsInRange}
use Rattle.object_store.proofs.Works.{went-gave_up}
use Rattle.graph_vertices.specs.Finding.{FindsVertex}
use Rattle.graph_vertices.proofs.Listing.{near_is, near_shown, near_steps}
use Rattle.graph_vertices.proofs.Showing.{none_applied, seen_applied}
use Rattle.graph_vertices.proofs.calls.vertex_near.vertex_near.Goals as goal

pub returns-in-None-clause-applied : goal.returns-in-None-clause-applied
returns-in-None-clause-applied g c =
    let old = g.S.Store.state c.args.store.now in
    let found = subst (FindsVertex c.args.id old (g.S.Store.state c.find_vertex.new.store)) c.in-None.is c.in_ok-found.ensures.found in
    none_applied (subst IsInRange c.geometry-geometry.ensures c.keeps_ranges.ensures) (Near c.args.id c.args.dir) (near_shown c.args.id c.args.dir) (λ h. (0, omega arith, refl)) (near_steps old.shape c.args.id c.args.dir) found

pub returns-in-Ok-clause-applied : goal.returns-in-Ok-clause-applied
returns-in-Ok-clause-applied g c =
    let old = g.S.Store.state c.args.store.now in
    let found = subst (FindsVertex c.args.id old (g.S.Store.state c.find_vertex.new.store)) c.in-Some.is c.in_ok-found.ensures.found in
    seen_applied (subst IsInRange c.geometry-geometry.ensures c.keeps_ranges.ensures) (Near c.args.id c.args.dir) (near_shown c.args.id c.args.dir) (λ h. (0, omega arith, refl)) (near_steps old.shape c.args.id c.args.dir) found
    (λ h vertices edges vertex held. near_is h vertices edges c.args.id c.args.dir vertex held c.as_slice.ensures c.in-Ok.ensures)

pub returns-clause-works : goal.returns-clause-works
returns-clause-works g c = record { went = tt; fell = went-gave_up c.in_ok-found.ensures.works.went c.give_up.ensures }
