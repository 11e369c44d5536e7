use Rattle.std.proofs.Common.{arith, refl, subst}
use Rattle.gdi_kinds.specs.declared.call.Call.TheVariants.{Degree}
use Rattle.rma_layout.specs.Ranges.{IsInRange}
use Rattle.graph_vertices.specs.Finding.{FindsVertex}
use Rattle.graph_vertices.proofs.Listing.{degree_is, degree_shown, degree_steps}
use Rattle.graph_vertices.proofs.Showing.{none_applied, seen_applied}
use Rattle.graph_vertices.proofs.calls.vertex_degree.vertex_degree.Goals as goal

pub returns-in-None-clause-applied : goal.returns-in-None-clause-applied
returns-in-None-clause-applied g c =
    let old = g.S.Store.state c.args.store.now in
    let found = subst (FindsVertex c.args.id old (g.S.Store.state c.find_vertex.new.store)) c.in-None.is c.in_ok-found.ensures.found in
    none_applied (subst IsInRange c.geometry-geometry.ensures c.keeps_ranges.ensures) (Degree c.args.id c.args.dir) (degree_shown c.args.id c.args.dir) (λ h. (0, omega arith, refl)) (degree_steps old.shape c.args.id c.args.dir) found

pub returns-clause-applied : goal.returns-clause-applied
returns-clause-applied g c =
    let old = g.S.Store.state c.args.store.now in
    let found = subst (FindsVertex c.args.id old (g.S.Store.state c.find_vertex.new.store)) c.in-Some.is c.in_ok-found.ensures.found in
    seen_applied (subst IsInRange c.geometry-geometry.ensures c.keeps_ranges.ensures) (Degree c.args.id c.args.dir) (degree_shown c.args.id c.args.dir) (λ h. (0, omega arith, refl)) (degree_steps old.shape c.args.id c.args.dir) found
    (λ h vertices edges vertex held. degree_is h vertices edges c.args.id c.args.dir vertex held c.as_slice.ensures c.degree_of-degree.ensures)
