use Rattle.std.proofs.Common.{rules, arith, inl, refl, subst}
use Rattle.gdi_kinds.specs.declared.call.Call.TheVariants.{Tags}
use Rattle.rma_layout.specs.Ranges.{IsInRange}
use Rattle.object_store.specs.Works.{Nowhere}
use Rattle.object_store.proofs.Works.{fell_wider, went_wider, went-fell, went-gave_up, went-then}
use Rattle.graph_law.proofs.Doing.{refuses_no_rank}
use Rattle.graph_vertices.specs.Finding.{FindsVertex, IsAbout}
use Rattle.graph_model.specs.Lookups.{names_of}
use Rattle.gdi_kinds.specs.declared.reply.Reply.TheVariants.{Labels}
use Rattle.graph_vertices.proofs.Showing.{labels_known, labels_shown, none_applied, shown_applied}
use Rattle.graph_vertices.proofs.calls.vertex_tags.vertex_tags.Goals as goal

pub returns-in-None-clause-applied : goal.returns-in-None-clause-applied
returns-in-None-clause-applied g c =
    let found = subst (FindsVertex c.args.id (g.S.Store.state c.args.store.now) (g.S.Store.state c.find_vertex.new.store)) c.in-None.is c.in_ok-found.ensures.found in
    none_applied (subst IsInRange c.geometry-geometry.ensures c.keeps_ranges.ensures) (Tags c.args.id) (λ h vertex. Labels (names_of h vertex.labels)) (λ h. (0, omega arith, refl)) (λ h. refl) found

pub returns-in_err-names-clause-works : goal.returns-in_err-names-clause-works
returns-in_err-names-clause-works g c =
    let did = went-fell c.in_ok-found.ensures.works.went (fell_wider {One = IsAbout c.args.id} {Homes = Nowhere} (λ place is. inl is) (λ rank never. never) c.in_err-names.ensures.works.fell) in
    search rules

pub returns-in_err-names-clause-refused : goal.returns-in_err-names-clause-refused
returns-in_err-names-clause-refused g c =
    let fell = went-fell c.in_ok-found.ensures.works.went (fell_wider {One = IsAbout c.args.id} {Homes = Nowhere} (λ place is. inl is) (λ rank never. never) c.in_err-names.ensures.works.fell) in
    let did = refuses_no_rank {call = Tags c.args.id} fell.refused in
    search rules

pub names_of-requires : goal.names_of-requires
names_of-requires g c =
    let found = subst (FindsVertex c.args.id (g.S.Store.state c.args.store.now) (g.S.Store.state c.find_vertex.new.store)) c.in-Some.is c.in_ok-found.ensures.found in
    labels_known (subst IsInRange c.geometry-geometry.ensures c.keeps_ranges.ensures) found c.in_ok-names.ensures.found c.requires.stands c.in_ok-names.ensures.works.went.keeps.sound

pub returns-in-Ok-clause-works : goal.returns-in-Ok-clause-works
returns-in-Ok-clause-works g c = record {
  went = went-then c.in_ok-found.ensures.works.went (went_wider {Whole = IsAbout c.args.id} {Homes = Nowhere} (λ place is. inl is) (λ rank never. never) c.in_ok-names.ensures.works.went);
  fell = tt;
}

pub returns-in-Ok-clause-applied : goal.returns-in-Ok-clause-applied
returns-in-Ok-clause-applied g c =
    let found = subst (FindsVertex c.args.id (g.S.Store.state c.args.store.now) (g.S.Store.state c.find_vertex.new.store)) c.in-Some.is c.in_ok-found.ensures.found in
    shown_applied (subst IsInRange c.geometry-geometry.ensures c.keeps_ranges.ensures) (Tags c.args.id) (λ h vertex. Labels (names_of h vertex.labels)) (λ h. (0, omega arith, refl)) (λ h. refl)
    found c.in_ok-names.ensures.found c.in_ok-names.ensures.works.went.reaches (λ h vertices edges vertex named held. labels_shown h vertices edges c.args.id vertex named held c.in-Ok.ensures)

pub returns-clause-works : goal.returns-clause-works
returns-clause-works g c =
    let names = went_wider {Whole = IsAbout c.args.id} {Homes = Nowhere} (λ place is. inl is) (λ rank never. never) c.in_ok-names.ensures.works.went in
    record { went = tt; fell = went-gave_up (went-then c.in_ok-found.ensures.works.went names) c.give_up.ensures }

pub returns-clause-refused : goal.returns-clause-refused
returns-clause-refused g c =
    let names = went_wider {Whole = IsAbout c.args.id} {Homes = Nowhere} (λ place is. inl is) (λ rank never. never) c.in_ok-names.ensures.works.went in
    refuses_no_rank {call = Tags c.args.id} (went-gave_up (went-then c.in_ok-found.ensures.works.went names) c.give_up.ensures).refused
