use Rattle.std.proofs.Common.{rules, inl, inr, sym, subst}
use Rattle.rma_layout.specs.Ranges.{IsInRange}
use Rattle.rma_layout.specs.Placement.{Place, home_of}
use Rattle.holder_codec.specs.Represents.{IsUnreserved}
use Rattle.object_store.specs.Works.{Nowhere}
use Rattle.object_store.proofs.Works.{fell_wider, went_wider, went-fell, went-then}
use Rattle.id_hash.specs.Buckets.{Finds}
use Rattle.held_objects.proofs.Knows.{still}
use Rattle.graph_vertices.specs.Finding.{IsAbout}
use Rattle.graph_vertices.proofs.Looking.{knows_leads}
use Rattle.graph_vertices.proofs.VertexHere.{finds_none, finds_vertex, is_block, is_unreserved, spelled_vertex}
use Rattle.graph_vertices.proofs.finding.find_vertex.Goals as goal

pub find-requires-clause-leads : goal.find-requires-clause-leads
find-requires-clause-leads g c = knows_leads (subst IsInRange c.geometry-geometry.ensures c.keeps_ranges.ensures) c.requires.stands

pub returns-in_err-found-clause-works : goal.returns-in_err-found-clause-works
returns-in_err-found-clause-works g c =
    let did = fell_wider {One = IsAbout c.args.id} {Homes = Nowhere} (λ place is. inr (inl is)) (λ rank never. never) c.in_err-found.ensures.works.fell in
    search rules

pub look-requires-clause-object : goal.look-requires-clause-object
look-requires-clause-object g c =
    let ranges = subst IsInRange c.geometry-geometry.ensures c.keeps_ranges.ensures in
    let went = c.in_ok-found.ensures.works.went in
    let finds = subst (Finds c.args.id (g.S.Store.state c.args.store.now) (g.S.Store.state c.find.new.store)) c.in-Some.is c.in_ok-found.ensures.found in
    is_block (subst IsInRange (sym went.keeps.shape) ranges) (still finds.looks c.requires.stands) finds.leads_to went.keeps.sound

pub look-requires-clause-spelled : goal.look-requires-clause-spelled
look-requires-clause-spelled g c =
    let ranges = subst IsInRange c.geometry-geometry.ensures c.keeps_ranges.ensures in
    let went = c.in_ok-found.ensures.works.went in
    let finds = subst (Finds c.args.id (g.S.Store.state c.args.store.now) (g.S.Store.state c.find.new.store)) c.in-Some.is c.in_ok-found.ensures.found in
    spelled_vertex (subst IsInRange (sym went.keeps.shape) ranges) (still finds.looks c.requires.stands) finds.leads_to

pub returns-in_err-holder-in-Some-clause-works : goal.returns-in_err-holder-in-Some-clause-works
returns-in_err-holder-in-Some-clause-works g c =
    let mid = g.S.Store.state c.find.new.store in
    let ranges = subst IsInRange c.geometry-geometry.ensures c.keeps_ranges.ensures in
    let went = c.in_ok-found.ensures.works.went in
    let finds = subst (Finds c.args.id (g.S.Store.state c.args.store.now) mid) c.in-Some.is c.in_ok-found.ensures.found in
    let there = is_unreserved (subst IsInRange (sym went.keeps.shape) ranges) (still finds.looks c.requires.stands) finds.leads_to went.keeps.sound in
    let did = went-fell (went_wider {Whole = IsAbout c.args.id} {Homes = Nowhere} (λ place is. inr (inl is)) (λ rank never. never) went)
    (fell_wider {One = IsAbout c.args.id} {Homes = Nowhere} (λ place is. inr (inr (subst (λ (p : Place). IsUnreserved mid.shape (home_of mid.shape c.args.id) p) (sym is) there))) (λ rank never. never)
    c.in_err-holder-in-Some.ensures.works.fell) in
    search rules

pub returns-in_ok-holder-in-Some-clause-works : goal.returns-in_ok-holder-in-Some-clause-works
returns-in_ok-holder-in-Some-clause-works g c =
    let mid = g.S.Store.state c.find.new.store in
    let ranges = subst IsInRange c.geometry-geometry.ensures c.keeps_ranges.ensures in
    let went = c.in_ok-found.ensures.works.went in
    let finds = subst (Finds c.args.id (g.S.Store.state c.args.store.now) mid) c.in-Some.is c.in_ok-found.ensures.found in
    let there = is_unreserved (subst IsInRange (sym went.keeps.shape) ranges) (still finds.looks c.requires.stands) finds.leads_to went.keeps.sound in
    record {
      went = went-then (went_wider {Whole = IsAbout c.args.id} {Homes = Nowhere} (λ place is. inr (inl is)) (λ rank never. never) went)
          (went_wider {Whole = IsAbout c.args.id} {Homes = Nowhere} (λ place is. inr (inr (subst (λ (p : Place). IsUnreserved mid.shape (home_of mid.shape c.args.id) p) (sym is) there))) (λ rank never. never)
          c.in_ok-holder-in-Some.ensures.works.went);
      fell = tt;
    }

pub returns-in_ok-holder-in-Some-clause-found : goal.returns-in_ok-holder-in-Some-clause-found
returns-in_ok-holder-in-Some-clause-found g c =
    let ranges = subst IsInRange c.geometry-geometry.ensures c.keeps_ranges.ensures in
    let finds = subst (Finds c.args.id (g.S.Store.state c.args.store.now) (g.S.Store.state c.find.new.store)) c.in-Some.is c.in_ok-found.ensures.found in
    let read = c.in_ok-holder-in-Some.ensures in
    finds_vertex ranges c.requires.stands c.in_ok-found.ensures.works.went.reaches finds read.found read.works.went.reaches

pub returns-in-None-clause-found : goal.returns-in-None-clause-found
returns-in-None-clause-found g c =
    let ranges = subst IsInRange c.geometry-geometry.ensures c.keeps_ranges.ensures in
    let finds = subst (Finds c.args.id (g.S.Store.state c.args.store.now) (g.S.Store.state c.find.new.store)) c.in-None.is c.in_ok-found.ensures.found in
    finds_none ranges c.requires.stands c.in_ok-found.ensures.works.went.reaches finds
