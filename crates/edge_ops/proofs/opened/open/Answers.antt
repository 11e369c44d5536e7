use Rattle.std.proofs.Common.{rules, inl, inr, subst, sym}
use Rattle.rma_layout.specs.Placement.{IsBlock}
use Rattle.rma_layout.specs.Shape.{Shape}
use Rattle.object_store.specs.Works.{Nowhere}
use Rattle.object_store.proofs.Works.{fell_wider, looks-then, went_wider, went-then, went-fell}
use Rattle.held_objects.proofs.Changes.{spelled_part}
use Rattle.held_objects.proofs.Knows.{still}
use Rattle.edge_ops.specs.HeldEdges.{AtEdge}
use Rattle.edge_ops.specs.Opening.{IsAtRecord}
use Rattle.edge_ops.proofs.EdgesFound.{edge_looks, own_is_block, own_known, record_reached, source_known, target_is_block, target_known}
use Rattle.edge_ops.proofs.Opening.{opens_some}
use Rattle.edge_ops.proofs.opened.open.Goals as goal

pub look-requires-clause-spelled : goal.look-requires-clause-spelled
look-requires-clause-spelled g c = spelled_part (source_known c.requires.edge)

pub returns-in_err-from-clause-works : goal.returns-in_err-from-clause-works
returns-in_err-from-clause-works g c =
    let did = fell_wider {One = AtEdge c.args.source c.args.ordinal (g.S.Store.state c.args.store.now)} {Homes = Nowhere} (λ place is. inl is) (λ rank never. never) c.in_err-from.ensures.works.fell in
    search rules

pub returns-in_default-clause-works : goal.returns-in_default-clause-works
returns-in_default-clause-works g c =
    record { went = went_wider {Whole = AtEdge c.args.source c.args.ordinal (g.S.Store.state c.args.store.now)} {Homes = Nowhere} (λ place is. inl is) (λ rank never. never) c.in_ok-from.ensures.works.went; fell = tt }

pub returns-in_default-clause-opened : goal.returns-in_default-clause-opened
returns-in_default-clause-opened g c =
    record { from = c.in_ok-from.from; found = c.in_ok-from.ensures.found; none = sym c.in_default.ensures.found; reaches = c.in_ok-from.ensures.works.went.reaches }

pub open_edge-requires-clause-own : goal.open_edge-requires-clause-own
open_edge-requires-clause-own g c = own_is_block c.in_ok-from.ensures.found c.requires.edge c.in-Some.edge (sym c.in-Some.ensures.found)

pub open_edge-requires-clause-spelled : goal.open_edge-requires-clause-spelled
open_edge-requires-clause-spelled g c = own_known c.in_ok-from.ensures.found c.requires.edge c.in-Some.edge (sym c.in-Some.ensures.found)

pub returns-in_err-holder-clause-works : goal.returns-in_err-holder-clause-works
returns-in_err-holder-clause-works g c =
    let reached = record_reached c.in_ok-from.ensures.found c.requires.edge c.in-Some.edge (sym c.in-Some.ensures.found) in
    let went = went_wider {Whole = AtEdge c.args.source c.args.ordinal (g.S.Store.state c.args.store.now)} {Homes = Nowhere} (λ place is. inl is) (λ rank never. never) c.in_ok-from.ensures.works.went in
    let did = went-fell went (fell_wider {One = AtEdge c.args.source c.args.ordinal (g.S.Store.state c.args.store.now)} {Homes = Nowhere} (λ place is. reached place (inr (inr is))) (λ rank never. never) c.in_err-holder.ensures.works.fell) in
    search rules

pub beside-requires-clause-object : goal.beside-requires-clause-object
beside-requires-clause-object g c =
    let looks = looks-then c.in_ok-from.ensures.found.looks (edge_looks c.in_ok-from.from.id c.in-Some.edge c.in_ok-holder.holder c.in_ok-holder.ensures.found) in
    subst (λ (shape : Shape). IsBlock shape c.in-Some.edge.other_at) (sym looks.stays.shape) (target_is_block c.in_ok-from.ensures.found c.requires.edge c.in-Some.edge (sym c.in-Some.ensures.found))

pub beside-requires-clause-vertex : goal.beside-requires-clause-vertex
beside-requires-clause-vertex g c =
    still (edge_looks c.in_ok-from.from.id c.in-Some.edge c.in_ok-holder.holder c.in_ok-holder.ensures.found) (target_known c.in_ok-from.ensures.found c.requires.edge c.in-Some.edge (sym c.in-Some.ensures.found))

pub returns-in_err-ends-clause-works : goal.returns-in_err-ends-clause-works
returns-in_err-ends-clause-works g c =
    let reached = record_reached c.in_ok-from.ensures.found c.requires.edge c.in-Some.edge (sym c.in-Some.ensures.found) in
    let from = went_wider {Whole = AtEdge c.args.source c.args.ordinal (g.S.Store.state c.args.store.now)} {Homes = Nowhere} (λ place is. inl is) (λ rank never. never) c.in_ok-from.ensures.works.went in
    let own = went_wider {Whole = AtEdge c.args.source c.args.ordinal (g.S.Store.state c.args.store.now)} {Homes = Nowhere} (λ place is. reached place (inr (inr is))) (λ rank never. never) c.in_ok-holder.ensures.works.went in
    let did = went-fell (went-then from own) (fell_wider {One = AtEdge c.args.source c.args.ordinal (g.S.Store.state c.args.store.now)} {Homes = Nowhere} (λ place is. reached place (inr (inl is))) (λ rank never. never) c.in_err-ends.ensures.works.fell) in
    search rules

pub returns-clause-works : goal.returns-clause-works
returns-clause-works g c =
    let reached = record_reached c.in_ok-from.ensures.found c.requires.edge c.in-Some.edge (sym c.in-Some.ensures.found) in
    let from = went_wider {Whole = AtEdge c.args.source c.args.ordinal (g.S.Store.state c.args.store.now)} {Homes = Nowhere} (λ place is. inl is) (λ rank never. never) c.in_ok-from.ensures.works.went in
    let own = went_wider {Whole = AtEdge c.args.source c.args.ordinal (g.S.Store.state c.args.store.now)} {Homes = Nowhere} (λ place is. reached place (inr (inr is))) (λ rank never. never) c.in_ok-holder.ensures.works.went in
    record {
      went = went-then (went-then from own) (went_wider {Whole = AtEdge c.args.source c.args.ordinal (g.S.Store.state c.args.store.now)} {Homes = Nowhere} (λ place is. reached place (inr (inl is))) (λ rank never. never) c.in_ok-ends.ensures.works.went);
      fell = tt;
    }

pub returns-clause-opened : goal.returns-clause-opened
returns-clause-opened g c =
    let from = went_wider {Whole = λ _ place. IsAtRecord c.args.source c.in-Some.edge place} {Homes = Nowhere} (λ place is. inl is) (λ rank never. never) c.in_ok-from.ensures.works.went in
    let own = went_wider {Whole = λ _ place. IsAtRecord c.args.source c.in-Some.edge place} {Homes = Nowhere} (λ place is. inr (inr is)) (λ rank never. never) c.in_ok-holder.ensures.works.went in
    let ends = went_wider {Whole = λ _ place. IsAtRecord c.args.source c.in-Some.edge place} {Homes = Nowhere} (λ place is. inr (inl is)) (λ rank never. never) c.in_ok-ends.ensures.works.went in
    opens_some c.in_ok-from.ensures.found c.requires.edge c.in-Some.edge (sym c.in-Some.ensures.found) c.in-Some.ensures.fits _ c.in_ok-holder.ensures.found c.in_ok-ends.ends c.in_ok-ends.ensures.beside (went-then (went-then from own) ends).reaches
