use Rattle.std.proofs.Common.{rules, inl, inr, sym}
use Rattle.object_store.specs.Works.{Nowhere}
use Rattle.object_store.proofs.Works.{fell_wider, went_wider, went-then, went-fell}
use Rattle.held_objects.proofs.Changes.{spelled_part}
use Rattle.edge_ops.specs.HeldEdges.{AtEdge}
use Rattle.edge_ops.specs.Opening.{IsAtRecord}
use Rattle.edge_ops.proofs.EdgesFound.{loads_none, loads_some, own_is_block, own_known, record_reached, source_known}
use Rattle.edge_ops.proofs.calls.load.load.Goals as goal

pub look-requires-clause-spelled : goal.look-requires-clause-spelled
look-requires-clause-spelled g c = spelled_part (source_known c.requires.edge)

pub returns-in_err-from-clause-works : goal.returns-in_err-from-clause-works
returns-in_err-from-clause-works g c =
    let did = fell_wider {One = AtEdge c.args.source c.args.ordinal (g.S.Store.state c.args.store.now)} {Homes = Nowhere} (λ place is. inl is) (λ rank never. never) c.in_err-from.ensures.works.fell in
    search rules

pub returns-in_default-clause-works : goal.returns-in_default-clause-works
returns-in_default-clause-works g c =
    record { went = went_wider {Whole = AtEdge c.args.source c.args.ordinal (g.S.Store.state c.args.store.now)} {Homes = Nowhere} (λ place is. inl is) (λ rank never. never) c.in_ok-from.ensures.works.went; fell = tt }

pub returns-in_default-clause-loaded : goal.returns-in_default-clause-loaded
returns-in_default-clause-loaded g c = loads_none c.in_ok-from.ensures.found c.requires.edge (sym c.in_default.ensures.found) c.in_ok-from.ensures.works.went.reaches

pub open_edge-requires-clause-own : goal.open_edge-requires-clause-own
open_edge-requires-clause-own g c = own_is_block c.in_ok-from.ensures.found c.requires.edge c.in-Some.edge (sym c.in-Some.ensures.found)

pub open_edge-requires-clause-spelled : goal.open_edge-requires-clause-spelled
open_edge-requires-clause-spelled g c = own_known c.in_ok-from.ensures.found c.requires.edge c.in-Some.edge (sym c.in-Some.ensures.found)

pub returns-in_err-holder-clause-works : goal.returns-in_err-holder-clause-works
returns-in_err-holder-clause-works g c =
    let reached = record_reached c.in_ok-from.ensures.found c.requires.edge c.in-Some.edge (sym c.in-Some.ensures.found) in
    let went = went_wider {Whole = AtEdge c.args.source c.args.ordinal (g.S.Store.state c.args.store.now)} {Homes = Nowhere} (λ place is. inl is) (λ rank never. never) c.in_ok-from.ensures.works.went in
    let did = went-fell went (fell_wider {One = AtEdge c.args.source c.args.ordinal (g.S.Store.state c.args.store.now)} {Homes = Nowhere} (λ place is. reached place (inr (inr is))) (λ rank never. never) c.in_err-holder.ensures.works.fell) in
    search rules

pub returns-clause-works : goal.returns-clause-works
returns-clause-works g c =
    let reached = record_reached c.in_ok-from.ensures.found c.requires.edge c.in-Some.edge (sym c.in-Some.ensures.found) in
    record {
      went = went-then (went_wider {Whole = AtEdge c.args.source c.args.ordinal (g.S.Store.state c.args.store.now)} {Homes = Nowhere} (λ place is. inl is) (λ rank never. never) c.in_ok-from.ensures.works.went)
          (went_wider {Whole = AtEdge c.args.source c.args.ordinal (g.S.Store.state c.args.store.now)} {Homes = Nowhere} (λ place is. reached place (inr (inr is))) (λ rank never. never) c.in_ok-holder.ensures.works.went);
      fell = tt;
    }

pub returns-clause-loaded : goal.returns-clause-loaded
returns-clause-loaded g c =
    let went = went-then (went_wider {Whole = λ _ place. IsAtRecord c.args.source c.in-Some.edge place} {Homes = Nowhere} (λ place is. inl is) (λ rank never. never) c.in_ok-from.ensures.works.went)
    (went_wider {Whole = λ _ place. IsAtRecord c.args.source c.in-Some.edge place} {Homes = Nowhere} (λ place is. inr (inr is)) (λ rank never. never) c.in_ok-holder.ensures.works.went) in
    loads_some c.in_ok-from.ensures.found c.requires.edge c.in-Some.edge (sym c.in-Some.ensures.found) _ _ c.in_ok-holder.ensures.found went.reaches
