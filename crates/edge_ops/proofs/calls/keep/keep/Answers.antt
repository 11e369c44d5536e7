use Rattle.std.proofs.Common.{rules, inl, inr}
use Rattle.std.proofs.lemmas.Result.{err_from_is_err_and}
use Rattle.object_store.proofs.Working.{if_ok, on_err}
use Rattle.object_store.proofs.Works.{fell_wider, went_wider, went-then, went-fell}
use Rattle.vertex_ops.specs.Vertices.{HomeOf}
use Rattle.edge_ops.specs.HeldEdges.{AtEdge}
use Rattle.edge_ops.specs.Keeping.{AtEdgeOrHome}
use Rattle.edge_ops.proofs.EdgeKept.{is_open, keeps, never_none}
use Rattle.edge_ops.proofs.EdgesFound.{out_any, record_reached}
use Rattle.edge_ops.proofs.Opening.{none_opened, opened_is}
use Rattle.edge_ops.proofs.calls.keep.keep.Goals as goal

pub open-requires-clause-edge : goal.open-requires-clause-edge
open-requires-clause-edge g c = out_any c.requires.edge

pub give-requires-clause-open : goal.give-requires-clause-open
give-requires-clause-open g c = is_open c.args.holder.now (opened_is c.in-Some.opened c.in-Some.is c.in_ok-opened.ensures.opened) c.requires.edge c.requires.source

pub returns-in_err-opened-clause-fell : goal.returns-in_err-opened-clause-fell
returns-in_err-opened-clause-fell g c =
    let did = fell_wider {One = AtEdge c.args.source c.args.holder.now.ordinal (g.S.Store.state c.args.store.now)} {Homes = HomeOf c.args.holder.now.source} (λ place is. is) (λ rank never. absurd never) c.in_err-opened.ensures.works.fell in
    let p = err_from_is_err_and c.from_residual.result c.from_residual.ensures.1 in
    search (rules, did, p.1, p.2)

pub unreachable-requires : goal.unreachable-requires
unreachable-requires g c =
    never_none c.args.holder.now.ordinal c.args.holder.now.source c.args.holder.now.target c.requires.edge (none_opened c.in_default.is c.in_ok-opened.ensures.opened)

pub returns-clause-went : goal.returns-clause-went
returns-clause-went g c =
    let read = opened_is c.in-Some.opened c.in-Some.is c.in_ok-opened.ensures.opened in
    let reached = record_reached read.ends.source_found (out_any c.requires.edge) c.in-Some.opened.edge read.record_is in
    let first = went_wider {Whole = AtEdgeOrHome c.args.source c.args.holder.now (g.S.Store.state c.args.store.now)} {Homes = HomeOf c.args.holder.now.source} (λ place is. inl is) (λ rank never. absurd never) c.in_ok-opened.ensures.works.went in
    if_ok c.give.result c.give.ensures.went (λ _ went. went-then first
    (went_wider {Whole = AtEdgeOrHome c.args.source c.args.holder.now (g.S.Store.state c.args.store.now)} {Homes = HomeOf c.args.holder.now.source} (λ place is. elim is [ inl at ↦ inl (reached place at) | inr home ↦ inr home ]) (λ rank is. is) went))

pub returns-clause-fell : goal.returns-clause-fell
returns-clause-fell g c =
    let read = opened_is c.in-Some.opened c.in-Some.is c.in_ok-opened.ensures.opened in
    let reached = record_reached read.ends.source_found (out_any c.requires.edge) c.in-Some.opened.edge read.record_is in
    on_err c.give.result c.give.ensures.fell (λ why fell. went-fell c.in_ok-opened.ensures.works.went
    (fell_wider {One = AtEdge c.args.source c.args.holder.now.ordinal (g.S.Store.state c.args.store.now)} {Homes = HomeOf c.args.holder.now.source} (λ place at. reached place at) (λ rank is. is) fell))

pub returns-clause-kept : goal.returns-clause-kept
returns-clause-kept g c =
    let read = opened_is c.in-Some.opened c.in-Some.is c.in_ok-opened.ensures.opened in
    let can = is_open c.args.holder.now read c.requires.edge c.requires.source in
    if_ok c.give.result c.give.ensures.given (λ kept did. keeps c.args.holder.now read c.requires.edge can c.requires.holder did)
