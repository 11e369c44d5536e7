use Rattle.std.proofs.Common.{rules, ◌∙◌, ap, inl, inr, sym, subst}
use Rattle.gdi_kinds.specs.declared.reply.Reply.{Reply}
use Rattle.rma_layout.specs.Placement.{IsBlock}
use Rattle.rma_layout.specs.Shape.{Shape}
use Rattle.object_store.specs.Works.{Nowhere}
use Rattle.object_store.proofs.Working.{reaches-then}
use Rattle.object_store.proofs.Works.{fell_wider, went_wider, went-then, went-fell}
use Rattle.edge_ops.specs.declared.ends.Ends.{Ends}
use Rattle.edge_ops.specs.Cutting.{CutsEdge}
use Rattle.edge_ops.specs.Ending.{AreHolders, WritesEnds, are_too_large}
use Rattle.edge_ops.specs.HeldEdges.{AtEdge, in_key, out_key}
use Rattle.edge_ops.specs.Opening.{IsAtRecord}
use Rattle.edge_ops.proofs.EdgeCut.{cuts_none, cuts_some, ends_without_small}
use Rattle.edge_ops.proofs.EdgesFound.{record_reached}
use Rattle.edge_ops.proofs.Finding.{holders_found, may_write_found}
use Rattle.edge_ops.proofs.Opening.{none_opened, opened_is, own_may_still, own_still_block, settled_small}
use Rattle.edge_ops.proofs.calls.cut.cut.Goals as goal

pub returns-in_default-clause-cut : goal.returns-in_default-clause-cut
returns-in_default-clause-cut g c = cuts_none (none_opened c.in_default.is c.in_ok-opened.ensures.opened) c.requires.edge

pub without_edge-requires : goal.without_edge-requires
without_edge-requires g c = holders_found (opened_is c.in-Some.opened c.in-Some.is c.in_ok-opened.ensures.opened).ends

pub settle_ends-requires-clause-target : goal.settle_ends-requires-clause-target
settle_ends-requires-clause-target g c =
    let read = opened_is c.in-Some.opened c.in-Some.is c.in_ok-opened.ensures.opened in
    subst (λ (shape : Shape). IsBlock shape c.in-Some.opened.edge.other_at) (sym read.ends.source_found.looks.stays.shape) read.block

pub settle_ends-requires-clause-may_source : goal.settle_ends-requires-clause-may_source
settle_ends-requires-clause-may_source g c = may_write_found (opened_is c.in-Some.opened c.in-Some.is c.in_ok-opened.ensures.opened).ends.source_found

pub settle_ends-requires-clause-may_target : goal.settle_ends-requires-clause-may_target
settle_ends-requires-clause-may_target g c = may_write_found (opened_is c.in-Some.opened c.in-Some.is c.in_ok-opened.ensures.opened).ends.target_found

pub returns-in_err-reply-clause-works : goal.returns-in_err-reply-clause-works
returns-in_err-reply-clause-works g c =
    let read = opened_is c.in-Some.opened c.in-Some.is c.in_ok-opened.ensures.opened in
    let reached = record_reached read.ends.source_found c.requires.edge c.in-Some.opened.edge read.record_is in
    let did = went-fell c.in_ok-opened.ensures.works.went (fell_wider {One = AtEdge c.args.source c.args.ordinal (g.S.Store.state c.args.store.now)} {Homes = Nowhere}
    (λ place is. elim is [ inl source ↦ inl source | inr target ↦ reached place (inr (inl target)) ]) (λ rank never. never) c.in_err-reply.ensures.works.fell) in
    search rules

pub clear_own-requires-clause-own : goal.clear_own-requires-clause-own
clear_own-requires-clause-own g c =
    let read = opened_is c.in-Some.opened c.in-Some.is c.in_ok-opened.ensures.opened in
    own_still_block (g.S.Store.state c.settle_ends.new.store) c.in-Some.opened read c.in_ok-reply.ensures.works.went.keeps.shape

pub clear_own-requires-clause-may : goal.clear_own-requires-clause-may
clear_own-requires-clause-may g c =
    let read = opened_is c.in-Some.opened c.in-Some.is c.in_ok-opened.ensures.opened in
    let small = ap are_too_large c.without_edge.ensures.made ∙ ends_without_small (out_key c.args.ordinal) (in_key c.in-Some.opened.ends.source.id c.args.ordinal) c.in-Some.opened.ends read.small in
    own_may_still (g.S.Store.state c.settle_ends.new.store) c.in-Some.opened read (settled_small c.without_edge.result small c.in_ok-reply.ensures.settled).1

pub returns-in_err-clear_own-clause-works : goal.returns-in_err-clear_own-clause-works
returns-in_err-clear_own-clause-works g c =
    let read = opened_is c.in-Some.opened c.in-Some.is c.in_ok-opened.ensures.opened in
    let reached = record_reached read.ends.source_found c.requires.edge c.in-Some.opened.edge read.record_is in
    let wrote = went_wider {Whole = AtEdge c.args.source c.args.ordinal (g.S.Store.state c.args.store.now)} {Homes = Nowhere}
    (λ place is. elim is [ inl source ↦ inl source | inr target ↦ reached place (inr (inl target)) ]) (λ rank never. never) c.in_ok-reply.ensures.works.went in
    let did = went-fell (went-then c.in_ok-opened.ensures.works.went wrote) (fell_wider {One = AtEdge c.args.source c.args.ordinal (g.S.Store.state c.args.store.now)} {Homes = Nowhere}
    (λ place is. reached place (inr (inr is))) (λ rank never. never) c.in_err-clear_own.ensures.works.fell) in
    search rules

pub returns-clause-works : goal.returns-clause-works
returns-clause-works g c =
    let read = opened_is c.in-Some.opened c.in-Some.is c.in_ok-opened.ensures.opened in
    let reached = record_reached read.ends.source_found c.requires.edge c.in-Some.opened.edge read.record_is in
    let wrote = went_wider {Whole = AtEdge c.args.source c.args.ordinal (g.S.Store.state c.args.store.now)} {Homes = Nowhere}
    (λ place is. elim is [ inl source ↦ inl source | inr target ↦ reached place (inr (inl target)) ]) (λ rank never. never) c.in_ok-reply.ensures.works.went in
    let cleared = went_wider {Whole = AtEdge c.args.source c.args.ordinal (g.S.Store.state c.args.store.now)} {Homes = Nowhere} (λ place is. reached place (inr (inr is))) (λ rank never. never) c.in_ok-clear_own.ensures.works.went in
    record { went = went-then (went-then c.in_ok-opened.ensures.works.went wrote) cleared; fell = tt }

pub returns-clause-cut : goal.returns-clause-cut
returns-clause-cut g c =
    let read = opened_is c.in-Some.opened c.in-Some.is c.in_ok-opened.ensures.opened in
    let small = ap are_too_large c.without_edge.ensures.made ∙ ends_without_small (out_key c.args.ordinal) (in_key c.in-Some.opened.ends.source.id c.args.ordinal) c.in-Some.opened.ends read.small in
    let did = settled_small c.without_edge.result small c.in_ok-reply.ensures.settled in
    let holders = subst AreHolders c.without_edge.ensures.made c.without_edge.ensures.is in
    let wrote = subst (λ (ends : Ends). WritesEnds c.args.source c.in-Some.opened.edge.other_at ends (g.S.Store.state c.open.new.store) (g.S.Store.state c.settle_ends.new.store)) c.without_edge.ensures.made did.1 in
    let first = went_wider {Whole = λ _ place. IsAtRecord c.args.source c.in-Some.opened.edge place} {Homes = Nowhere} (λ place is. elim is [ inl source ↦ inl source | inr target ↦ inr (inl target) ]) (λ rank never. never) c.in_ok-reply.ensures.works.went in
    let second = went_wider {Whole = λ _ place. IsAtRecord c.args.source c.in-Some.opened.edge place} {Homes = Nowhere} (λ place is. inr (inr is)) (λ rank never. never) c.in_ok-clear_own.ensures.works.went in
    let reaches = reaches-then read.reaches (went-then first second).reaches in
    subst (λ (reply : Reply). CutsEdge c.args.source c.args.ordinal (g.S.Store.state c.args.store.now) (g.S.Store.state c.clear_own.new.store) reply) (sym did.0)
    (cuts_some read (g.S.Store.state c.settle_ends.new.store) (g.S.Store.state c.clear_own.new.store) holders wrote c.in_ok-clear_own.ensures.cleared c.in_ok-reply.ensures.works.went.keeps.sound.writes_in_order c.in_ok-clear_own.ensures.works.went.keeps.sound.writes_in_order c.requires.edge reaches)
