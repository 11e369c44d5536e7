use Rattle.std.proofs.Common.{rules, inl, inr, subst}
use Rattle.rma_layout.specs.Ranges.{IsInRange}
use Rattle.object_store.specs.Works.{Nowhere}
use Rattle.object_store.proofs.Works.{fell_wider, went_wider, went-then, went-fell, went-works}
use Rattle.held_objects.proofs.Changes.{spelled_part}
use Rattle.held_objects.proofs.Knows.{still}
use Rattle.edge_ops.specs.Ends.{Either}
use Rattle.edge_ops.proofs.Finding.{ends_found, fits_one_word, holders_found, may_write_found}
use Rattle.edge_ops.proofs.NewEdge.{makes_ok}
use Rattle.edge_ops.proofs.calls.make.make.Goals as goal

pub look-requires-clause-spelled : goal.look-requires-clause-spelled
look-requires-clause-spelled g c = spelled_part c.requires.source_vertex

pub returns-in_err-from-clause-works : goal.returns-in_err-from-clause-works
returns-in_err-from-clause-works g c =
    let did = fell_wider {One = Either c.args.source c.args.target} {Homes = Nowhere} (λ place is. inl is) (λ rank never. never) c.in_err-from.ensures.works.fell in
    search rules

pub beside-requires-clause-vertex : goal.beside-requires-clause-vertex
beside-requires-clause-vertex g c = still c.in_ok-from.ensures.found.looks c.requires.target_vertex

pub returns-in_err-ends-clause-works : goal.returns-in_err-ends-clause-works
returns-in_err-ends-clause-works g c =
    let went = went_wider {Whole = Either c.args.source c.args.target} {Homes = Nowhere} (λ place is. inl is) (λ rank never. never) c.in_ok-from.ensures.works.went in
    let did = went-fell went (fell_wider {One = Either c.args.source c.args.target} {Homes = Nowhere} (λ place is. inr is) (λ rank never. never) c.in_err-ends.ensures.works.fell) in
    search rules

pub with_new_edge-made-requires-clause-holders : goal.with_new_edge-made-requires-clause-holders
with_new_edge-made-requires-clause-holders g c = holders_found (ends_found c.in_ok-from.ensures.found c.in_ok-ends.ensures.beside)

pub with_new_edge-made-requires-clause-source : goal.with_new_edge-made-requires-clause-source
with_new_edge-made-requires-clause-source g c = fits_one_word (subst IsInRange c.geometry-geometry.ensures c.keeps_ranges.ensures) c.requires.source

pub with_new_edge-made-requires-clause-target : goal.with_new_edge-made-requires-clause-target
with_new_edge-made-requires-clause-target g c = fits_one_word (subst IsInRange c.geometry-geometry.ensures c.keeps_ranges.ensures) c.requires.target

pub settle_ends-requires-clause-may_source : goal.settle_ends-requires-clause-may_source
settle_ends-requires-clause-may_source g c = may_write_found (ends_found c.in_ok-from.ensures.found c.in_ok-ends.ensures.beside).source_found

pub settle_ends-requires-clause-may_target : goal.settle_ends-requires-clause-may_target
settle_ends-requires-clause-may_target g c = may_write_found (ends_found c.in_ok-from.ensures.found c.in_ok-ends.ensures.beside).target_found

pub returns-clause-works : goal.returns-clause-works
returns-clause-works g c =
    let from = went_wider {Whole = Either c.args.source c.args.target} {Homes = Nowhere} (λ place is. inl is) (λ rank never. never) c.in_ok-from.ensures.works.went in
    let to = went_wider {Whole = Either c.args.source c.args.target} {Homes = Nowhere} (λ place is. inr is) (λ rank never. never) c.in_ok-ends.ensures.works.went in
    went-works c.settle_ends.result (went-then from to) c.settle_ends.ensures.works

pub returns-clause-made : goal.returns-clause-made
returns-clause-made g c =
    makes_ok (ends_found c.in_ok-from.ensures.found c.in_ok-ends.ensures.beside) c.args.label c.args.undirected (g.S.Store.state c.settle_ends.new.store) c.in_ok-ends.ensures.beside.source_is c.settle_ends.result c.with_new_edge-made.result
    c.with_new_edge-made.ensures.made c.with_new_edge-made.ensures.is c.settle_ends.ensures.settled c.requires.source_vertex c.requires.target_vertex c.requires.target
