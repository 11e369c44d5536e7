use Rattle.std.proofs.Common.{rules, ◌≡◌, ◌≤◌, ◌∙◌, List, length, refl, subst, sym, ◌⊎◌, inl, inr}
use Rattle.rma_layout.specs.Shape.{Shape}
use Rattle.graph_model.specs.Sizes.{most_words}
use Rattle.holder_codec.specs.declared.edge_record.EdgeRecord.{EdgeRecord}
use Rattle.holder_codec.specs.declared.vertex_holder.VertexHolder.{VertexHolder}
use Rattle.holder_codec.specs.Vertex.{IsVertexHolder, vertex_words}
use Rattle.holder_codec.specs.declared.edge_form.EdgeForm.TheVariants.{Heavy}
use Rattle.object_store.specs.Calls.{WritesObject}
use Rattle.edge_ops.specs.Parting.{ClearsOwns, IsOwnAmong, OpensOwns, far_ends}
use Rattle.held_objects.specs.Changes.{any}
use Rattle.held_objects.proofs.Knows.{still}
use Rattle.vertex_ops.specs.Vertices.{KnowsVertex}
use Rattle.vertex_ops.proofs.LabelSets.{some_words}
use Rattle.edge_ops.specs.Opening.{OwnIsBlock}
use Rattle.std.specs.List.{Contains}
use Rattle.std.specs.List.Sorted.{IsPermutation}
use Rattle.rma_layout.specs.Placement.{IsBlock, Place}
use Rattle.object_store.specs.Works.{Nowhere, Reaches}
use Rattle.object_store.proofs.Works.{fell_wider, went-fell, went-then, went_wider, went-gave_up}
use Rattle.held_objects.proofs.Changes.{may_write, spelled_part}
use Rattle.edge_ops.specs.CuttingAll.{AtEdges}
use Rattle.edge_ops.proofs.EdgesCutOff.{around_vertex, bare_few, cuts_all, end_block, end_known, end_of, ends_reached, own_known, own_not_end, own_not_here, owns_reached}
use Rattle.edge_ops.proofs.OwnsCleared.{may_write_on, may_write_past, own_may_past}
use Rattle.edge_ops.proofs.calls.cut_all.cut_all.Goals as goal

pub look-requires-clause-spelled : goal.look-requires-clause-spelled
look-requires-clause-spelled g c = spelled_part (around_vertex c.requires.edges)

pub returns-in_err-holder-clause-works : goal.returns-in_err-holder-clause-works
returns-in_err-holder-clause-works g c =
    let did = fell_wider {One = AtEdges c.args.at (g.S.Store.state c.args.store.now)} {Homes = Nowhere} (λ place is. inl is) (λ rank never. never) c.in_err-holder.ensures.works.fell in
    search rules

pub open_owns-requires-clause-owns : goal.open_owns-requires-clause-owns
open_owns-requires-clause-owns g c =
    λ edge is. own_known c.in_ok-holder.ensures.found c.requires.edges edge (subst (λ (es : List EdgeRecord). Contains es edge) c.as_slice.ensures is)

pub returns-in_err-open_owns-clause-works : goal.returns-in_err-open_owns-clause-works
returns-in_err-open_owns-clause-works g c =
    let found = c.in_ok-holder.ensures.found in
    let first = went_wider {Whole = AtEdges c.args.at (g.S.Store.state c.args.store.now)} {Homes = Nowhere} (λ place is. inl is) (λ rank never. never) c.in_ok-holder.ensures.works.went in
    let did = went-fell first (fell_wider {One = AtEdges c.args.at (g.S.Store.state c.args.store.now)} {Homes = Nowhere} (λ place is. owns_reached found c.requires.edges c.as_slice.result.now c.as_slice.ensures place is) (λ rank never. never) c.in_err-open_owns.ensures.works.fell) in
    search rules

pub returns-in_default-clause-works : goal.returns-in_default-clause-works
returns-in_default-clause-works g c =
    let found = c.in_ok-holder.ensures.found in
    let first = went_wider {Whole = AtEdges c.args.at (g.S.Store.state c.args.store.now)} {Homes = Nowhere} (λ place is. inl is) (λ rank never. never) c.in_ok-holder.ensures.works.went in
    let second = went-then first (went_wider {Whole = AtEdges c.args.at (g.S.Store.state c.args.store.now)} {Homes = Nowhere} (λ place is. owns_reached found c.requires.edges c.as_slice.result.now c.as_slice.ensures place is) (λ rank never. never) c.in_ok-open_owns.ensures.works.went) in
    record { went = tt; fell = went-gave_up second c.give_up.ensures }

pub part_ends-requires-clause-blocks : goal.part_ends-requires-clause-blocks
part_ends-requires-clause-blocks g c =
    let found = c.in_ok-holder.ensures.found in
    λ end is.
    let it = end_of found c.requires.edges c.as_slice-2.result.now c.as_slice-2.ensures c.in-Ok.ends.items c.as_slice-3.result.now c.as_slice-3.ensures.value c.in-Ok.ensures end is in
    subst (λ (shape : Shape). IsBlock shape end) (sym (c.in_ok-open_owns.ensures.works.went.keeps.shape ∙ c.in_ok-holder.ensures.works.went.keeps.shape))
    (subst (λ (p : Place). IsBlock (g.S.Store.state c.args.store.now).shape p) it.2 (end_block found c.requires.edges it.0 it.1))

pub part_ends-requires-clause-known : goal.part_ends-requires-clause-known
part_ends-requires-clause-known g c =
    let found = c.in_ok-holder.ensures.found in
    λ end is.
    let it = end_of found c.requires.edges c.as_slice-2.result.now c.as_slice-2.ensures c.in-Ok.ends.items c.as_slice-3.result.now c.as_slice-3.ensures.value c.in-Ok.ensures end is in
    still c.in_ok-open_owns.ensures.opened.looks (subst (λ (p : Place). KnowsVertex p any (g.S.Store.state c.look.new.store)) it.2 (end_known found c.requires.edges it.0 it.1))

pub returns-in_err-part_ends-clause-works : goal.returns-in_err-part_ends-clause-works
returns-in_err-part_ends-clause-works g c =
    let found = c.in_ok-holder.ensures.found in
    let first = went_wider {Whole = AtEdges c.args.at (g.S.Store.state c.args.store.now)} {Homes = Nowhere} (λ place is. inl is) (λ rank never. never) c.in_ok-holder.ensures.works.went in
    let second = went-then first (went_wider {Whole = AtEdges c.args.at (g.S.Store.state c.args.store.now)} {Homes = Nowhere} (λ place is. owns_reached found c.requires.edges c.as_slice.result.now c.as_slice.ensures place is) (λ rank never. never) c.in_ok-open_owns.ensures.works.went) in
    let did = went-fell second (fell_wider {One = AtEdges c.args.at (g.S.Store.state c.args.store.now)} {Homes = Nowhere} (λ place is. ends_reached found c.requires.edges c.as_slice-2.result.now c.as_slice-2.ensures c.in-Ok.ends.items c.as_slice-3.result.now c.as_slice-3.ensures.value c.in-Ok.ensures place is) (λ rank never. never) c.in_err-part_ends.ensures.works.fell) in
    search rules

pub clear_owns-requires-clause-blocks : goal.clear_owns-requires-clause-blocks
clear_owns-requires-clause-blocks g c =
    let found = c.in_ok-holder.ensures.found in
    λ edge is. subst (λ (shape : Shape). OwnIsBlock edge.form shape) (sym (c.in_ok-part_ends.ensures.works.went.keeps.shape ∙ c.in_ok-open_owns.ensures.works.went.keeps.shape)) (own_known found c.requires.edges edge (subst (λ (es : List EdgeRecord). Contains es edge) c.as_slice-4.ensures is)).block

pub clear_owns-requires-clause-may : goal.clear_owns-requires-clause-may
clear_owns-requires-clause-may g c =
    let found = c.in_ok-holder.ensures.found in
    λ edge is.
    own_may_past edge.form c.in_ok-part_ends.ensures.works.went.reaches
    (λ own form there. own_not_end found c.requires.edges c.as_slice-2.result.now c.as_slice-2.ensures c.in-Ok.ends.items c.as_slice-3.result.now c.as_slice-3.ensures.value c.in-Ok.ensures edge (subst (λ (es : List EdgeRecord). Contains es edge) c.as_slice-4.ensures is) own form there)
    (c.in_ok-open_owns.ensures.opened.may edge (subst (λ (es : List EdgeRecord). Contains es edge) (sym c.as_slice.ensures) (subst (λ (es : List EdgeRecord). Contains es edge) c.as_slice-4.ensures is)))

pub returns-in_err-clear_owns-clause-works : goal.returns-in_err-clear_owns-clause-works
returns-in_err-clear_owns-clause-works g c =
    let found = c.in_ok-holder.ensures.found in
    let first = went_wider {Whole = AtEdges c.args.at (g.S.Store.state c.args.store.now)} {Homes = Nowhere} (λ place is. inl is) (λ rank never. never) c.in_ok-holder.ensures.works.went in
    let second = went-then first (went_wider {Whole = AtEdges c.args.at (g.S.Store.state c.args.store.now)} {Homes = Nowhere} (λ place is. owns_reached found c.requires.edges c.as_slice.result.now c.as_slice.ensures place is) (λ rank never. never) c.in_ok-open_owns.ensures.works.went) in
    let third = went-then second (went_wider {Whole = AtEdges c.args.at (g.S.Store.state c.args.store.now)} {Homes = Nowhere} (λ place is. ends_reached found c.requires.edges c.as_slice-2.result.now c.as_slice-2.ensures c.in-Ok.ends.items c.as_slice-3.result.now c.as_slice-3.ensures.value c.in-Ok.ensures place is) (λ rank never. never) c.in_ok-part_ends.ensures.works.went) in
    let did = went-fell third (fell_wider {One = AtEdges c.args.at (g.S.Store.state c.args.store.now)} {Homes = Nowhere} (λ place is. owns_reached found c.requires.edges c.as_slice-4.result.now c.as_slice-4.ensures place is) (λ rank never. never) c.in_err-clear_owns.ensures.works.fell) in
    search rules

pub put-requires-clause-may : goal.put-requires-clause-may
put-requires-clause-may g c =
    let found = c.in_ok-holder.ensures.found in
    let first = may_write_on c.args.at c.in_ok-open_owns.ensures.opened.looks (may_write (some_words c.in_ok-holder.holder) found) in
    let second = may_write_past c.args.at c.in_ok-part_ends.ensures.works.went.reaches
    (λ is. (end_of found c.requires.edges c.as_slice-2.result.now c.as_slice-2.ensures c.in-Ok.ends.items c.as_slice-3.result.now c.as_slice-3.ensures.value c.in-Ok.ensures c.args.at is).3 refl) first in
    may_write_past c.args.at c.in_ok-clear_owns.ensures.works.went.reaches
    (λ is. own_not_here found c.requires.edges is.0 c.args.at (subst (λ (es : List EdgeRecord). Contains es is.0) c.as_slice-4.ensures is.1) is.2 refl) second

pub put-requires-clause-few : goal.put-requires-clause-few
put-requires-clause-few g c =
    subst (λ (h : VertexHolder). length (vertex_words h) ≤ most_words) (sym c.without_edges.ensures.made) (bare_few c.in_ok-holder.ensures.found c.requires.edges)

pub returns-in_err-put-clause-works : goal.returns-in_err-put-clause-works
returns-in_err-put-clause-works g c =
    let found = c.in_ok-holder.ensures.found in
    let first = went_wider {Whole = AtEdges c.args.at (g.S.Store.state c.args.store.now)} {Homes = Nowhere} (λ place is. inl is) (λ rank never. never) c.in_ok-holder.ensures.works.went in
    let second = went-then first (went_wider {Whole = AtEdges c.args.at (g.S.Store.state c.args.store.now)} {Homes = Nowhere} (λ place is. owns_reached found c.requires.edges c.as_slice.result.now c.as_slice.ensures place is) (λ rank never. never) c.in_ok-open_owns.ensures.works.went) in
    let third = went-then second (went_wider {Whole = AtEdges c.args.at (g.S.Store.state c.args.store.now)} {Homes = Nowhere} (λ place is. ends_reached found c.requires.edges c.as_slice-2.result.now c.as_slice-2.ensures c.in-Ok.ends.items c.as_slice-3.result.now c.as_slice-3.ensures.value c.in-Ok.ensures place is) (λ rank never. never) c.in_ok-part_ends.ensures.works.went) in
    let fourth = went-then third (went_wider {Whole = AtEdges c.args.at (g.S.Store.state c.args.store.now)} {Homes = Nowhere} (λ place is. owns_reached found c.requires.edges c.as_slice-4.result.now c.as_slice-4.ensures place is) (λ rank never. never) c.in_ok-clear_owns.ensures.works.went) in
    let did = went-fell fourth (fell_wider {One = AtEdges c.args.at (g.S.Store.state c.args.store.now)} {Homes = Nowhere} (λ place is. inl is) (λ rank never. never) c.in_err-put.ensures.works.fell) in
    search rules

pub returns-clause-works : goal.returns-clause-works
returns-clause-works g c =
    let found = c.in_ok-holder.ensures.found in
    let first = went_wider {Whole = AtEdges c.args.at (g.S.Store.state c.args.store.now)} {Homes = Nowhere} (λ place is. inl is) (λ rank never. never) c.in_ok-holder.ensures.works.went in
    let second = went-then first (went_wider {Whole = AtEdges c.args.at (g.S.Store.state c.args.store.now)} {Homes = Nowhere} (λ place is. owns_reached found c.requires.edges c.as_slice.result.now c.as_slice.ensures place is) (λ rank never. never) c.in_ok-open_owns.ensures.works.went) in
    let third = went-then second (went_wider {Whole = AtEdges c.args.at (g.S.Store.state c.args.store.now)} {Homes = Nowhere} (λ place is. ends_reached found c.requires.edges c.as_slice-2.result.now c.as_slice-2.ensures c.in-Ok.ends.items c.as_slice-3.result.now c.as_slice-3.ensures.value c.in-Ok.ensures place is) (λ rank never. never) c.in_ok-part_ends.ensures.works.went) in
    let fourth = went-then third (went_wider {Whole = AtEdges c.args.at (g.S.Store.state c.args.store.now)} {Homes = Nowhere} (λ place is. owns_reached found c.requires.edges c.as_slice-4.result.now c.as_slice-4.ensures place is) (λ rank never. never) c.in_ok-clear_owns.ensures.works.went) in
    record { went = went-then fourth (went_wider {Whole = AtEdges c.args.at (g.S.Store.state c.args.store.now)} {Homes = Nowhere} (λ place is. inl is) (λ rank never. never) c.in_ok-put.ensures.works.went); fell = tt }

pub returns-clause-cut : goal.returns-clause-cut
returns-clause-cut g c =
    let found = c.in_ok-holder.ensures.found in
    let one = went_wider {Whole = λ _ place. (place ≡ c.args.at) ⊎ ((edge : EdgeRecord) × Contains c.in_ok-holder.holder.edges edge × ((place ≡ edge.other_at) ⊎ (edge.form ≡ Heavy place)))} {Homes = Nowhere} (λ place is. inl is) (λ rank never. never) c.in_ok-holder.ensures.works.went in
    let two = went_wider {Whole = λ _ place. (place ≡ c.args.at) ⊎ ((edge : EdgeRecord) × Contains c.in_ok-holder.holder.edges edge × ((place ≡ edge.other_at) ⊎ (edge.form ≡ Heavy place)))} {Homes = Nowhere} (λ place is. inr (is.0, subst (λ (es : List EdgeRecord). Contains es is.0) c.as_slice.ensures is.1, inr is.2)) (λ rank never. never) c.in_ok-open_owns.ensures.works.went in
    let three = went_wider {Whole = λ _ place. (place ≡ c.args.at) ⊎ ((edge : EdgeRecord) × Contains c.in_ok-holder.holder.edges edge × ((place ≡ edge.other_at) ⊎ (edge.form ≡ Heavy place)))} {Homes = Nowhere} (λ place is. let it = end_of found c.requires.edges c.as_slice-2.result.now c.as_slice-2.ensures c.in-Ok.ends.items c.as_slice-3.result.now c.as_slice-3.ensures.value c.in-Ok.ensures place is in inr (it.0, it.1, inl (sym it.2))) (λ rank never. never) c.in_ok-part_ends.ensures.works.went in
    let four = went_wider {Whole = λ _ place. (place ≡ c.args.at) ⊎ ((edge : EdgeRecord) × Contains c.in_ok-holder.holder.edges edge × ((place ≡ edge.other_at) ⊎ (edge.form ≡ Heavy place)))} {Homes = Nowhere} (λ place is. inr (is.0, subst (λ (es : List EdgeRecord). Contains es is.0) c.as_slice-4.ensures is.1, inr is.2)) (λ rank never. never) c.in_ok-clear_owns.ensures.works.went in
    let five = went_wider {Whole = λ _ place. (place ≡ c.args.at) ⊎ ((edge : EdgeRecord) × Contains c.in_ok-holder.holder.edges edge × ((place ≡ edge.other_at) ⊎ (edge.form ≡ Heavy place)))} {Homes = Nowhere} (λ place is. inl is) (λ rank never. never) c.in_ok-put.ensures.works.went in
    let all = went-then (went-then (went-then (went-then one two) three) four) five in
    let opens = subst (λ (es : List EdgeRecord). OpensOwns es (g.S.Store.state c.look.new.store) (g.S.Store.state c.open_owns.new.store)) c.as_slice.ensures c.in_ok-open_owns.ensures.opened in
    let order = subst (λ (p : List EdgeRecord × List Place). IsPermutation (far_ends c.args.at p.0) p.1) (λ i. (c.as_slice-2.ensures i, sym c.as_slice-3.ensures.value i)) c.in-Ok.ensures in
    let cleared = subst (λ (es : List EdgeRecord). ClearsOwns es (g.S.Store.state c.part_ends.new.store) (g.S.Store.state c.clear_owns.new.store)) c.as_slice-4.ensures c.in_ok-clear_owns.ensures.cleared in
    let reaches = subst (λ (es : List EdgeRecord). Reaches (IsOwnAmong es) (λ _. ⊥) (g.S.Store.state c.part_ends.new.store) (g.S.Store.state c.clear_owns.new.store)) c.as_slice-4.ensures c.in_ok-clear_owns.ensures.works.went.reaches in
    cuts_all found c.requires.edges opens order c.in_ok-part_ends.ensures.parted cleared c.in_ok-part_ends.ensures.works.went.reaches reaches c.in_ok-part_ends.ensures.works.went.keeps.sound.writes_in_order
    c.in_ok-clear_owns.ensures.works.went.keeps.sound.writes_in_order (subst IsVertexHolder c.without_edges.ensures.made c.without_edges.ensures.is)
    (subst (λ (h : VertexHolder). WritesObject c.args.at (vertex_words h) (g.S.Store.state c.clear_owns.new.store) (g.S.Store.state c.put.new.store)) c.without_edges.ensures.made c.in_ok-put.ensures.wrote) all.reaches
    c.in_ok-put.ensures.works.went.keeps.sound.writes_in_order
