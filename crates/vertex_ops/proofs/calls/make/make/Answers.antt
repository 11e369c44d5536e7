use Rattle.std.proofs.Common.{rules, ◌∙◌, ap, subst}
use Rattle.rma_layout.specs.Shape.{Shape}
use Rattle.rma_layout.specs.Placement.{Place, home_of}
use Rattle.object_store.specs.Calls.{WritesObject}
use Rattle.object_store.specs.Works.{At}
use Rattle.object_store.proofs.Works.{fresh_fell, fresh_went, fell_homes, fell_wider, made-fell, went-then, went_wider}
use Rattle.holder_codec.specs.declared.vertex_holder.VertexHolder.{VertexHolder}
use Rattle.holder_codec.specs.Vertex.{IsVertexHolder, vertex_words}
use Rattle.vertex_ops.specs.Vertices.{HomeOf}
use Rattle.vertex_ops.proofs.Making.{may_write_made, makes}
use Rattle.vertex_ops.proofs.calls.make.make.Goals as goal

pub returns-in_err-made-clause-fell : goal.returns-in_err-made-clause-fell
returns-in_err-made-clause-fell g c =
    let made = c.in_err-made.ensures in
    let home = c.home.ensures.value ∙ ap (λ (shape : Shape). home_of shape c.args.id) c.geometry-geometry.ensures in
    let fell = fresh_fell {state = g.S.Store.state} {explains = g.S.Store.explains} {says = g.S.Store.says} {old = c.args.store.now} {new = c.fresh.new.self} made.keeps made.refused made.explained made.explained_still in
    let did = fell_wider {One = λ _ _. ⊥} {Homes = HomeOf c.args.id} (λ place never. never) (λ rank is. is ∙ home) fell in
    search rules

pub put-requires-clause-may : goal.put-requires-clause-may
put-requires-clause-may g c = may_write_made c.in_ok-made.ensures.done

pub returns-in_err-put-clause-fell : goal.returns-in_err-put-clause-fell
returns-in_err-put-clause-fell g c =
    let made = c.in_ok-made.ensures in
    let home = c.home.ensures.value ∙ ap (λ (shape : Shape). home_of shape c.args.id) c.geometry-geometry.ensures in
    let fresh = fresh_went {state = g.S.Store.state} {explains = g.S.Store.explains} {old = c.args.store.now} {new = c.fresh.new.self} made.keeps made.done made.explained_still in
    let went = went_wider {Whole = At c.in_ok-made.made} {Homes = HomeOf c.args.id} (λ place is. is) (λ rank is. is ∙ home) fresh in
    let did = fell_homes (λ place is. ap (λ (p : Place). p.rank) is ∙ made.done.rank ∙ home) (made-fell went c.in_err-put.ensures.works.fell) in
    search rules

pub returns-clause-went : goal.returns-clause-went
returns-clause-went g c =
    let made = c.in_ok-made.ensures in
    let home = c.home.ensures.value ∙ ap (λ (shape : Shape). home_of shape c.args.id) c.geometry-geometry.ensures in
    let fresh = fresh_went {state = g.S.Store.state} {explains = g.S.Store.explains} {old = c.args.store.now} {new = c.fresh.new.self} made.keeps made.done made.explained_still in
    went-then (went_wider {Whole = At c.in_ok-made.made} {Homes = HomeOf c.args.id} (λ place is. is) (λ rank is. is ∙ home) fresh)
    (went_wider {Whole = At c.in_ok-made.made} {Homes = HomeOf c.args.id} (λ place is. is) (λ rank never. absurd never) c.in_ok-put.ensures.works.went)

pub returns-clause-made : goal.returns-clause-made
returns-clause-made g c =
    let made = c.in_ok-made.ensures in
    let home = c.home.ensures.value ∙ ap (λ (shape : Shape). home_of shape c.args.id) c.geometry-geometry.ensures in
    makes made.done c.args.id home made.keeps.sound.writes_in_order (subst IsVertexHolder c.bare.ensures.value c.bare.ensures.is)
    (subst (λ (held : VertexHolder). WritesObject c.in_ok-made.made (vertex_words held) (g.S.Store.state c.fresh.new.self) (g.S.Store.state c.put.new.store)) c.bare.ensures.value c.in_ok-put.ensures.wrote)
