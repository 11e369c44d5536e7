use Rattle.std.proofs.Common.{rules, ◌∙◌, ap, inl, inr, subst, sym}
use Rattle.rma_layout.specs.Shape.{Shape}
use Rattle.rma_layout.specs.Placement.{IsBlock, Place, home_of}
use Rattle.object_store.specs.Works.{Nowhere}
use Rattle.object_store.proofs.Works.{access_fell, fell_wider, fresh_fell, fresh_went, made-fell, went-then, went_wider, write_works}
use Rattle.std.proofs.Common.{Ok, ◌≡◌, ◌⊎◌}
use Rattle.std.proofs.lemmas.Result.{err_from_is_err_and}
use Rattle.holder_codec.specs.Represents.{IsUnreserved}
use Rattle.vertex_ops.specs.Vertices.{HomeOf}
use Rattle.vertex_ops.proofs.Making.{may_write_made}
use Rattle.edge_ops.specs.Forming.{AtRecordOrHome}
use Rattle.edge_ops.specs.Opening.{IsAtRecord}
use Rattle.edge_ops.proofs.EdgeForms.{fell_or_home, gives_made, heavy_fits, open_made}
use Rattle.edge_ops.proofs.Opening.{may_write_after}
use Rattle.edge_ops.proofs.given.make_object.Goals as goal

pub returns-in_err-own-clause-fell : goal.returns-in_err-own-clause-fell
returns-in_err-own-clause-fell g c =
    let made = c.in_err-own.ensures in
    let home = c.home.ensures.value ∙ ap (λ (shape : Shape). home_of shape c.args.id) c.geometry-geometry.ensures in
    let fell = fresh_fell {state = g.S.Store.state} {explains = g.S.Store.explains} {says = g.S.Store.says} {old = c.args.store.now} {new = c.fresh.new.self} made.keeps made.refused made.explained made.explained_still in
    let did = fell_wider {One = λ _. IsAtRecord c.args.source c.args.opened.edge} {Homes = HomeOf c.args.id} (λ place never. absurd never) (λ rank is. is ∙ home) fell in
    let p = err_from_is_err_and c.from_residual.result c.from_residual.ensures.1 in
    search (rules, did, p.1, p.2)

pub set_form-requires-clause-open : goal.set_form-requires-clause-open
set_form-requires-clause-open g c = open_made c.in_ok-own.ensures.done c.in_ok-own.ensures.keeps.sound.writes_in_order c.requires.light c.requires.open

pub set_form-requires-clause-form : goal.set_form-requires-clause-form
set_form-requires-clause-form g c = heavy_fits c.requires.open.ranges c.in_ok-own.ensures.done.block

pub returns-in_err-set_form-clause-fell : goal.returns-in_err-set_form-clause-fell
returns-in_err-set_form-clause-fell g c =
    let made = c.in_ok-own.ensures in
    let home = c.home.ensures.value ∙ ap (λ (shape : Shape). home_of shape c.args.id) c.geometry-geometry.ensures in
    let fresh = fresh_went {state = g.S.Store.state} {explains = g.S.Store.explains} {old = c.args.store.now} {new = c.fresh.new.self} made.keeps made.done made.explained_still in
    let went = went_wider {Whole = λ _ place. IsAtRecord c.args.source c.args.opened.edge place ⊎ (place ≡ c.in_ok-own.own)} {Homes = HomeOf c.args.id} (λ place is. inr is) (λ rank is. is ∙ home) fresh in
    let part = fell_wider {One = λ _ place. IsAtRecord c.args.source c.args.opened.edge place ⊎ (place ≡ c.in_ok-own.own)} {Homes = Nowhere}
    (λ place is. elim is [ inl source ↦ inl (inl source) | inr target ↦ inl (inr (inl target)) ]) (λ rank never. never) c.in_err-set_form.ensures.works.fell in
    let did = fell_or_home {One = λ _. IsAtRecord c.args.source c.args.opened.edge} (λ place is. elim is [ inl at ↦ inl at | inr own ↦ inr (ap (λ (p : Place). p.rank) own ∙ (made.done.rank ∙ home)) ]) (made-fell went part) in
    search rules

pub write-requires-clause-object : goal.write-requires-clause-object
write-requires-clause-object g c =
    subst (λ (shape : Shape). IsBlock shape c.in_ok-own.own) (sym (c.in_ok-set_form.ensures.works.went.keeps.shape ∙ c.in_ok-own.ensures.keeps.shape)) c.in_ok-own.ensures.done.block

pub write-requires-clause-may : goal.write-requires-clause-may
write-requires-clause-may g c = may_write_after c.in_ok-own.own c.in_ok-set_form.ensures.wrote (may_write_made c.in_ok-own.ensures.done)

pub returns-in_err-write-clause-fell : goal.returns-in_err-write-clause-fell
returns-in_err-write-clause-fell g c =
    let made = c.in_ok-own.ensures in
    let home = c.home.ensures.value ∙ ap (λ (shape : Shape). home_of shape c.args.id) c.geometry-geometry.ensures in
    let fresh = fresh_went {state = g.S.Store.state} {explains = g.S.Store.explains} {old = c.args.store.now} {new = c.fresh.new.self} made.keeps made.done made.explained_still in
    let went = went_wider {Whole = λ _ place. IsAtRecord c.args.source c.args.opened.edge place ⊎ (place ≡ c.in_ok-own.own)} {Homes = HomeOf c.args.id} (λ place is. inr is) (λ rank is. is ∙ home) fresh in
    let formed = went_wider {Whole = λ _ place. IsAtRecord c.args.source c.args.opened.edge place ⊎ (place ≡ c.in_ok-own.own)} {Homes = HomeOf c.args.id}
    (λ place is. elim is [ inl source ↦ inl (inl source) | inr target ↦ inl (inr (inl target)) ]) (λ rank never. absurd never) c.in_ok-set_form.ensures.works.went in
    let write = c.in_err-write.ensures in
    let part = fell_wider {One = λ _ place. IsAtRecord c.args.source c.args.opened.edge place ⊎ (place ≡ c.in_ok-own.own)} {Homes = Nowhere} (λ place is. inr is) (λ rank never. never)
    (access_fell {state = g.S.Store.state} {explains = g.S.Store.explains} {says = g.S.Store.says} {old = c.set_form.new.store} {new = c.write.new.self} write.keeps write.refused write.explained write.explained_still) in
    let did = fell_or_home {One = λ _. IsAtRecord c.args.source c.args.opened.edge} (λ place is. elim is [ inl at ↦ inl at | inr own ↦ inr (ap (λ (p : Place). p.rank) own ∙ (made.done.rank ∙ home)) ]) (made-fell (went-then went formed) part) in
    let p = err_from_is_err_and c.from_residual-in_err-write.result c.from_residual-in_err-write.ensures.1 in
    search (rules, did, p.1, p.2)

pub returns-clause-went : goal.returns-clause-went
returns-clause-went g c =
    let made = c.in_ok-own.ensures in
    let home = c.home.ensures.value ∙ ap (λ (shape : Shape). home_of shape c.args.id) c.geometry-geometry.ensures in
    let fresh = fresh_went {state = g.S.Store.state} {explains = g.S.Store.explains} {old = c.args.store.now} {new = c.fresh.new.self} made.keeps made.done made.explained_still in
    let place : IsUnreserved (g.S.Store.state c.args.store.now).shape (home_of (g.S.Store.state c.args.store.now).shape c.args.id) c.in_ok-own.own = record { home = made.done.rank ∙ home; block = made.done.block.1; unreserved = made.done.unreserved } in
    let went = went_wider {Whole = AtRecordOrHome c.args.source c.args.id c.args.opened.edge} {Homes = HomeOf c.args.id} (λ there is. inr (subst (λ (p : Place). IsUnreserved (g.S.Store.state c.args.store.now).shape (home_of (g.S.Store.state c.args.store.now).shape c.args.id) p) (sym is) place)) (λ rank is. is ∙ home) fresh in
    let formed = went_wider {Whole = AtRecordOrHome c.args.source c.args.id c.args.opened.edge} {Homes = HomeOf c.args.id} (λ place is. elim is [ inl source ↦ inl (inl source) | inr target ↦ inl (inr (inl target)) ]) (λ rank never. absurd never) c.in_ok-set_form.ensures.works.went in
    let write = c.in_ok-write.ensures in
    let may = may_write_after c.in_ok-own.own c.in_ok-set_form.ensures.wrote (may_write_made c.in_ok-own.ensures.done) in
    let did = write_works {says = g.S.Store.says} _ (Ok c.in_ok-write.field-0) may write.keeps write.done tt tt write.explained_still in
    let shape = c.in_ok-set_form.ensures.works.went.keeps.shape ∙ made.keeps.shape in
    let wrote = went_wider {Whole = AtRecordOrHome c.args.source c.args.id c.args.opened.edge} {Homes = HomeOf c.args.id} (λ there is. inr (subst (λ (s : Shape). IsUnreserved s (home_of s c.args.id) there) (sym shape) (subst (λ (p : Place). IsUnreserved (g.S.Store.state c.args.store.now).shape (home_of (g.S.Store.state c.args.store.now).shape c.args.id) p) (sym is) place)))
    (λ rank never. absurd never) did.went in
    went-then (went-then went formed) wrote

pub returns-clause-given : goal.returns-clause-given
returns-clause-given g c =
    let made = c.in_ok-own.ensures in
    let home = c.home.ensures.value ∙ ap (λ (shape : Shape). home_of shape c.args.id) c.geometry-geometry.ensures in
    let fresh = fresh_went {state = g.S.Store.state} {explains = g.S.Store.explains} {old = c.args.store.now} {new = c.fresh.new.self} made.keeps made.done made.explained_still in
    let went = went_wider {Whole = λ _ place. IsAtRecord c.args.source c.args.opened.edge place ⊎ (place ≡ c.in_ok-own.own)} {Homes = HomeOf c.args.id} (λ place is. inr is) (λ rank is. is ∙ home) fresh in
    let formed = went_wider {Whole = λ _ place. IsAtRecord c.args.source c.args.opened.edge place ⊎ (place ≡ c.in_ok-own.own)} {Homes = HomeOf c.args.id}
    (λ place is. elim is [ inl source ↦ inl (inl source) | inr target ↦ inl (inr (inl target)) ]) (λ rank never. absurd never) c.in_ok-set_form.ensures.works.went in
    let write = c.in_ok-write.ensures in
    let may = may_write_after c.in_ok-own.own c.in_ok-set_form.ensures.wrote (may_write_made c.in_ok-own.ensures.done) in
    let did = write_works {says = g.S.Store.says} _ (Ok c.in_ok-write.field-0) may write.keeps write.done tt tt write.explained_still in
    let wrote = went_wider {Whole = λ _ place. IsAtRecord c.args.source c.args.opened.edge place ⊎ (place ≡ c.in_ok-own.own)} {Homes = HomeOf c.args.id} (λ place is. inr is) (λ rank never. absurd never) did.went in
    gives_made c.requires.open c.args.id c.args.words c.requires.light made.done home made.keeps.sound.writes_in_order c.in_ok-set_form.ensures.wrote write.done (went-then (went-then went formed) wrote).reaches
