use Rattle.std.proofs.Common.{rules, Ok, ◌∙◌, ap, inl, inr, sym}
use Rattle.std.proofs.lemmas.Result.{err_from_is_err_and}
use Rattle.object_store.proofs.Works.{access_fell, fell_wider, went_wider, write_works}
use Rattle.object_store.proofs.Working.{reaches-wider}
use Rattle.holder_codec.specs.declared.edge_form.EdgeForm.TheVariants.{Heavy}
use Rattle.vertex_ops.specs.Vertices.{HomeOf}
use Rattle.edge_ops.specs.Forming.{AtRecordOrHome}
use Rattle.edge_ops.specs.Opening.{IsAtRecord}
use Rattle.edge_ops.proofs.EdgeForms.{gives_same, own_is_block, own_may}
use Rattle.edge_ops.proofs.given.give_object.Goals as goal

pub write-requires-clause-object : goal.write-requires-clause-object
write-requires-clause-object g c = own_is_block c.requires.open c.in-Some.own c.in-Some.ensures

pub write-requires-clause-may : goal.write-requires-clause-may
write-requires-clause-may g c = own_may c.requires.open c.in-Some.own c.in-Some.ensures

pub returns-in_err-write-in-Some-clause-fell : goal.returns-in_err-write-in-Some-clause-fell
returns-in_err-write-in-Some-clause-fell g c =
    let write = c.in_err-write-in-Some.ensures in
    let fell = access_fell {state = g.S.Store.state} {explains = g.S.Store.explains} {says = g.S.Store.says} {old = c.args.store.now} {new = c.write.new.self} write.keeps write.refused write.explained write.explained_still in
    let did = fell_wider {One = λ _. IsAtRecord c.args.source c.args.opened.edge} {Homes = HomeOf c.args.id} (λ place is. inr (inr (c.in-Some.ensures ∙ ap Heavy (sym is)))) (λ rank never. absurd never) fell in
    let p = err_from_is_err_and c.from_residual.result c.from_residual.ensures.1 in
    search (rules, did, p.1, p.2)

pub returns-in_ok-write-in-Some-clause-went : goal.returns-in_ok-write-in-Some-clause-went
returns-in_ok-write-in-Some-clause-went g c =
    let write = c.in_ok-write-in-Some.ensures in
    let did = write_works {state = g.S.Store.state} {explains = g.S.Store.explains} {says = g.S.Store.says} {old = c.args.store.now} {new = c.write.new.self} _ (Ok c.in_ok-write-in-Some.field-0) (own_may c.requires.open c.in-Some.own c.in-Some.ensures) write.keeps write.done tt tt write.explained_still in
    went_wider {Whole = AtRecordOrHome c.args.source c.args.id c.args.opened.edge} {Homes = HomeOf c.args.id} (λ place is. inl (inr (inr (c.in-Some.ensures ∙ ap Heavy (sym is))))) (λ rank never. absurd never) did.went

pub returns-in_ok-write-in-Some-clause-given : goal.returns-in_ok-write-in-Some-clause-given
returns-in_ok-write-in-Some-clause-given g c =
    let write = c.in_ok-write-in-Some.ensures in
    let did = write_works {state = g.S.Store.state} {explains = g.S.Store.explains} {says = g.S.Store.says} {old = c.args.store.now} {new = c.write.new.self} _ (Ok c.in_ok-write-in-Some.field-0) (own_may c.requires.open c.in-Some.own c.in-Some.ensures) write.keeps write.done tt tt write.explained_still in
    gives_same c.requires.open c.args.id c.in-Some.own c.args.words c.in-Some.ensures write.done (reaches-wider (λ place is. inr is) (λ rank never. absurd never) did.went.reaches)
