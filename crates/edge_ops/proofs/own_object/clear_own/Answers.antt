use Rattle.std.proofs.Common.{◌∙◌, Ok, ap, sym, subst}
use Rattle.object_store.specs.Calls.{MayWrite}
use Rattle.object_store.specs.Works.{Nowhere}
use Rattle.object_store.proofs.Works.{write_works, went_wider}
use Rattle.holder_codec.specs.declared.edge_form.EdgeForm.{EdgeForm}
use Rattle.holder_codec.specs.declared.edge_form.EdgeForm.TheVariants.{Heavy}
use Rattle.edge_ops.specs.Opening.{MatchForm, OwnOf}
use Rattle.edge_ops.proofs.own_object.clear_own.Goals as goal

pub returns-in_ok-write-in-Heavy-clause-works : goal.returns-in_ok-write-in-Heavy-clause-works
returns-in_ok-write-in-Heavy-clause-works g c =
    let write = c.in_ok-write-in-Heavy.ensures in
    let may = subst (λ (form : EdgeForm). MatchForm form (λ _. Unit {0}) (MayWrite (g.S.Store.state c.args.store.now))) c.in-Heavy.is c.requires.may in
    let did = write_works {says = g.S.Store.says} _ (Ok c.in_ok-write-in-Heavy.field-0) may write.keeps write.done tt tt write.explained_still in
    record { went = went_wider {Whole = OwnOf c.args.form} {Homes = Nowhere} (λ place same. c.in-Heavy.is ∙ ap Heavy (sym same)) (λ rank never. never) did.went; fell = tt }
