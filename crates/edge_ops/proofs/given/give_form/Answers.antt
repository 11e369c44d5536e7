use Rattle.std.proofs.Common.{rules, ◌∙◌, inl, inr, subst, sym}
use Rattle.object_store.specs.Calls.{MayWrite}
use Rattle.holder_codec.specs.declared.edge_form.EdgeForm.{EdgeForm}
use Rattle.object_store.specs.Works.{Nowhere}
use Rattle.object_store.proofs.Working.{ok_on_ok}
use Rattle.object_store.proofs.Works.{fell_wider, went_wider, went-works, works_wider}
use Rattle.edge_ops.specs.Opening.{ClearsOwn, IsAtRecord, MatchForm, OwnIsBlock}
use Rattle.edge_ops.proofs.EdgeForms.{gives_form, own_block_still, own_may_still}
use Rattle.edge_ops.proofs.given.give_form.Goals as goal

pub returns-in_err-set_form-clause-works : goal.returns-in_err-set_form-clause-works
returns-in_err-set_form-clause-works g c =
    let did = fell_wider {One = λ _. IsAtRecord c.args.source c.args.opened.edge} {Homes = Nowhere} (λ place is. elim is [ inl source ↦ inl source | inr target ↦ inr (inl target) ]) (λ rank never. never) c.in_err-set_form.ensures.works.fell in
    search rules

pub clear_own-requires-clause-own : goal.clear_own-requires-clause-own
clear_own-requires-clause-own g c =
    subst (λ (form : EdgeForm). OwnIsBlock form (g.S.Store.state c.set_form.new.store).shape) (sym c.form_of-own.ensures) (own_block_still c.requires.open (g.S.Store.state c.set_form.new.store) c.in_ok-set_form.ensures.works.went.keeps.shape)

pub clear_own-requires-clause-may : goal.clear_own-requires-clause-may
clear_own-requires-clause-may g c =
    subst (λ (form : EdgeForm). MatchForm form (λ _. Unit {0}) (MayWrite (g.S.Store.state c.set_form.new.store))) (sym c.form_of-own.ensures) (own_may_still c.requires.open c.in_ok-set_form.ensures.wrote)

pub returns-clause-works : goal.returns-clause-works
returns-clause-works g c =
    let went = went_wider {Whole = λ _. IsAtRecord c.args.source c.args.opened.edge} {Homes = Nowhere} (λ place is. elim is [ inl source ↦ inl source | inr target ↦ inr (inl target) ]) (λ rank never. never) c.in_ok-set_form.ensures.works.went in
    went-works c.clear_own.result went (works_wider c.clear_own.result (λ place is. inr (inr (sym c.form_of-own.ensures ∙ is))) (λ rank never. never) c.clear_own.ensures.works)

pub returns-clause-given : goal.returns-clause-given
returns-clause-given g c =
    ok_on_ok c.clear_own.result c.clear_own.ensures.cleared (λ cleared. gives_form c.requires.open (g.S.Store.state c.clear_own.new.store) c.args.form c.requires.form c.in_ok-set_form.ensures.wrote
    (subst (λ (form : EdgeForm). ClearsOwn form (g.S.Store.state c.set_form.new.store) (g.S.Store.state c.clear_own.new.store)) c.form_of-own.ensures cleared))
