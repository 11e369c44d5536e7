use Rattle.std.proofs.Common.{◌∙◌, ap, subst}
use Rattle.object_store.proofs.Working.{if_ok, ok_and, ok_on_ok}
use Rattle.edge_ops.specs.declared.ends.Ends.{Ends}
use Rattle.edge_ops.specs.Ending.{WritesEnds, are_too_large}
use Rattle.edge_ops.proofs.EdgeForms.{formed_small}
use Rattle.edge_ops.proofs.formed.set_form.Goals as goal

pub put_ends-requires-clause-small : goal.put_ends-requires-clause-small
put_ends-requires-clause-small g c = if_ok c.with_form-made.result c.with_form-made.ensures.made (λ ends is. ap are_too_large is ∙ formed_small c.requires.open c.args.form c.requires.form)

pub returns-clause-wrote : goal.returns-clause-wrote
returns-clause-wrote g c =
    ok_on_ok c.put_ends.result c.put_ends.ensures.wrote (λ wrote. ok_and c.with_form-made.result wrote c.with_form-made.ensures.made (λ ends w is.
    subst (λ (made : Ends). WritesEnds c.args.source c.args.opened.edge.other_at made (g.S.Store.state c.args.store.now) (g.S.Store.state c.put_ends.new.store)) is w))
