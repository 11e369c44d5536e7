use Rattle.std.proofs.Common.{sym, ◌∙◌}
use Rattle.meta_tables.proofs.Naming.{old_label, label_made, label_holder}
use Rattle.meta_tables.proofs.names.with_label.Goals as goal

pub returns-then-has_label-clause-made : goal.returns-then-has_label-clause-made
returns-then-has_label-clause-made c = old_label c.args.meta c.args.name.now (sym c.has_label.ensures ∙ c.if-has_label.true)

pub returns-clause-made : goal.returns-clause-made
returns-clause-made c = label_made c.args.meta c.args.name.now _ (sym c.has_label.ensures ∙ c.if-has_label.false) c.in_ok-push.ensures.ok

pub returns-clause-is : goal.returns-clause-is
returns-clause-is c = label_holder c.args.meta c.args.name.now _ (sym c.has_label.ensures ∙ c.if-has_label.false) c.in_ok-push.ensures.ok c.bytes.ensures.name c.requires
