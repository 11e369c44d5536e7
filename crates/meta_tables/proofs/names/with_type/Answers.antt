use Rattle.std.proofs.Common.{sym, ◌∙◌}
use Rattle.meta_tables.proofs.Naming.{old_type, type_made, type_holder}
use Rattle.meta_tables.proofs.names.with_type.Goals as goal

pub returns-then-has_type-clause-made : goal.returns-then-has_type-clause-made
returns-then-has_type-clause-made c = old_type c.args.meta c.args.line (sym c.has_type.ensures ∙ c.if-has_type.true)

pub returns-clause-made : goal.returns-clause-made
returns-clause-made c = type_made c.args.meta c.args.line _ (sym c.has_type.ensures ∙ c.if-has_type.false) c.in_ok-push.ensures.ok

pub returns-clause-is : goal.returns-clause-is
returns-clause-is c = type_holder c.args.meta c.args.line _ (sym c.has_type.ensures ∙ c.if-has_type.false) c.in_ok-push.ensures.ok c.bytes.ensures.name c.requires
