use Rattle.std.proofs.Common.{subst}
use Rattle.holder_codec.specs.declared.meta_holder.MetaHolder.{MetaHolder}
use Rattle.held_objects.proofs.Changes.{tells}
use Rattle.meta_tables.specs.Names.{IsTypeOf}
use Rattle.meta_tables.proofs.Naming.{type_known, meta_same}
use Rattle.meta_tables.proofs.calls.prop.prop.Goals as goal

pub returns-clause-found : goal.returns-clause-found
returns-clause-found g c =
    tells (λ meta. meta) (λ _. Unit {0}) meta_same c.in_ok-meta.ensures.found c.requires.names (λ meta _ same. subst (IsTypeOf c.args.name.now c.type_of.result) same c.type_of.ensures)

pub returns-clause-in_use : goal.returns-clause-in_use
returns-clause-in_use g c = type_known c.in_ok-meta.ensures.found c.requires.names c.args.name.now c.type_of.result c.type_of.ensures
