use Rattle.std.proofs.Common.{ap, ◌∙◌}
use Rattle.held_objects.proofs.Changes.{tells}
use Rattle.meta_tables.specs.Names.{label_number}
use Rattle.meta_tables.proofs.Naming.{label_known, meta_same}
use Rattle.meta_tables.proofs.calls.label.label.Goals as goal

pub returns-clause-found : goal.returns-clause-found
returns-clause-found g c =
    tells (λ meta. meta) (λ _. Unit {0}) meta_same c.in_ok-meta.ensures.found c.requires.names (λ meta _ same. c.label_number.ensures ∙ ap (label_number c.args.name.now) same)

pub returns-clause-in_use : goal.returns-clause-in_use
returns-clause-in_use g c = label_known c.in_ok-meta.ensures.found c.requires.names c.args.name.now c.label_number.result c.label_number.ensures
