use Rattle.std.proofs.Common.{◌≡◌, ◌∙◌, refl, sym, ap, subst, length, Some, ltb-true}
use Rattle.std.specs.Prelude.{slice_get}
use Rattle.holder_codec.specs.declared.type_line.TypeLine.{TypeLine}
use Rattle.holder_codec.specs.declared.meta_holder.MetaHolder.{MetaHolder}
use Rattle.held_objects.proofs.Changes.{tells, read_part, holds_any}
use Rattle.meta_tables.specs.Names.{is_label}
use Rattle.meta_tables.proofs.Naming.{meta_same}
use Rattle.meta_tables.proofs.calls.label_name.label_name.Goals as goal

pub read_names-requires-clause-names : goal.read_names-requires-clause-names
read_names-requires-clause-names g c = holds_any c.requires.in_use

pub at-requires : goal.at-requires
at-requires g c =
    let part = read_part (λ meta. meta) (λ _. Unit {0}) meta_same c.in_ok-meta.ensures.found c.requires.in_use in
    ltb-true c.args.number (length c.in_ok-meta.meta.labels) (ap (is_label c.args.number) part.2 ∙ part.3)

pub returns-clause-found : goal.returns-clause-found
returns-clause-found g c =
    tells (λ meta. meta) (λ _. Unit {0}) meta_same c.in_ok-meta.ensures.found (holds_any c.requires.in_use)
    (λ meta _ same. subst (λ (meta : MetaHolder). slice_get meta.labels c.args.number ≡ Some c.at.result.now) same c.at.ensures)
