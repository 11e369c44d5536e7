use Rattle.std.proofs.Common.{◌≡◌, Some, sym, ap, ◌∙◌, arith}
use Rattle.std.specs.List.{position}
use Rattle.std.specs.Str.{bytes_eq}
use Rattle.meta_tables.specs.Names.{label_number}
use Rattle.meta_tables.proofs.Naming.{place_is, found_there, few_labels}
use Rattle.meta_tables.proofs.names.label_number.Goals as goal

pub overflow_cast-result : goal.overflow_cast-result
overflow_cast-result c =
    let there = sym (place_is (bytes_eq c.args.name.now) c.args.meta.now.labels) ∙ (ap (position (bytes_eq c.args.name.now)) (sym c.as_slice.ensures) ∙ (sym c.label_position.ensures ∙ c.in-Some.is)) in
    omega (arith, (found_there (bytes_eq c.args.name.now) c.args.meta.now.labels c.in-Some.place there).0, few_labels c.args.meta.now c.requires)

pub returns-in-Some : goal.returns-in-Some
returns-in-Some c =
    sym c.in-Some.is ∙ (c.label_position.ensures ∙ (ap (position (bytes_eq c.args.name.now)) c.as_slice.ensures ∙ place_is (bytes_eq c.args.name.now) c.args.meta.now.labels))

pub returns-in-None : goal.returns-in-None
returns-in-None c =
    sym c.in-None.is ∙ (c.label_position.ensures ∙ (ap (position (bytes_eq c.args.name.now)) c.as_slice.ensures ∙ place_is (bytes_eq c.args.name.now) c.args.meta.now.labels))
