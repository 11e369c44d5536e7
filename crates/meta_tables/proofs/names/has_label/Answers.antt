use Rattle.std.proofs.Common.{ap, ◌∙◌}
use Rattle.std.specs.Prelude.{is_some}
use Rattle.std.specs.List.{position}
use Rattle.std.specs.Str.{bytes_eq}
use Rattle.meta_tables.proofs.Naming.{place_is}
use Rattle.meta_tables.proofs.names.has_label.Goals as goal

pub returns : goal.returns
returns c =
    c.is_some.ensures ∙ ap is_some (c.label_position.ensures ∙ (ap (position (bytes_eq c.args.name.now)) c.as_slice.ensures ∙ place_is (bytes_eq c.args.name.now) c.args.meta.now.labels))
