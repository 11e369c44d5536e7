use Rattle.std.proofs.Common.{ap, ◌∙◌}
use Rattle.std.specs.Prelude.{is_some}
use Rattle.std.specs.List.{position}
use Rattle.std.specs.Str.{bytes_eq}
use Rattle.meta_tables.proofs.Naming.{place_is}
use Rattle.meta_tables.proofs.names.has_type.Goals as goal

pub returns : goal.returns
returns c =
    c.is_some.ensures ∙ ap is_some (c.type_position.ensures ∙ (ap (position (λ line. bytes_eq c.args.name.now line.name)) c.as_slice.ensures ∙ place_is (λ line. bytes_eq c.args.name.now line.name) c.args.meta.now.types))
