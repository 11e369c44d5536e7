-- The calls that make labels and property types.
use Rattle.std.specs.Prelude.{Bool, [], ◌∷◌, ◌++◌, is_some}
use Rattle.gdi_kinds.specs.declared.value.Kind.{Kind}
use Rattle.gdi_kinds.specs.declared.reply.Reply.TheVariants as reply
use Rattle.graph_model.specs.Graph.{Name, Graph}
use Rattle.graph_model.specs.Lookups.{label_number, type_number}
use Rattle.graph_model.specs.Sizes.{words_of_names, is_too_large}
use Rattle.graph_model.specs.Steps.{◌>>=◌, Step, Answer, refused_if, leaves}

-- the label is the last one
abbrev pub new_label : Graph → Name → Step Answer
new_label g name =
    let changed : Graph = record g { labels = g.labels ++ name ∷ [] } in
    do
      _ ← refused_if (is_some (label_number g name)) reply.Exists
      _ ← refused_if (is_too_large (words_of_names changed)) reply.TooLarge
      leaves changed reply.Done

-- the type is the last one
abbrev pub new_type : Graph → Name → Kind → Bool → Step Answer
new_type g name kind many =
    let changed : Graph = record g { types = g.types ++ (record { name = name; kind = kind; many = many }) ∷ [] } in
    do
      _ ← refused_if (is_some (type_number g name)) reply.Exists
      _ ← refused_if (is_too_large (words_of_names changed)) reply.TooLarge
      leaves changed reply.Done
