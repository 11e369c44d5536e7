-- The calls on a vertex, its labels and its properties.
use Rattle.std.specs.Prelude.{ℕ, Bool, true, false, not, ◌||◌, List, [], ◌∷◌, ◌++◌, if◌then◌else◌, ◌==◌}
use Rattle.std.specs.List.{filter}
use Rattle.gdi_kinds.specs.declared.value.Value.{Value}
use Rattle.gdi_kinds.specs.declared.reply.Reply.{Reply}
use Rattle.gdi_kinds.specs.declared.reply.Reply.TheVariants as reply
use Rattle.gdi_kinds.specs.Constraint.{kind_of, same_kind}
use Rattle.rma_layout.specs.Shape.{Shape}
use Rattle.rma_layout.specs.Placement.{bucket_of, slot_of}
use Rattle.graph_model.specs.Maps.{at, is_there, with_at, without, has, add, take_out}
use Rattle.graph_model.specs.Graph.{Name, Graph, Vertex, new_vertex, vertex_at, is_vertex}
use Rattle.graph_model.specs.Lookups.{label_number, type_number, kind_at, is_marked, values_at, names_of, lines_of_props}
use Rattle.graph_model.specs.Sizes.{words_of_vertex, words_of_bucket, words_of_slot, is_too_large}
use Rattle.graph_model.specs.Steps.{◌>>=◌, Step, Answer, found_or, refused_if, leaves}

-- the graph with this in the place of a vertex
abbrev pub with_vertex : Graph → ℕ → Vertex → Graph
with_vertex g id vertex = record g { vertices = with_at g.vertices id vertex }

abbrev pub make_vertex : Shape → Graph → ℕ → Step Answer
make_vertex shape g id =
    let changed = with_vertex g id new_vertex in
    do
      _ ← refused_if (is_vertex g id) reply.Exists
      _ ← refused_if (is_too_large (words_of_bucket shape changed (bucket_of shape id))) reply.TooLarge
      leaves changed reply.Done

abbrev pub has_vertex : Graph → ℕ → Step Answer
has_vertex g id = leaves g (if is_vertex g id then reply.Yes else reply.No)

-- every edge goes that has the vertex as its source or its target
abbrev pub drop_vertex : Graph → ℕ → Step Answer
drop_vertex g id = do
  _ ← refused_if (not (is_vertex g id)) (reply.NoVertex id)
  leaves (record g {
    vertices = without g.vertices id;
    edges = filter (λ entry. not (entry.0.source == id || entry.1.target == id)) g.edges;
  }) reply.Done

abbrev pub tag : Shape → Graph → ℕ → Name → Step Answer
tag shape g id name = do
  label ← found_or reply.NoLabel (label_number g name)
  vertex ← found_or (reply.NoVertex id) (vertex_at g id)
  _ ← refused_if (has vertex.labels label) reply.HasLabel
  let tagged : Vertex = record vertex { labels = add label vertex.labels }
  let changed = with_vertex g id tagged
  _ ← refused_if (is_too_large (words_of_vertex changed id tagged) || is_too_large (words_of_slot shape changed (slot_of shape label id))) reply.TooLarge
  leaves changed reply.Done

abbrev pub untag : Graph → ℕ → Name → Step Answer
untag g id name = do
  label ← found_or reply.NoLabel (label_number g name)
  vertex ← found_or (reply.NoVertex id) (vertex_at g id)
  _ ← refused_if (not (has vertex.labels label)) reply.LacksLabel
  leaves (with_vertex g id (record vertex { labels = take_out label vertex.labels })) reply.Done

abbrev pub tags : Graph → ℕ → Step Answer
tags g id = do
  vertex ← found_or (reply.NoVertex id) (vertex_at g id)
  leaves g (reply.Labels (names_of g vertex.labels))

-- the values that were there are replaced
abbrev pub set_prop : Graph → ℕ → Name → Value → Step Answer
set_prop g id name value = do
  type ← found_or reply.NoType (type_number g name)
  vertex ← found_or (reply.NoVertex id) (vertex_at g id)
  _ ← refused_if (not (same_kind (kind_of value) (kind_at g type))) reply.WrongKind
  let set : Vertex = record vertex { props = with_at vertex.props type (value ∷ []) }
  let changed = with_vertex g id set
  _ ← refused_if (is_too_large (words_of_vertex changed id set)) reply.TooLarge
  leaves changed reply.Done

-- the value is put behind those that are there
abbrev pub add_prop : Graph → ℕ → Name → Value → Step Answer
add_prop g id name value = do
  type ← found_or reply.NoType (type_number g name)
  vertex ← found_or (reply.NoVertex id) (vertex_at g id)
  _ ← refused_if (not (same_kind (kind_of value) (kind_at g type))) reply.WrongKind
  _ ← refused_if (not (is_marked g type)) reply.NotMany
  let longer : Vertex = record vertex { props = with_at vertex.props type (values_at vertex.props type ++ value ∷ []) }
  let changed = with_vertex g id longer
  _ ← refused_if (is_too_large (words_of_vertex changed id longer)) reply.TooLarge
  leaves changed reply.Done

-- the values of a marked type as a list, and else the one value that there is
abbrev pub reply_of_values : Bool → List Value → Reply
reply_of_values true values = reply.Values values
reply_of_values false [] = reply.NoProp
reply_of_values false (value ∷ values) = reply.Value value

abbrev pub get_prop : Graph → ℕ → Name → Step Answer
get_prop g id name = do
  type ← found_or reply.NoType (type_number g name)
  vertex ← found_or (reply.NoVertex id) (vertex_at g id)
  values ← found_or reply.NoProp (at vertex.props type)
  leaves g (reply_of_values (is_marked g type) values)

-- all its values go
abbrev pub unset_prop : Graph → ℕ → Name → Step Answer
unset_prop g id name = do
  type ← found_or reply.NoType (type_number g name)
  vertex ← found_or (reply.NoVertex id) (vertex_at g id)
  _ ← refused_if (not (is_there vertex.props type)) reply.NoProp
  leaves (with_vertex g id (record vertex { props = without vertex.props type })) reply.Done

abbrev pub props : Graph → ℕ → Step Answer
props g id = do
  vertex ← found_or (reply.NoVertex id) (vertex_at g id)
  leaves g (reply.Props (lines_of_props g vertex.props))
