-- The calls on an edge, its labels and its properties.
use Rattle.std.specs.Prelude.{ℕ, ◌+◌, ◌-◌, ◌^◌, Bool, not, ◌&&◌, ◌||◌, List, [], ◌∷◌, ◌++◌, Option, Some, None, Ok, false, ◌==◌}
use Rattle.std.specs.Option.{option_map_or}
use Rattle.std.specs.List.{filter}
use Rattle.std.specs.FinMap.{put}
use Rattle.gdi_kinds.specs.declared.value.Value.{Value}
use Rattle.gdi_kinds.specs.declared.reply.Reply.TheVariants as reply
use Rattle.gdi_kinds.specs.Constraint.{kind_of, same_kind}
use Rattle.graph_model.specs.Maps.{at, is_there, with_at, without, has, add, take_out}
use Rattle.graph_model.specs.Graph.{Name, Graph, Edge, edge_cmp, vertex_at, is_vertex, edge_at, is_heavy}
use Rattle.graph_model.specs.Lookups.{label_number, type_number, kind_at, is_marked, values_at, names_of, lines_of_props}
use Rattle.graph_model.specs.Sizes.{words_of_vertex, words_of_edge, is_too_large}
use Rattle.graph_model.specs.Steps.{◌>>=◌, Step, Answer, found_or, refused_if, leaves}
use Rattle.graph_model.specs.VertexCalls.{with_vertex, reply_of_values}

-- a source gives out the ordinals below this one
abbrev pub ordinals_end : ℕ
ordinals_end = 2 ^ 64 - 1

-- the graph with this in the place of an edge
abbrev pub with_edge : Graph → ℕ → ℕ → Edge → Graph
with_edge g source ordinal edge = record g { edges = put edge_cmp (record { source = source; ordinal = ordinal }) edge g.edges }

-- the number of a label that may be named
abbrev pub label_if_named : Graph → Option Name → Step (List ℕ)
label_if_named g None = Ok []
label_if_named g (Some name) = do
  label ← found_or reply.NoLabel (label_number g name)
  Ok (label ∷ [])

-- whether the vertex's object would pass the limit
abbrev pub is_vertex_too_large : Graph → ℕ → Bool
is_vertex_too_large g id = option_map_or (λ vertex. is_too_large (words_of_vertex g id vertex)) (vertex_at g id) false

-- the edge, or the refusal: the source is looked up first
abbrev pub edge_or_refusal : Graph → ℕ → ℕ → Step Edge
edge_or_refusal g source ordinal = do
  _ ← refused_if (not (is_vertex g source)) (reply.NoVertex source)
  found_or reply.NoEdge (edge_at g source ordinal)

-- the edge has the next ordinal of its source, whether it is directed or not
abbrev pub make_edge : Bool → Graph → ℕ → ℕ → Option Name → Step Answer
make_edge undirected g source target name = do
  labels ← label_if_named g name
  vertex ← found_or (reply.NoVertex source) (vertex_at g source)
  _ ← refused_if (not (is_vertex g target)) (reply.NoVertex target)
  let raised = with_vertex g source (record vertex { next = vertex.next + 1 })
  let changed = with_edge raised source vertex.next (record { target = target; undirected = undirected; labels = labels; props = [] })
  _ ← refused_if (vertex.next == ordinals_end || is_vertex_too_large changed source || is_vertex_too_large changed target) reply.TooLarge
  leaves changed (reply.EdgeIs source vertex.next)

abbrev pub cut : Graph → ℕ → ℕ → Step Answer
cut g source ordinal = do
  _ ← edge_or_refusal g source ordinal
  leaves (record g { edges = filter (λ entry. not (entry.0.source == source && entry.0.ordinal == ordinal)) g.edges }) reply.Done

abbrev pub target : Graph → ℕ → ℕ → Step Answer
target g source ordinal = do
  edge ← edge_or_refusal g source ordinal
  leaves g (reply.Ids (edge.target ∷ []))

-- a light edge has no object of its own, and its records stay as long as they were
abbrev pub is_edge_too_large : Edge → Bool
is_edge_too_large edge = is_heavy edge && is_too_large (words_of_edge edge)

abbrev pub tag_edge : Graph → ℕ → ℕ → Name → Step Answer
tag_edge g source ordinal name = do
  label ← found_or reply.NoLabel (label_number g name)
  edge ← edge_or_refusal g source ordinal
  _ ← refused_if (has edge.labels label) reply.HasLabel
  let tagged : Edge = record edge { labels = add label edge.labels }
  _ ← refused_if (is_edge_too_large tagged) reply.TooLarge
  leaves (with_edge g source ordinal tagged) reply.Done

abbrev pub untag_edge : Graph → ℕ → ℕ → Name → Step Answer
untag_edge g source ordinal name = do
  label ← found_or reply.NoLabel (label_number g name)
  edge ← edge_or_refusal g source ordinal
  _ ← refused_if (not (has edge.labels label)) reply.LacksLabel
  leaves (with_edge g source ordinal (record edge { labels = take_out label edge.labels })) reply.Done

abbrev pub edge_tags : Graph → ℕ → ℕ → Step Answer
edge_tags g source ordinal = do
  edge ← edge_or_refusal g source ordinal
  leaves g (reply.Labels (names_of g edge.labels))

abbrev pub set_edge_prop : Graph → ℕ → ℕ → Name → Value → Step Answer
set_edge_prop g source ordinal name value = do
  type ← found_or reply.NoType (type_number g name)
  edge ← edge_or_refusal g source ordinal
  _ ← refused_if (not (same_kind (kind_of value) (kind_at g type))) reply.WrongKind
  let set : Edge = record edge { props = with_at edge.props type (value ∷ []) }
  _ ← refused_if (is_edge_too_large set) reply.TooLarge
  leaves (with_edge g source ordinal set) reply.Done

abbrev pub add_edge_prop : Graph → ℕ → ℕ → Name → Value → Step Answer
add_edge_prop g source ordinal name value = do
  type ← found_or reply.NoType (type_number g name)
  edge ← edge_or_refusal g source ordinal
  _ ← refused_if (not (same_kind (kind_of value) (kind_at g type))) reply.WrongKind
  _ ← refused_if (not (is_marked g type)) reply.NotMany
  let longer : Edge = record edge { props = with_at edge.props type (values_at edge.props type ++ value ∷ []) }
  _ ← refused_if (is_edge_too_large longer) reply.TooLarge
  leaves (with_edge g source ordinal longer) reply.Done

abbrev pub get_edge_prop : Graph → ℕ → ℕ → Name → Step Answer
get_edge_prop g source ordinal name = do
  type ← found_or reply.NoType (type_number g name)
  edge ← edge_or_refusal g source ordinal
  values ← found_or reply.NoProp (at edge.props type)
  leaves g (reply_of_values (is_marked g type) values)

abbrev pub unset_edge_prop : Graph → ℕ → ℕ → Name → Step Answer
unset_edge_prop g source ordinal name = do
  type ← found_or reply.NoType (type_number g name)
  edge ← edge_or_refusal g source ordinal
  _ ← refused_if (not (is_there edge.props type)) reply.NoProp
  leaves (with_edge g source ordinal (record edge { props = without edge.props type })) reply.Done

abbrev pub edge_props : Graph → ℕ → ℕ → Step Answer
edge_props g source ordinal = do
  edge ← edge_or_refusal g source ordinal
  leaves g (reply.Props (lines_of_props g edge.props))
