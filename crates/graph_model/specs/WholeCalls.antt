-- The calls on the whole graph. None changes it.
use Rattle.std.specs.Prelude.{ℕ, Bool, false, not, List, map, length, count_by, Option, nat_le, ◌==◌}
use Rattle.std.specs.Option.{option_map, option_map_or}
use Rattle.std.specs.List.{filter, filter_map}
use Rattle.gdi_kinds.specs.declared.constraint.Atom.{Atom}
use Rattle.gdi_kinds.specs.declared.pair.Pair.{Pair}
use Rattle.gdi_kinds.specs.declared.reply.Reply.TheVariants as reply
use Rattle.graph_model.specs.Maps.{keys}
use Rattle.graph_model.specs.Graph.{Name, Graph, is_vertex}
use Rattle.graph_model.specs.Steps.{◌>>=◌, Step, Answer, refused_if, leaves}
use Rattle.graph_model.specs.EdgeCalls.{label_if_named}
use Rattle.graph_model.specs.ListCalls.{atoms_of, names_known, kinds_agree, vertices_where}
use Rattle.graph_model.specs.Walks.{level_of, component_of}

-- the vertices of level at most `depth`, rising
abbrev pub hood : Graph → ℕ → ℕ → Step Answer
hood g id depth = do
  _ ← refused_if (not (is_vertex g id)) (reply.NoVertex id)
  leaves g (reply.Ids (filter (λ j. option_map_or (λ level. nat_le level depth) (level_of g id j) false) (keys g.vertices)))

-- each vertex that is reached, with its level
abbrev pub levels : Graph → ℕ → Step Answer
levels g id = do
  _ ← refused_if (not (is_vertex g id)) (reply.NoVertex id)
  leaves g (reply.Levels (filter_map (λ j. option_map (λ level. record { id = j; number = level }) (level_of g id j)) (keys g.vertices)))

abbrev pub is_in_component : Graph → ℕ → ℕ → Bool
is_in_component g least j = option_map_or (λ i. i == least) (component_of g j) false

-- a component by its least identifier, with its size
abbrev pub part_of : Graph → ℕ → Pair
part_of g least = record { id = least; number = count_by (is_in_component g least) (keys g.vertices) }

-- each component, by rising least identifier
abbrev pub parts : Graph → Step Answer
parts g = leaves g (reply.Parts (map (part_of g) (filter (λ j. is_in_component g j j) (keys g.vertices))))

abbrev pub scan : Graph → Option Name → Option (List (List Atom)) → Step Answer
scan g name test = do
  labels ← label_if_named g name
  _ ← names_known g (atoms_of test)
  _ ← kinds_agree g (atoms_of test)
  leaves g (reply.Ids (vertices_where g labels test))

abbrev pub vertices : Graph → Step Answer
vertices g = leaves g (reply.Count (length g.vertices))

abbrev pub arcs : Graph → Step Answer
arcs g = leaves g (reply.Count (length g.edges))
