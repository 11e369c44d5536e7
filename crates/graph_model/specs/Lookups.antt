-- Looking things up in a graph by their names, and showing them by their names.
use Rattle.std.specs.Prelude.{ℕ, Bool, false, not, List, [], ◌++◌, map, Option}
use Rattle.std.specs.Option.{option_map_or, unwrap_or}
use Rattle.std.specs.List.{filter, flat_map}
use Rattle.std.specs.Str.{bytes_eq}
use Rattle.gdi_kinds.specs.declared.value.Value.{Value}
use Rattle.gdi_kinds.specs.declared.value.Kind.{Kind}
use Rattle.gdi_kinds.specs.declared.value.Kind.TheVariants as kind
use Rattle.gdi_kinds.specs.declared.prop_line.PropLine.{PropLine}
use Rattle.gdi_kinds.specs.declared.edge_line.EdgeLine.{EdgeLine}
use Rattle.gdi_kinds.specs.declared.call.Dir.{Dir}
use Rattle.gdi_kinds.specs.declared.call.Dir.TheVariants.{Outward, Inward, Undirected, Either}
use Rattle.graph_model.specs.Maps.{Map, at, place_where, item_at}
use Rattle.graph_model.specs.Graph.{Name, Props, Graph, Edge, EdgeKey, edges_from, edges_to, directed, undirected}

-- the number of a label
abbrev pub label_number : Graph → Name → Option ℕ
label_number g name = place_where (bytes_eq name) g.labels

abbrev pub type_number : Graph → Name → Option ℕ
type_number g name = place_where (λ type. bytes_eq name type.name) g.types

-- the kind of a type by its number; an unknown one counts as of integers
abbrev pub kind_at : Graph → ℕ → Kind
kind_at g n = option_map_or (λ type. type.kind) (item_at g.types n) kind.Int

-- whether a type is marked
abbrev pub is_marked : Graph → ℕ → Bool
is_marked g n = option_map_or (λ type. type.many) (item_at g.types n) false

-- the values of a property, none where it is absent
abbrev pub values_at : Props → ℕ → List Value
values_at props n = unwrap_or (at props n) []

-- the names of a set of labels, by number
abbrev pub names_of : Graph → List ℕ → List Name
names_of g labels = map (λ n. unwrap_or (item_at g.labels n) []) labels

-- a line for each value, by the type's number and then in order
abbrev pub lines_of_values : Name → List Value → List PropLine
lines_of_values name values = map (λ value. record { name = name; value = value }) values

abbrev pub lines_of_props : Graph → Props → List PropLine
lines_of_props g props =
    flat_map (λ entry. lines_of_values (option_map_or (λ type. type.name) (item_at g.types entry.0) []) entry.1) props

-- an edge as its source has it, and as its target does. What is undirected is inward at neither
abbrev pub line_at_source : EdgeKey × Edge → EdgeLine
line_at_source entry = record {
  inward = false;
  undirected = entry.1.undirected;
  source = entry.0.source;
  ordinal = entry.0.ordinal;
  target = entry.1.target;
}

abbrev pub line_at_target : EdgeKey × Edge → EdgeLine
line_at_target entry = record {
  inward = not entry.1.undirected;
  undirected = entry.1.undirected;
  source = entry.0.source;
  ordinal = entry.0.ordinal;
  target = entry.1.target;
}

abbrev pub out_lines : Map EdgeKey Edge → List EdgeLine
out_lines edges = map line_at_source edges

abbrev pub in_lines : Map EdgeKey Edge → List EdgeLine
in_lines edges = map line_at_target edges

-- The edges at a vertex that pass, first those whose source it is. A self loop is one of either, so it stands twice
-- where both are asked for.
abbrev pub lines_at : Graph → (EdgeKey × Edge → Bool) → ℕ → Dir → List EdgeLine
lines_at g passes id Outward = out_lines (filter passes (directed (edges_from g id)))
lines_at g passes id Inward = in_lines (filter passes (directed (edges_to g id)))
lines_at g passes id Undirected =
    out_lines (filter passes (undirected (edges_from g id))) ++ in_lines (filter passes (undirected (edges_to g id)))
lines_at g passes id Either =
    out_lines (filter passes (edges_from g id)) ++ in_lines (filter passes (edges_to g id))
