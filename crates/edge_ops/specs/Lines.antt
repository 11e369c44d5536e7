-- The edges of a vertex as lines, from its records.
use Rattle.std.specs.Prelude.{ℕ, Bool, true, not, ◌&&◌, List, map, if◌then◌else◌}
use Rattle.std.specs.List.{filter}
use Rattle.gdi_kinds.specs.declared.call.Dir.{Dir}
use Rattle.gdi_kinds.specs.declared.call.Dir.TheVariants.{Outward, Inward, Undirected, Either}
use Rattle.gdi_kinds.specs.declared.edge_line.EdgeLine.{EdgeLine}
use Rattle.holder_codec.specs.declared.edge_record.EdgeRecord.{EdgeRecord}

-- an undirected edge is inward at neither end
abbrev pub line_of : ℕ → EdgeRecord → EdgeLine
line_of id edge = record {
  inward = edge.inward && not edge.undirected;
  undirected = edge.undirected;
  source = if edge.inward then edge.other else id;
  ordinal = edge.ordinal;
  target = if edge.inward then id else edge.other;
}

abbrev pub is_listed : Dir → EdgeRecord → Bool
is_listed Outward edge = not edge.undirected && not edge.inward
is_listed Inward edge = not edge.undirected && edge.inward
is_listed Undirected edge = edge.undirected
is_listed Either edge = true

abbrev pub lines_of : ℕ → Dir → List EdgeRecord → List EdgeLine
lines_of id dir edges = map (line_of id) (filter (is_listed dir) edges)
