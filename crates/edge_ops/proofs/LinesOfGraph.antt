-- The lines of a vertex' records are the graph's.
use Rattle.std.proofs.Common.{◌≡◌, ◌∙◌, ℕ, true, false, cond, ◌&&◌, List, [], ◌∷◌, ◌++◌, map, refl, sym, ap, append-nil}
use Rattle.std.specs.Prelude.{not, ◌==◌}
use Rattle.std.specs.List.{AllByRecursion, filter}
use Rattle.gdi_kinds.specs.declared.call.Dir.{Dir}
use Rattle.gdi_kinds.specs.declared.call.Dir.TheVariants.{Outward, Inward, Undirected, Either}
use Rattle.gdi_kinds.specs.declared.edge_line.EdgeLine.{EdgeLine}
use Rattle.graph_model.specs.Graph.{Graph, Edge, EdgeKey, directed, edges_from, edges_to, undirected}
use Rattle.graph_model.specs.Lookups.{in_lines, line_at_source, line_at_target, lines_at, out_lines}
use Rattle.graph_model.specs.Maps.{Map}
use Rattle.graph_model.proofs.Entries.{All-filter}
use Rattle.std.proofs.lemmas.Bool.{eqb-true}
use Rattle.holder_codec.specs.declared.edge_record.EdgeRecord.{EdgeRecord}
use Rattle.holder_codec.specs.Represents.{EdgeObjects, VertexObjects, record_at_source, record_at_target, records_of}
use Rattle.holder_codec.proofs.Maps.{All-always}
use Rattle.edge_ops.specs.Lines.{is_listed, line_of, lines_of}

lines-append : (id : ℕ) (dir : Dir) (one other : List EdgeRecord) → lines_of id dir (one ++ other) ≡ lines_of id dir one ++ lines_of id dir other
lines-append id dir [] other = refl
lines-append id dir (e ∷ es) other =
    let rest = lines-append id dir es other in
    elim (is_listed dir e) as (λ b. map (line_of id) (cond b (e ∷ filter (is_listed dir) (es ++ other)) (filter (is_listed dir) (es ++ other)))
    ≡ map (line_of id) (cond b (e ∷ filter (is_listed dir) es) (filter (is_listed dir) es)) ++ lines_of id dir other) [
      | true ↦ ap (λ (more : List EdgeLine). line_of id e ∷ more) rest
      | false ↦ rest
    ]

all_pass : {X : Type 0} (xs : List X) → filter (λ _. true) xs ≡ xs
all_pass [] = refl
all_pass (x ∷ xs) = ap (λ (more : List _). x ∷ more) (all_pass xs)

-- the edges from the vertex that have such a line, and those to it
abbrev out_part : Dir → Map EdgeKey Edge → List EdgeLine
out_part Outward es = out_lines (directed es)
out_part Inward es = []
out_part Undirected es = out_lines (undirected es)
out_part Either es = out_lines es

abbrev in_part : Dir → Map EdgeKey Edge → List EdgeLine
in_part Outward es = []
in_part Inward es = in_lines (directed es)
in_part Undirected es = in_lines (undirected es)
in_part Either es = in_lines es

module _ (vertices : VertexObjects) (objects : EdgeObjects) (id : ℕ) where
  abbrev at_source : EdgeKey × Edge → EdgeRecord
  at_source entry = record_at_source vertices objects entry.0 entry.1

  abbrev at_target : EdgeKey × Edge → EdgeRecord
  at_target entry = record_at_target vertices objects entry.0 entry.1

  source_line : (entry : EdgeKey × Edge) → entry.0.source ≡ id → line_of id (at_source entry) ≡ line_at_source entry
  source_line entry is i = record { inward = false; undirected = entry.1.undirected; source = sym is i; ordinal = entry.0.ordinal; target = entry.1.target }

  target_line : (entry : EdgeKey × Edge) → entry.1.target ≡ id → line_of id (at_target entry) ≡ line_at_target entry
  target_line entry is i = record { inward = not entry.1.undirected; undirected = entry.1.undirected; source = entry.0.source; ordinal = entry.0.ordinal; target = sym is i }

  from_are : (dir : Dir) (es : Map EdgeKey Edge) → AllByRecursion (λ entry. entry.0.source ≡ id) es → lines_of id dir (map at_source es) ≡ out_part dir es
  from_are Outward [] all = refl
  from_are Inward [] all = refl
  from_are Undirected [] all = refl
  from_are Either [] all = refl
  from_are Outward (e ∷ es) all =
      let rest = from_are Outward es all.1 in
      elim e.1.undirected as (λ u. map (line_of id) (cond (not u && true) (at_source e ∷ filter (is_listed Outward) (map at_source es)) (filter (is_listed Outward) (map at_source es))) ≡ map line_at_source (cond (not u) (e ∷ directed es) (directed es))) [
        | true ↦ rest
        | false ↦ λ i. source_line e all.0 i ∷ rest i
      ]
  from_are Inward (e ∷ es) all =
      let rest = from_are Inward es all.1 in
      elim e.1.undirected as (λ u. map (line_of id) (cond (not u && false) (at_source e ∷ filter (is_listed Inward) (map at_source es)) (filter (is_listed Inward) (map at_source es))) ≡ []) [ true ↦ rest | false ↦ rest ]
  from_are Undirected (e ∷ es) all =
      let rest = from_are Undirected es all.1 in
      elim e.1.undirected as (λ u. map (line_of id) (cond u (at_source e ∷ filter (is_listed Undirected) (map at_source es)) (filter (is_listed Undirected) (map at_source es))) ≡ map line_at_source (cond u (e ∷ undirected es) (undirected es))) [
        | true ↦ λ i. source_line e all.0 i ∷ rest i
        | false ↦ rest
      ]
  from_are Either (e ∷ es) all = let rest = from_are Either es all.1 in λ i. source_line e all.0 i ∷ rest i

  to_are : (dir : Dir) (es : Map EdgeKey Edge) → AllByRecursion (λ entry. entry.1.target ≡ id) es → lines_of id dir (map at_target es) ≡ in_part dir es
  to_are Outward [] all = refl
  to_are Inward [] all = refl
  to_are Undirected [] all = refl
  to_are Either [] all = refl
  to_are Outward (e ∷ es) all =
      let rest = to_are Outward es all.1 in
      elim e.1.undirected as (λ u. map (line_of id) (cond (not u && false) (at_target e ∷ filter (is_listed Outward) (map at_target es)) (filter (is_listed Outward) (map at_target es))) ≡ []) [ true ↦ rest | false ↦ rest ]
  to_are Inward (e ∷ es) all =
      let rest = to_are Inward es all.1 in
      elim e.1.undirected as (λ u. map (line_of id) (cond (not u && true) (at_target e ∷ filter (is_listed Inward) (map at_target es)) (filter (is_listed Inward) (map at_target es))) ≡ map line_at_target (cond (not u) (e ∷ directed es) (directed es))) [
        | true ↦ rest
        | false ↦ λ i. target_line e all.0 i ∷ rest i
      ]
  to_are Undirected (e ∷ es) all =
      let rest = to_are Undirected es all.1 in
      elim e.1.undirected as (λ u. map (line_of id) (cond u (at_target e ∷ filter (is_listed Undirected) (map at_target es)) (filter (is_listed Undirected) (map at_target es))) ≡ map line_at_target (cond u (e ∷ undirected es) (undirected es))) [
        | true ↦ λ i. target_line e all.0 i ∷ rest i
        | false ↦ rest
      ]
  to_are Either (e ∷ es) all = let rest = to_are Either es all.1 in λ i. target_line e all.0 i ∷ rest i

-- both parts are the graph's lines
parts_are : (g : Graph) (id : ℕ) (dir : Dir) → out_part dir (edges_from g id) ++ in_part dir (edges_to g id) ≡ lines_at g (λ _. true) id dir
parts_are g id Outward = append-nil (out_lines (directed (edges_from g id))) ∙ sym (ap out_lines (all_pass (directed (edges_from g id))))
parts_are g id Inward = sym (ap in_lines (all_pass (directed (edges_to g id))))
parts_are g id Undirected = λ i. out_lines (sym (all_pass (undirected (edges_from g id))) i) ++ in_lines (sym (all_pass (undirected (edges_to g id))) i)
parts_are g id Either = λ i. out_lines (sym (all_pass (edges_from g id)) i) ++ in_lines (sym (all_pass (edges_to g id)) i)

pub lines_are : (g : Graph) (vertices : VertexObjects) (objects : EdgeObjects) (id : ℕ) (dir : Dir) → lines_of id dir (records_of g vertices objects id) ≡ lines_at g (λ _. true) id dir
lines_are g vertices objects id dir =
    let from = All-filter (λ _. Unit {0}) (λ entry. entry.0.source ≡ id) (λ entry. entry.0.source == id) (λ entry is _. eqb-true entry.0.source id is) g.edges (All-always (λ _. tt) g.edges) in
    let to = All-filter (λ _. Unit {0}) (λ entry. entry.1.target ≡ id) (λ entry. entry.1.target == id) (λ entry is _. eqb-true entry.1.target id is) g.edges (All-always (λ _. tt) g.edges) in
    lines-append id dir (map (at_source vertices objects id) (edges_from g id)) (map (at_target vertices objects id) (edges_to g id))
    ∙ ((λ i. from_are vertices objects id dir (edges_from g id) from i ++ to_are vertices objects id dir (edges_to g id) to i) ∙ parts_are g id dir)
