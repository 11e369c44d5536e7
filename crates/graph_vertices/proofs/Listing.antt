-- The ends of edges at a vertex, on a store of a graph.
use Rattle.std.proofs.Common.{◌≡◌, ◌∙◌, ℕ, suc, ◌-◌, ◌<◌, ◌≤◌, ◌==◌, Bool, true, false, cond, not, List, [], ◌∷◌, Option, Some, None, drop, get_or, length, map, refl, sym, ap, arith}
use Rattle.std.specs.Prelude.{is_some}
use Rattle.std.specs.BTreeSet.{insert_key}
use Rattle.std.specs.FinMap.Entries.{by_order}
use Rattle.std.specs.List.{filter}
use Rattle.std.specs.Ordering.{match_ordering, nat_cmp}
use Rattle.std.specs.declared.cmp.Ordering.TheVariants.{Equal, Greater, Less}
use Rattle.std.proofs.Math.Seq.{drop-cons}
use Rattle.std.proofs.lemmas.Bool.{eqb-true}
use Rattle.std.proofs.lemmas.List.{length-map}
use Rattle.gdi_kinds.specs.declared.call.Call.TheVariants.{Degree, Near}
use Rattle.gdi_kinds.specs.declared.call.Dir.{Dir}
use Rattle.gdi_kinds.specs.declared.reply.Reply.{Reply}
use Rattle.gdi_kinds.specs.declared.reply.Reply.TheVariants.{Count, Ids, NoVertex}
use Rattle.rma_layout.specs.Shape.{Shape}
use Rattle.graph_model.specs.Calls.{steps_of}
use Rattle.graph_model.specs.Graph.{Graph, Vertex, vertex_at}
use Rattle.graph_model.specs.ListCalls.{every_line, other_end}
use Rattle.graph_model.specs.Maps.{add, set_of}
use Rattle.graph_model.specs.Steps.{◌>>=◌, leaves, refused_if}
use Rattle.holder_codec.specs.declared.edge_record.EdgeRecord.{EdgeRecord}
use Rattle.holder_codec.specs.declared.vertex_holder.VertexHolder.{VertexHolder}
use Rattle.holder_codec.specs.Represents.{EdgeObjects, VertexObjects, holder_of, records_of}
use Rattle.edge_ops.specs.Lines.{is_listed, line_of}
use Rattle.edge_ops.proofs.LinesOfGraph.{lines_are}
use Rattle.graph_vertices.proofs.Showing.{ShowsVertex}
use Rattle.graph_vertices.proofs.Values.{equal_is}

-- a call that asks first whether there is a vertex
asks_first : (id : ℕ) (show : Graph → Vertex → Reply) (g : Graph) (reply : Reply) (o : Option Vertex) → ((v : Vertex) → show g v ≡ reply)
    → refused_if (not (is_some o)) (NoVertex id) >>= (λ _. leaves g reply) ≡ ShowsVertex id show g o
asks_first id show g reply None shows = refl
asks_first id show g reply (Some v) shows = ap (leaves g) (sym (shows v))

abbrev pub degree_shown : ℕ → Dir → Graph → Vertex → Reply
degree_shown id dir g v = Count (length (every_line g id dir))

pub degree_steps : (shape : Shape) (id : ℕ) (dir : Dir) (g : Graph) → steps_of shape g (Degree id dir) ≡ ShowsVertex id (degree_shown id dir) g (vertex_at g id)
degree_steps shape id dir g = asks_first id (degree_shown id dir) g (Count (length (every_line g id dir))) (vertex_at g id) (λ _. refl)

-- as many records are listed as there are lines
pub degree_is : (g : Graph) (vertices : VertexObjects) (edges : EdgeObjects) (id : ℕ) (dir : Dir) (v : Vertex) {vertex : VertexHolder} {records : List EdgeRecord} {degree : ℕ} → vertex ≡ holder_of g vertices edges id v
    → records ≡ vertex.edges → degree ≡ length (filter (is_listed dir) records) → Count degree ≡ degree_shown id dir g v
degree_is g vertices edges id dir v {vertex} {records} {degree} held read is =
    let listed = filter (is_listed dir) (records_of g vertices edges id) in
    ap (λ (n : ℕ). Count n)
    (is ∙ (ap (λ es. length (filter (is_listed dir) es)) (read ∙ ap (λ (h : VertexHolder). h.edges) held) ∙ (sym (length-map listed (line_of id)) ∙ ap length (lines_are g vertices edges id dir))))

-- ---- the vertices at the other ends

insert_key-add : (k : ℕ) (ks : List ℕ) → insert_key nat_cmp ks k ≡ add k ks
insert_key-add k [] = refl
insert_key-add k (x ∷ xs) =
    elim (nat_cmp k x) as (λ order. match_ordering order (k ∷ x ∷ xs) (x ∷ xs) (x ∷ insert_key nat_cmp xs k) ≡ by_order order (k ∷ x ∷ xs) (x ∷ xs) (x ∷ add k xs)) [
      | Less ↦ refl
      | Equal ↦ refl
      | Greater ↦ ap (λ later. x ∷ later) (insert_key-add k xs)
    ]

abbrev pub ends_in : Dir → List EdgeRecord → List ℕ
ends_in dir records = set_of (map (λ edge. edge.other) (filter (is_listed dir) records))

-- one record more, from the last one on
pub ends_more : (dir : Dir) (records : List EdgeRecord) (left : ℕ) (edge : EdgeRecord) {ends more : List ℕ} → 0 < left → left ≤ length records → edge ≡ get_or records (left - 1) edge → true ≡ is_listed dir edge
    → ends ≡ ends_in dir (drop left records) → more ≡ insert_key nat_cmp ends edge.other → more ≡ ends_in dir (drop (left - 1) records)
ends_more dir records left edge {ends} {more} some within here listed so_far inserted =
    let next : suc (left - 1) ≡ left = omega (arith, some) in
    let dropped : drop (left - 1) records ≡ edge ∷ drop left records = drop-cons records (left - 1) edge (omega (arith, some, within)) ∙ (λ i. sym here i ∷ drop (next i) records) in
    inserted ∙ (insert_key-add edge.other ends ∙ (ap (add edge.other) so_far
    ∙ sym (ap (ends_in dir) dropped
    ∙ ap (λ b. set_of (map (λ (e : EdgeRecord). e.other) (cond b (edge ∷ filter (is_listed dir) (drop left records)) (filter (is_listed dir) (drop left records))))) (sym listed))))

abbrev pub near_shown : ℕ → Dir → Graph → Vertex → Reply
near_shown id dir g v = Ids (set_of (map (other_end id) (every_line g id dir)))

pub near_steps : (shape : Shape) (id : ℕ) (dir : Dir) (g : Graph) → steps_of shape g (Near id dir) ≡ ShowsVertex id (near_shown id dir) g (vertex_at g id)
near_steps shape id dir g = asks_first id (near_shown id dir) g (Ids (set_of (map (other_end id) (every_line g id dir)))) (vertex_at g id) (λ _. refl)

other_is : (id : ℕ) (edge : EdgeRecord) → other_end id (line_of id edge) ≡ edge.other
other_is id edge =
    elim edge.inward as (λ b. cond (cond b edge.other id == id) (cond b id edge.other) (cond b edge.other id) ≡ edge.other) [
      | true ↦ at_target (edge.other == id) refl
      | false ↦ ap (λ b. cond b edge.other id) (equal_is id id refl)
    ]
  where
    at_target : (b : Bool) → edge.other == id ≡ b → cond b id edge.other ≡ edge.other
    at_target true same = sym (eqb-true edge.other id same)
    at_target false apart = refl

others : (id : ℕ) (records : List EdgeRecord) → map (other_end id) (map (line_of id) records) ≡ map (λ edge. edge.other) records
others id [] = refl
others id (edge ∷ records) = λ i. other_is id edge i ∷ others id records i

pub near_is : (g : Graph) (vertices : VertexObjects) (edges : EdgeObjects) (id : ℕ) (dir : Dir) (v : Vertex) {vertex : VertexHolder} {records : List EdgeRecord} {ids : List ℕ} → vertex ≡ holder_of g vertices edges id v
    → records ≡ vertex.edges → ids ≡ ends_in dir records → Ids ids ≡ near_shown id dir g v
near_is g vertices edges id dir v {vertex} {records} {ids} held read is =
    let listed = filter (is_listed dir) (records_of g vertices edges id) in
    ap (λ (ns : List ℕ). Ids ns)
    (is ∙ (ap (ends_in dir) (read ∙ ap (λ (h : VertexHolder). h.edges) held) ∙ (ap set_of (sym (others id listed)) ∙ ap (λ ls. set_of (map (other_end id) ls)) (lines_are g vertices edges id dir))))
