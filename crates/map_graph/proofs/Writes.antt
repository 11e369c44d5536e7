-- What is written at a vertex that the graph holds.
use Rattle.std.proofs.Common.{◌≡◌, ℕ, Bool, List, Option, Some, None, is_some, false, sym, ap, subst, ◌∙◌, arith}
use Rattle.std.specs.Prelude.{IsSome}
use Rattle.std.specs.List.Sorted.{IsStrictlySortedBy}
use Rattle.std.specs.Ordering.{nat_cmp}
use Rattle.std.specs.Map.{keys_of, lookup, set_value}
use Rattle.std.specs.BTreeMap.{is_at}
use Rattle.rma_layout.specs.Shape.{Shape}
use Rattle.graph_model.specs.Maps.{Map, at, with_at}
use Rattle.graph_model.specs.Graph.{Name, PropType, Vertex, Edge, EdgeKey, vertex_at}
use Rattle.graph_model.specs.VertexCalls.{with_vertex}
use Rattle.graph_model.proofs.Entries.{same_value, never}
use Rattle.std.specs.List.{AllByRecursion}
use Rattle.map_graph.proofs.Ends.{ends-written}
use Rattle.map_graph.specs.Plain.{Plain, graph_of, IsBetween, IsCounted, CountsBuckets, CountsSlots, kept_by}
use Rattle.graph_parts.specs.Counts.{labels_kept}
use Rattle.graph_parts.proofs.OrderedMaps.{lookup-at, set_value-with_at}
use Rattle.map_graph.proofs.Buckets.{buckets-written}
use Rattle.map_graph.proofs.Slots.{kept-changed}

module _ (shape : Shape) (labels : List Name) (types : List PropType) (vertices : Map ℕ Vertex) (edges : Map EdgeKey Edge) (now : Plain) (seen : (record { shape = shape; graph = graph_of labels types vertices edges }) ≡ now) (id : ℕ) where
  pub vertex-seen : (found : Option Vertex) → found ≡ lookup (is_at (nat_cmp id)) vertices → vertex_at now.graph id ≡ found
  vertex-seen found is = sym (is ∙ lookup-at id vertices ∙ ap (λ (p : Plain). vertex_at p.graph id) seen)

  pub vertex-missing : None ≡ lookup (is_at (nat_cmp id)) vertices → IsSome (vertex_at now.graph id) → ⊥
  vertex-missing none there = never (subst IsSome (vertex-seen None none) there)

  -- a change of what stands there
  pub written : (change : Vertex → Vertex) (v w u : Vertex) (after : Map ℕ Vertex) → IsStrictlySortedBy nat_cmp (keys_of vertices) → Some v ≡ lookup (is_at (nat_cmp id)) vertices
      → after ≡ set_value (is_at (nat_cmp id)) vertices w → w ≡ change v → vertex_at now.graph id ≡ Some u → graph_of labels types after edges ≡ with_vertex now.graph id (change u)
  written change v w u after rises there is changed at =
      let same : v ≡ u = same_value v u (sym (vertex-seen (Some v) there) ∙ at) in
      let put = is ∙ set_value-with_at id w vertices rises (ap is_some (sym (there ∙ lookup-at id vertices))) ∙ ap (λ x. with_at vertices id x) (changed ∙ ap change same) in
      ap (λ vs. graph_of labels types vs edges) put ∙ ap (λ (p : Plain). with_vertex p.graph id (change u)) seen

module _ (shape : Shape) (labels : List Name) (types : List PropType) (vertices : Map ℕ Vertex) (edges : Map EdgeKey Edge) (words : ℕ) (torn : Bool) (bucket_counts slot_counts : Map ℕ ℕ) (outgoing incoming : Map ℕ (List EdgeKey))
    (counted : IsCounted shape labels types vertices edges words torn bucket_counts slot_counts outgoing incoming) (id : ℕ) where
  -- what is written at a vertex leaves the counts of the buckets
  pub buckets-still : (w : Vertex) (after : Map ℕ Vertex) → after ≡ set_value (is_at (nat_cmp id)) vertices w → torn ≡ false → CountsBuckets shape after bucket_counts
  buckets-still w after is whole = subst (λ vs. CountsBuckets shape vs bucket_counts) (sym is) (buckets-written shape vertices bucket_counts (counted.buckets whole) (is_at (nat_cmp id)) w)

  -- and the ends of the edges
  pub ends-still : (v w : Vertex) (after : Map ℕ Vertex) → IsStrictlySortedBy nat_cmp (keys_of vertices) → Some v ≡ lookup (is_at (nat_cmp id)) vertices
      → after ≡ set_value (is_at (nat_cmp id)) vertices w → w.next ≡ v.next → torn ≡ false → AllByRecursion (IsBetween after) edges
  ends-still v w after rises there is next whole =
      let here : Some v ≡ at vertices id = there ∙ lookup-at id vertices in
      let put = is ∙ set_value-with_at id w vertices rises (ap is_some (sym here)) in
      subst (λ vs. AllByRecursion (IsBetween vs) edges) (sym put) (ends-written vertices id v w (sym here) (omega (arith, next)) edges (counted.ends whole))

  -- and where the labels stay, those of the index
  pub slots-still : (v w : Vertex) (after : Map ℕ Vertex) → IsStrictlySortedBy nat_cmp (keys_of vertices) → Some v ≡ lookup (is_at (nat_cmp id)) vertices
      → after ≡ set_value (is_at (nat_cmp id)) vertices w → w.labels ≡ v.labels → torn ≡ false → CountsSlots shape after slot_counts
  slots-still v w after rises there is same whole raw =
      let here : Some v ≡ at vertices id = there ∙ lookup-at id vertices in
      let put = is ∙ set_value-with_at id w vertices rises (ap is_some (sym here)) in
      omega (arith, counted.slots whole raw, ap (λ vs. kept_by shape vs raw) put, kept-changed shape vertices id rises v w raw (sym here), ap (λ ls. labels_kept shape id ls raw) same)

  pub still-counted : (v w : Vertex) (after : Map ℕ Vertex) → IsStrictlySortedBy nat_cmp (keys_of vertices) → Some v ≡ lookup (is_at (nat_cmp id)) vertices
      → after ≡ set_value (is_at (nat_cmp id)) vertices w → w.labels ≡ v.labels → w.next ≡ v.next → IsCounted shape labels types after edges words torn bucket_counts slot_counts outgoing incoming
  still-counted v w after rises there is same next = record {
    names = counted.names;
    buckets = buckets-still w after is;
    slots = slots-still v w after rises there is same;
    outgoing = counted.outgoing;
    incoming = counted.incoming;
    ends = ends-still v w after rises there is next;
  }
