-- What a vertex's object holds, and its one spelling.
use Rattle.std.specs.Prelude.{ℕ, ◌^◌, ◌<◌, IsTrue, List, [], ◌∷◌, ◌++◌, length, nat_lt}
use Rattle.std.specs.List.{flat_map, AllByRecursion}
use Rattle.holder_codec.specs.declared.vertex_holder.VertexHolder.{VertexHolder}
use Rattle.holder_codec.specs.Order.{is_rising}
use Rattle.holder_codec.specs.Values.{PropFits, prop_words, is_prop_before}
use Rattle.holder_codec.specs.Edges.{RecordFits, record_words, is_record_before}

abbrev pub label_words : ℕ → List ℕ
label_words label = label ∷ []

abbrev pub LabelFits : ℕ → Type 0
LabelFits label = label < 2 ^ 32

-- the identifier, the next ordinal, how many labels, properties and records there are, and these
abbrev pub vertex_words : VertexHolder → List ℕ
vertex_words vertex =
    vertex.id ∷ vertex.next ∷ length vertex.labels ∷ length vertex.props ∷ length vertex.edges
    ∷ (flat_map label_words vertex.labels ++ (flat_map prop_words vertex.props ++ flat_map record_words vertex.edges))

-- labels and properties by rising number, the records in their order, all of them in range
pub record IsVertexHolder (vertex : VertexHolder) : Type 0 where
  pub id : vertex.id < 2 ^ 64
  pub next : vertex.next < 2 ^ 64
  pub labels : AllByRecursion LabelFits vertex.labels
  pub labels_rise : IsTrue (is_rising nat_lt vertex.labels)
  pub props : AllByRecursion PropFits vertex.props
  pub props_rise : IsTrue (is_rising is_prop_before vertex.props)
  pub edges : AllByRecursion RecordFits vertex.edges
  pub edges_rise : IsTrue (is_rising is_record_before vertex.edges)
