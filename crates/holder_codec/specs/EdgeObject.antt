-- What the object of a heavy edge holds, and its one spelling.
use Rattle.std.specs.Prelude.{ℕ, ◌^◌, ◌<◌, IsTrue, List, ◌∷◌, ◌++◌, length, nat_lt}
use Rattle.std.specs.List.{flat_map, AllByRecursion}
use Rattle.holder_codec.specs.declared.edge_holder.EdgeHolder.{EdgeHolder}
use Rattle.holder_codec.specs.Order.{is_rising}
use Rattle.holder_codec.specs.Values.{PropFits, prop_words, is_prop_before}
use Rattle.holder_codec.specs.Vertex.{LabelFits, label_words}

-- the source, the ordinal, the target, how many labels and values of properties there are, and these
abbrev pub edge_object_words : EdgeHolder → List ℕ
edge_object_words edge =
    edge.source ∷ edge.ordinal ∷ edge.target ∷ length edge.labels ∷ length edge.props
    ∷ (flat_map label_words edge.labels ++ flat_map prop_words edge.props)

-- labels and properties by rising number, all of them in range
pub record IsEdgeHolder (edge : EdgeHolder) : Type 0 where
  pub source : edge.source < 2 ^ 64
  pub ordinal : edge.ordinal < 2 ^ 64
  pub target : edge.target < 2 ^ 64
  pub labels : AllByRecursion LabelFits edge.labels
  pub labels_rise : IsTrue (is_rising nat_lt edge.labels)
  pub props : AllByRecursion PropFits edge.props
  pub props_rise : IsTrue (is_rising is_prop_before edge.props)
