-- In a well-formed graph the labels and types of vertices and edges are known.
use Rattle.std.proofs.Common.{◌≡◌, ℕ, zero, suc, ◌<◌, List, [], ◌∷◌, length, Some, sym, ap, ◌∙◌, arith}
use Rattle.std.specs.Prelude.{IsSomeAnd}
use Rattle.std.specs.List.{AllByRecursion}
use Rattle.std.specs.Ordering.{nat_cmp}
use Rattle.std.specs.FinMap.{nat_cmp-IsAntisymmetric}
use Rattle.graph_model.specs.Maps.{item_at}
use Rattle.graph_model.specs.Graph.{Graph, Props, Vertex, Edge, EdgeKey, edge_cmp, vertex_at, edge_at}
use Rattle.graph_model.specs.WellFormed.{IsWellFormed, VertexFits, EdgeFits, AreValues}
use Rattle.graph_model.proofs.Entries.{All-map, All-find, edge_cmp_same}

-- numbers below these
abbrev pub AreBelow : ℕ → List ℕ → Type 0
AreBelow count labels = AllByRecursion (λ n. n < count) labels

abbrev pub AreTypesBelow : ℕ → Props → Type 0
AreTypesBelow count props = AllByRecursion (λ entry. entry.0 < count) props

item_below : {X : Type 0} (xs : List X) (n : ℕ) (P : X → Type 0) → IsSomeAnd (item_at xs n) P → n < length xs
item_below [] n P there = absurd there
item_below (x ∷ xs) zero P there = omega arith
item_below (x ∷ xs) (suc n) P there = omega (arith, item_below xs n P there)

types_below : (g : Graph) (props : Props) → AllByRecursion (λ entry. IsSomeAnd (item_at g.types entry.0) (λ type. AreValues type entry.1)) props → AreTypesBelow (length g.types) props
types_below g props all = All-map _ _ (λ entry there. item_below g.types entry.0 (λ type. AreValues type entry.1) there) props all

pub vertex_known : (g : Graph) (id : ℕ) (v : Vertex) → VertexFits g id v → AreBelow (length g.labels) v.labels × AreTypesBelow (length g.types) v.props
vertex_known g id v fits = (fits.labels.1, types_below g v.props fits.props.1)

pub found_known : (g : Graph) (id : ℕ) (v : Vertex) → IsWellFormed g → Some v ≡ vertex_at g id → AreBelow (length g.labels) v.labels × AreTypesBelow (length g.types) v.props
found_known g id v well there = vertex_known g id v (All-find nat_cmp nat_cmp-IsAntisymmetric (λ entry. VertexFits g entry.0 entry.1) id v g.vertices well.each_vertex (sym there))

pub edge_known : (g : Graph) (source ordinal : ℕ) (e : Edge) → IsWellFormed g → edge_at g source ordinal ≡ Some e → AreBelow (length g.labels) e.labels × AreTypesBelow (length g.types) e.props
edge_known g source ordinal e well there =
    let fits = All-find edge_cmp edge_cmp_same (λ entry. EdgeFits g entry.0 entry.1) (record { source = source; ordinal = ordinal }) e g.edges well.each_edge there in
    (fits.labels.1, types_below g e.props fits.props.1)

pub edge-found : (g : Graph) (key : EdgeKey) (source ordinal : ℕ) (e : Edge) → source ≡ key.source → ordinal ≡ key.ordinal → Some e ≡ edge_at g source ordinal → edge_at g key.source key.ordinal ≡ Some e
edge-found g key source ordinal e is_source is_ordinal there =
    sym (there ∙ ap (λ s. edge_at g s ordinal) is_source ∙ ap (λ o. edge_at g key.source o) is_ordinal)
