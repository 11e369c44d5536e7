-- A vertex and an edge from it, as the objects at the edge hold them: the source's, the target's, and the edge's own.
use Rattle.std.specs.Prelude.{◌≡◌, ◌≢◌, ◌≤◌, ℕ, Bool, true, false, ◌&&◌, ◌==◌, List, length, Option, Some, is_some, MatchOption, ◌⊎◌, if◌then◌else◌}
use Rattle.std.specs.List.{AllByRecursion}
use Rattle.std.specs.Option.{option_map, option_map_or}
use Rattle.std.specs.Ordering.{nat_cmp}
use Rattle.rma_layout.specs.Shape.{Shape}
use Rattle.rma_layout.specs.Placement.{Place, IsBlock, same_place}
use Rattle.object_words.specs.Contents.{Contents, overlay, words_at}
use Rattle.graph_model.specs.Maps.{IsMap, IsSet}
use Rattle.graph_model.specs.Graph.{PropType, Edge, is_heavy}
use Rattle.object_store.specs.State.{StoreState}
use Rattle.holder_codec.specs.declared.edge_form.EdgeForm.{EdgeForm}
use Rattle.holder_codec.specs.declared.edge_form.EdgeForm.TheVariants.{Heavy}
use Rattle.holder_codec.specs.declared.edge_holder.EdgeHolder.{EdgeHolder}
use Rattle.holder_codec.specs.declared.edge_record.EdgeRecord.{EdgeRecord}
use Rattle.holder_codec.specs.EdgeObject.{IsEdgeHolder, edge_object_words}
use Rattle.holder_codec.specs.Holders.{held_props}
use Rattle.holder_codec.specs.Knowing.{MayBeAt}
use Rattle.holder_codec.specs.Represents.{light_form}
use Rattle.held_objects.specs.Knows.{Knows}
use Rattle.held_objects.specs.Changes.{IsHeldAs, Holds}
use Rattle.vertex_ops.specs.Vertices.{HeldVertex, HoldsVertex}
use Rattle.edge_ops.specs.Records.{Key, record_for}

-- ---- an edge

pub record HeldEdge : Type 0 where
  pub edge : Edge
  -- the vertex at its target, and the object of that
  pub target : HeldVertex
  pub target_at : Place
  -- its own object, where it is heavy
  pub own_at : Place

-- a vertex, and the edge of an ordinal from it, if there is one
pub record HeldOut : Type 0 where
  pub source : HeldVertex
  pub found : Option HeldEdge

-- labels are a set and properties a map, each with a value
pub record IsOrderlyEdge (edge : Edge) : Type 0 where
  pub labels : IsSet edge.labels
  pub props : IsMap nat_cmp edge.props
  pub some : AllByRecursion (λ entry. 1 ≤ length entry.1) edge.props

-- what its own object holds if it is heavy
abbrev pub edge_holder_for : List PropType → ℕ → ℕ → Edge → EdgeHolder
edge_holder_for types source ordinal edge =
    record { source = source; ordinal = ordinal; target = edge.target; labels = edge.labels; props = held_props types edge.props }

abbrev pub form_of_held : HeldEdge → EdgeForm
form_of_held held = if is_heavy held.edge then Heavy held.own_at else light_form held.edge.labels

abbrev pub record_at_source : ℕ → HeldEdge → EdgeRecord
record_at_source ordinal held = record {
  inward = false;
  undirected = held.edge.undirected;
  ordinal = ordinal;
  other = held.edge.target;
  other_at = held.target_at;
  form = form_of_held held;
}

abbrev pub record_at_target : Place → ℕ → ℕ → HeldEdge → EdgeRecord
record_at_target source id ordinal held = record {
  inward = true;
  undirected = held.edge.undirected;
  ordinal = ordinal;
  other = id;
  other_at = source;
  form = form_of_held held;
}

-- the keys of these records
abbrev pub out_key : ℕ → Key
out_key ordinal = (0, (0, ordinal))

abbrev pub in_key : ℕ → ℕ → Key
in_key id ordinal = (1, (id, ordinal))

-- ---- in objects

-- the edge's own object has its spelling, and is no vertex' at the edge
pub record HoldsOwn (shape : Shape) (source : Place) (ordinal : ℕ) (contents : Contents) (vertex : HeldVertex) (held : HeldEdge) : Type 0 where
  pub block : IsBlock shape held.own_at
  pub not_source : held.own_at ≢ source
  pub not_target : held.own_at ≢ held.target_at
  pub own : IsHeldAs IsEdgeHolder edge_object_words (edge_holder_for vertex.types vertex.id ordinal) IsOrderlyEdge held.own_at contents held.edge

pub record HoldsEdge (shape : Shape) (source : Place) (ordinal : ℕ) (contents : Contents) (vertex : HeldVertex) (held : HeldEdge) : Type 0 where
  pub fits : IsOrderlyEdge held.edge
  pub block : IsBlock shape held.target_at
  pub at_target : HoldsVertex held.target_at contents held.target
  pub target : held.target.id ≡ held.edge.target
  pub record_there : record_for held.target.edges (in_key vertex.id ordinal) ≡ Some (record_at_target source vertex.id ordinal held)
  pub heavy : is_heavy held.edge ≡ true → HoldsOwn shape source ordinal contents vertex held

-- the source has the edge's record just where there is the edge, and the edge is held
pub record HoldsOut (shape : Shape) (source : Place) (ordinal : ℕ) (contents : Contents) (held : HeldOut) : Type 0 where
  pub at_source : HoldsVertex source contents held.source
  pub record_here : record_for held.source.edges (out_key ordinal) ≡ option_map (record_at_source ordinal) held.found
  pub edge : MatchOption held.found (Unit {0}) (HoldsEdge shape source ordinal contents held.source)

abbrev pub KnowsOut : {N : Type 0} → Place → ℕ → (HeldOut → Bool) → StoreState N → Type 0
KnowsOut source ordinal passes = Knows (λ shape. Holds (HoldsOut shape source ordinal) passes shape)

abbrev pub has_edge : HeldOut → Bool
has_edge held = is_some held.found

-- there is an edge, and it is from this vertex to that one
abbrev pub is_edge_to : ℕ → ℕ → HeldOut → Bool
is_edge_to id target held = held.source.id == id && option_map_or (λ edge. edge.edge.target == target) held.found false

-- there is an edge, and the vertex at its target is in this object
abbrev pub leads_to : Place → HeldOut → Bool
leads_to target held = option_map_or (λ edge. same_place edge.target_at target) held.found false

-- ---- which objects are at an edge

-- the target's, and its own where it is heavy
abbrev pub IsBeyond : HeldOut → Place → Type 0
IsBeyond held place = MatchOption held.found ⊥ (λ edge. (place ≡ edge.target_at) ⊎ ((is_heavy edge.edge ≡ true) × (place ≡ edge.own_at)))

module _ {N : Type 0} where
  -- the object is at the edge in a store at which the transaction may be, as far as it knows
  pub record MayBeBeyond (source : Place) (ordinal : ℕ) (state : StoreState N) (place : Place) : Type 0 where
    pub store : Contents
    pub may : MayBeAt state.shape state.reads store
    pub held : HeldOut
    pub holds : HoldsOut state.shape source ordinal (overlay store state.writes) held
    pub beyond : IsBeyond held place

  -- the source's object, or another one at the edge
  abbrev pub AtEdge : Place → ℕ → StoreState N → Shape → Place → Type 0
  AtEdge source ordinal state shape place = (place ≡ source) ⊎ MayBeBeyond source ordinal state place

  -- no objects were read or written but those at this edge
  pub record Footprint (source : Place) (held : HeldOut) (old new : StoreState N) : Type 0 where
    pub reads : (place : Place) → (place ≡ source) ⊎ IsBeyond held place ⊎ (words_at new.reads place ≡ words_at old.reads place)
    pub writes : (place : Place) → (place ≡ source) ⊎ IsBeyond held place ⊎ (words_at new.writes place ≡ words_at old.writes place)
