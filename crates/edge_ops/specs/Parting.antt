-- The steps by which all edges of a vertex are cut. The contracts of private functions alone cite this page.
use Rattle.std.specs.Prelude.{◌≡◌, ℕ, Bool, not, ◌==◌, List, [], Some, map, ◌⊎◌, if◌then◌else◌}
use Rattle.std.specs.List.{Contains, filter, list_any}
use Rattle.rma_layout.specs.Placement.{Place, same_place}
use Rattle.object_words.specs.Contents.{Contents, Agrees, overlay, words_at}
use Rattle.object_store.specs.State.{StoreState}
use Rattle.object_store.specs.Calls.{MayWrite}
use Rattle.object_store.specs.Works.{Looks}
use Rattle.held_objects.specs.Knows.{Knows}
use Rattle.holder_codec.specs.declared.edge_form.EdgeForm.{EdgeForm}
use Rattle.edge_ops.specs.Opening.{IsOwnSpelled, MatchForm, OwnIsBlock}
use Rattle.holder_codec.specs.declared.edge_form.EdgeForm.TheVariants.{Heavy}
use Rattle.holder_codec.specs.declared.edge_record.EdgeRecord.{EdgeRecord}
use Rattle.holder_codec.specs.declared.vertex_holder.VertexHolder.{VertexHolder}
use Rattle.held_objects.specs.Changes.{any}
use Rattle.vertex_ops.specs.Vertices.{HeldVertex, HoldsVertex, KnowsVertex}
use Rattle.edge_ops.specs.CuttingAll.{apart_from}

abbrev pub holder_apart : ℕ → VertexHolder → VertexHolder
holder_apart id holder = record holder { edges = filter (λ edge. not (edge.other == id)) holder.edges }

-- the objects at the other ends, one for each edge but loops
abbrev pub far_ends : Place → List EdgeRecord → List Place
far_ends at edges = map (λ edge. edge.other_at) (filter (λ edge. not (same_place edge.other_at at)) edges)

abbrev pub is_among : Place → List Place → Bool
is_among place places = list_any (λ other. same_place other place) places

-- the own object of a heavy edge among these
abbrev pub IsOwnAmong : List EdgeRecord → Place → Type 0
IsOwnAmong edges place = (edge : EdgeRecord) × Contains edges edge × (edge.form ≡ Heavy place)

module _ {N : Type 0} where
  -- the vertex in an object is without its edges from and to another one
  pub record PartsEnd (id : ℕ) (end : Place) (old new : StoreState N) : Type 0 where
    pub after : (store : Contents) (vertex : HeldVertex) → Agrees new.reads store → HoldsVertex end (overlay store old.writes) vertex → HoldsVertex end (overlay store new.writes) (apart_from id vertex)
    pub known : KnowsVertex end any new

  -- the vertices in these objects are, and those in others stay
  pub record PartsEnds (id : ℕ) (done : List Place) (old new : StoreState N) : Type 0 where
    pub after : (place : Place) (store : Contents) (vertex : HeldVertex) → Agrees new.reads store → HoldsVertex place (overlay store old.writes) vertex
        → HoldsVertex place (overlay store new.writes) (if is_among place done then apart_from id vertex else vertex)
    pub known : (place : Place) → KnowsVertex place any old → KnowsVertex place any new

  -- a heavy edge's own object is known to hold one
  pub record OwnIsKnown (form : EdgeForm) (state : StoreState N) : Type 0 where
    pub block : OwnIsBlock form state.shape
    pub spelled : Knows (IsOwnSpelled form) state

  abbrev pub OwnMayWrite : EdgeForm → StoreState N → Type 0
  OwnMayWrite form state = MatchForm form (λ _. Unit {0}) (MayWrite state)

  -- the own objects of these edges were read, so that they may be written
  pub record OpensOwns (done : List EdgeRecord) (old new : StoreState N) : Type 0 where
    pub looks : Looks old new
    pub may : (edge : EdgeRecord) → Contains done edge → OwnMayWrite edge.form new

  -- the own objects of these edges are emptied
  pub record ClearsOwns (done : List EdgeRecord) (old new : StoreState N) : Type 0 where
    pub cleared : (edge : EdgeRecord) (own : Place) → Contains done edge → edge.form ≡ Heavy own → words_at new.writes own ≡ Some []
    pub others : (place : Place) → (words_at new.writes place ≡ Some []) ⊎ (words_at new.writes place ≡ words_at old.writes place)
    pub reads : new.reads ≡ old.reads
