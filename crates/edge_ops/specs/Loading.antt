-- An edge as it is loaded.
use Rattle.std.specs.Prelude.{◌≡◌, ℕ, Bool, Option, MatchOption}
use Rattle.std.specs.Option.{option_map}
use Rattle.rma_layout.specs.Placement.{Place}
use Rattle.object_store.specs.State.{StoreState}
use Rattle.object_store.specs.Works.{Looks}
use Rattle.holder_codec.specs.Knowing.{Wherever}
use Rattle.held_objects.specs.Changes.{any}
use Rattle.vertex_ops.specs.Vertices.{KnowsVertex}
use Rattle.edge_ops.specs.declared.found_edge.FoundEdge.{FoundEdge}
use Rattle.edge_ops.specs.HeldEdges.{HeldOut, HeldEdge, HoldsOut, KnowsOut, Footprint, edge_holder_for, is_edge_to}

-- the edge with its labels and properties, whether it is light or heavy
abbrev pub edge_found : HeldOut → ℕ → HeldEdge → FoundEdge
edge_found held ordinal one =
    record { undirected = one.edge.undirected; holder = edge_holder_for held.source.types held.source.id ordinal one.edge }

module _ {N : Type 0} where
  -- a call that only looks finds the edge, or that there is none
  pub record LoadsEdge (source : Place) (ordinal : ℕ) (old new : StoreState N) (answer : Option FoundEdge) : Type 0 where
    pub looks : Looks old new
    pub found : Wherever new.reads old.writes (HoldsOut old.shape source ordinal) (λ _ held. answer ≡ option_map (edge_found held ordinal) held.found)
    pub footprint : Wherever new.reads old.writes (HoldsOut old.shape source ordinal) (λ _ held. Footprint source held old new)
    pub known : KnowsOut source ordinal any new
    pub source_known : KnowsVertex source any new
    -- an edge that was found is there
    pub there : MatchOption answer (Unit {0}) (λ one. KnowsOut source ordinal (is_edge_to one.holder.source one.holder.target) new)
    pub kept : (passes : HeldOut → Bool) → KnowsOut source ordinal passes old → KnowsOut source ordinal passes new
