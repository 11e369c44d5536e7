-- An edge is cut.
use Rattle.std.specs.Prelude.{◌≡◌, ◌≢◌, ℕ, Bool, true, not, [], MatchOption, if◌then◌else◌}
use Rattle.gdi_kinds.specs.declared.reply.Reply.{Reply}
use Rattle.gdi_kinds.specs.declared.reply.Reply.TheVariants as reply
use Rattle.rma_layout.specs.Placement.{Place}
use Rattle.object_words.specs.Contents.{Contents, content_of, overlay}
use Rattle.graph_model.specs.Graph.{is_heavy}
use Rattle.object_store.specs.State.{StoreState}
use Rattle.object_store.specs.Works.{Looks}
use Rattle.holder_codec.specs.declared.vertex_holder.VertexHolder.{VertexHolder}
use Rattle.holder_codec.specs.Knowing.{Wherever}
use Rattle.held_objects.specs.Changes.{any}
use Rattle.vertex_ops.specs.Vertices.{HeldVertex, KnowsVertex}
use Rattle.edge_ops.specs.Ends.{HeldEnds, HoldsEnds, ends_after}
use Rattle.edge_ops.specs.HeldEdges.{Footprint, HeldEdge, HeldOut, HoldsOut, KnowsOut, has_edge, in_key, leads_to, out_key}
use Rattle.edge_ops.specs.Records.{Key, without_record}

abbrev pub holder_without : Key → VertexHolder → VertexHolder
holder_without key holder = record holder { edges = without_record key holder.edges }

abbrev pub without : Key → HeldVertex → HeldVertex
without key held = record held { edges = without_record key held.edges }

-- each end without its record of the edge; at a self loop the vertex is without both
abbrev pub without_edge : Place → ℕ → HeldVertex → HeldEdge → HeldEnds
without_edge source ordinal vertex held =
    ends_after source held.target_at (without (out_key ordinal)) (without (in_key vertex.id ordinal)) (record { source = vertex; target = held.target })

-- both ends are without the edge, and its own object is empty
pub record IsCut (source : Place) (ordinal : ℕ) (contents : Contents) (vertex : HeldVertex) (held : HeldEdge) : Type 0 where
  pub ends : HoldsEnds source held.target_at contents (without_edge source ordinal vertex held)
  pub own : is_heavy held.edge ≡ true → content_of contents held.own_at ≡ []

abbrev pub lacks_edge : HeldOut → Bool
lacks_edge held = not (has_edge held)

module _ {N : Type 0} where
  pub record CutsEdge (source : Place) (ordinal : ℕ) (old new : StoreState N) (answered : Reply) : Type 0 where
    pub answer : Wherever new.reads old.writes (HoldsOut old.shape source ordinal) (λ _ held. answered ≡ (if has_edge held then reply.Done else reply.NoEdge))
    pub cut : Wherever new.reads old.writes (HoldsOut old.shape source ordinal) (λ store held.
        MatchOption held.found (Unit {0}) (IsCut source ordinal (overlay store new.writes) held.source))
    pub footprint : Wherever new.reads old.writes (HoldsOut old.shape source ordinal) (λ _ held. Footprint source held old new)
    pub unchanged : answered ≢ reply.Done → Looks old new
    pub known : KnowsOut source ordinal any new
    -- there is no such edge any more
    pub gone : KnowsOut source ordinal lacks_edge new
    pub source_known : KnowsVertex source any new
    -- and the vertex at the target, where it is known in which object it is
    pub target_known : (target : Place) → KnowsOut source ordinal (leads_to target) old → KnowsVertex target any new
