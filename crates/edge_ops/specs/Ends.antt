-- The two ends of an edge as their objects hold them. At a self loop they are one vertex.
use Rattle.std.specs.Prelude.{◌≡◌, ◌≢◌, ℕ, ◌+◌, Bool, true, false, ◌||◌, List, [], ◌∷◌, Option, Some, None, ◌⊎◌, if◌then◌else◌, ◌==◌}
use Rattle.gdi_kinds.specs.declared.reply.Reply.{Reply}
use Rattle.gdi_kinds.specs.declared.reply.Reply.TheVariants as reply
use Rattle.rma_layout.specs.Shape.{Shape}
use Rattle.rma_layout.specs.Placement.{Place, same_place}
use Rattle.object_words.specs.Contents.{Contents, overlay}
use Rattle.graph_model.specs.EdgeCalls.{ordinals_end}
use Rattle.graph_model.specs.Sizes.{is_too_large}
use Rattle.object_store.specs.State.{StoreState}
use Rattle.object_store.specs.Works.{Looks}
use Rattle.holder_codec.specs.declared.edge_record.EdgeRecord.{EdgeRecord}
use Rattle.holder_codec.specs.Knowing.{Wherever}
use Rattle.holder_codec.specs.Represents.{light_form}
use Rattle.held_objects.specs.Changes.{any}
use Rattle.vertex_ops.specs.Vertices.{HeldVertex, HoldsVertex, KnowsVertex, size}
use Rattle.edge_ops.specs.HeldEdges.{KnowsOut, leads_to}
use Rattle.edge_ops.specs.Records.{with_record}

pub record HeldEnds : Type 0 where
  pub source : HeldVertex
  pub target : HeldVertex

pub record HoldsEnds (source target : Place) (contents : Contents) (held : HeldEnds) : Type 0 where
  pub at_source : HoldsVertex source contents held.source
  pub at_target : HoldsVertex target contents held.target

-- either of two objects
abbrev pub Either : Place → Place → Shape → Place → Type 0
Either source target shape place = (place ≡ source) ⊎ (place ≡ target)

-- what is made of the vertex in an object: first as the source, and then as the target, so a self loop's is made of both
abbrev pub as_ends : Place → Place → (HeldVertex → HeldVertex) → (HeldVertex → HeldVertex) → Place → HeldVertex → HeldVertex
as_ends source target as_source as_target object held =
    let first = if same_place object source then as_source held else held in
    if same_place object target then as_target first else first

abbrev pub ends_after : Place → Place → (HeldVertex → HeldVertex) → (HeldVertex → HeldVertex) → HeldEnds → HeldEnds
ends_after source target as_source as_target held = record {
  source = as_ends source target as_source as_target source held.source;
  target = as_ends source target as_source as_target target held.target;
}

-- ---- a new edge

-- the source has a record more, and its next ordinal rises
abbrev pub with_out : EdgeRecord → HeldVertex → HeldVertex
with_out edge held = record held { vertex = record held.vertex { next = held.vertex.next + 1 }; edges = with_record edge held.edges }

abbrev pub with_in : EdgeRecord → HeldVertex → HeldVertex
with_in edge held = record held { edges = with_record edge held.edges }

abbrev pub labels_of : Option ℕ → List ℕ
labels_of None = []
labels_of (Some label) = label ∷ []

-- the records of a new edge with a label at most, at its source and at its target
abbrev pub out_of : Place → List ℕ → Bool → HeldEnds → EdgeRecord
out_of target labels undirected held =
    record { inward = false; undirected = undirected; ordinal = held.source.vertex.next; other = held.target.id; other_at = target; form = light_form labels }

abbrev pub into_of : Place → List ℕ → Bool → HeldEnds → EdgeRecord
into_of source labels undirected held =
    record { inward = true; undirected = undirected; ordinal = held.source.vertex.next; other = held.source.id; other_at = source; form = light_form labels }

abbrev pub with_edge : Place → Place → List ℕ → Bool → HeldEnds → HeldEnds
with_edge source target labels undirected held =
    ends_after source target (with_out (out_of target labels undirected held)) (with_in (into_of source labels undirected held)) held

abbrev pub reply_to_make : Place → Place → List ℕ → Bool → HeldEnds → Reply
reply_to_make source target labels undirected held =
    let made = with_edge source target labels undirected held in
    if held.source.vertex.next == ordinals_end || is_too_large (size made.source) || is_too_large (size made.target) then reply.TooLarge
    else reply.EdgeIs held.source.id held.source.vertex.next

module _ {N : Type 0} where
  -- an edge is made, unless the source has given out all ordinals or an end would have too many words
  pub record MakesEdge (source target : Place) (labels : List ℕ) (undirected : Bool) (old new : StoreState N) (answered : Reply) : Type 0 where
    pub answer : Wherever new.reads old.writes (HoldsEnds source target) (λ _ held. answered ≡ reply_to_make source target labels undirected held)
    pub made : answered ≢ reply.TooLarge → Wherever new.reads old.writes (HoldsEnds source target) (λ store held.
        HoldsEnds source target (overlay store new.writes) (with_edge source target labels undirected held))
    pub unchanged : answered ≡ reply.TooLarge → Looks old new
    pub source_known : KnowsVertex source any new
    pub target_known : KnowsVertex target any new
    -- the edge is there, and leads to the target
    pub out_known : (id ordinal : ℕ) → answered ≡ reply.EdgeIs id ordinal → KnowsOut source ordinal (leads_to target) new
