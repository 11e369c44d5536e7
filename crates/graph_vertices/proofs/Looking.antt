-- Whether a vertex is there, on a store of a graph.
use Rattle.std.proofs.Common.{◌≡◌, ◌∙◌, ℕ, cond, Option, refl, sym, ap, arith, inl, inr}
use Rattle.std.specs.Prelude.{is_some}
use Rattle.std.specs.List.{list_any}
use Rattle.std.specs.Ordering.{is_eq, nat_cmp}
use Rattle.std.specs.FinMap.Entries.{is_some-find}
use Rattle.gdi_kinds.specs.declared.call.Call.TheVariants.{Has}
use Rattle.gdi_kinds.specs.declared.reply.Reply.{Reply}
use Rattle.gdi_kinds.specs.declared.reply.Reply.TheVariants.{No, Yes}
use Rattle.rma_layout.specs.Shape.{Shape}
use Rattle.rma_layout.specs.Ranges.{IsInRange}
use Rattle.rma_layout.specs.Placement.{Place}
use Rattle.object_words.specs.Contents.{Contents, overlay}
use Rattle.graph_model.specs.Graph.{Graph, is_vertex}
use Rattle.graph_model.specs.Maps.{at}
use Rattle.holder_codec.specs.Represents.{Represents}
use Rattle.holder_codec.proofs.Leading.{represents_leads}
use Rattle.held_objects.specs.Knows.{Knows}
use Rattle.object_store.specs.State.{StoreState}
use Rattle.object_store.specs.Works.{Reaches}
use Rattle.id_hash.specs.Buckets.{Finds, IsBucketFor, Leads}
use Rattle.graph_law.specs.Calls.{AppliesCall, Stands}
use Rattle.graph_law.proofs.Looking.{bucket_reached, looks_applied}

pub knows_leads : {N : Type 0} {state : StoreState N} → IsInRange state.shape → Knows Stands state → Knows Leads state
knows_leads {N} {state} ranges knows = record {
  always = λ store may.
      let stands = knows.always store may in
      record { vertices = stands.represents.vertices; led = represents_leads state.shape (overlay store state.writes) stands.graph stands.represents ranges };
  ordered = knows.ordered;
}

-- the objects of vertices are those of the vertices that are there
pub is_led : {shape : Shape} {contents : Contents} {g : Graph} (is : Represents shape contents g) (id : ℕ) → is_some (at is.vertices id) ≡ is_vertex g id
is_led {shape} {contents} {g} is id =
    is_some-find nat_cmp id is.vertices ∙ ap (list_any (λ q. is_eq (nat_cmp id q))) is.represented.vertex_keys ∙ sym (is_some-find nat_cmp id g.vertices)

module _ {N : Type 0} {old new : StoreState N} {Makes : ℕ → Type 0} {id : ℕ} {found : Option Place} (ranges : IsInRange old.shape) (reaches : Reaches (IsBucketFor id old.shape) Makes old new)
    (finds : Finds id old new found) where
  pub has_applied : {reply : Reply} → reply ≡ cond (is_some found) Yes No → AppliesCall (Has id) old new reply
  has_applied {reply} answer = looks_applied finds.looks (λ g. refl)
      (λ store g is agrees. answer ∙ ap (λ b. cond b Yes No) (ap is_some (finds.answer store is.vertices agrees (represents_leads old.shape (overlay store old.writes) g is ranges)) ∙ is_led is id))
      (λ store g is agrees place. elim (reaches.reads place) [ inl here ↦ inl (bucket_reached g (Has id) ranges is id (0, omega arith, refl) here) | inr unread ↦ inr unread ])
