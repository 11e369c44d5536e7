-- What is known of the buckets.
use Rattle.std.proofs.Common.{◌≡◌, ℕ, [], Option, Some, refl, sym, ap, subst, ◌∙◌, arith, IsSome}
use Rattle.rma_layout.specs.Shape.{Shape}
use Rattle.rma_layout.specs.Ranges.{IsInRange}
use Rattle.rma_layout.specs.Placement.{Place, IsReserved}
use Rattle.object_words.specs.Contents.{Contents, IsByRisingObject, overlay}
use Rattle.graph_model.specs.Maps.{at}
use Rattle.object_store.specs.State.{StoreState}
use Rattle.object_store.specs.Works.{Looks, Reaches}
use Rattle.holder_codec.specs.Represents.{VertexObjects, BucketsLead, IsBucket}
use Rattle.holder_codec.proofs.Leading.{represents_leads, buckets_fix_objects}
use Rattle.holder_codec.proofs.Parts.{buckets_kept}
use Rattle.held_objects.specs.Knows.{Knows, LooksAt}
use Rattle.held_objects.proofs.Knows.{still, still_elsewhere}
use Rattle.id_hash.specs.Buckets.{Leads, LeadsTo, Has, StaysKnown}

-- what is known of one identifier is among what is known of all
module _ {N : Type 0} {id : ℕ} {state : StoreState N} where
  pub leads_to_leads : {found : Option Place} → Knows (LeadsTo id found) state → Knows Leads state
  leads_to_leads knows = record { always = λ store may. let is = knows.always store may in record { vertices = is.vertices; led = is.led }; ordered = knows.ordered }

  pub has_leads : Knows (Has id) state → Knows Leads state
  has_leads knows = record { always = λ store may. let is = knows.always store may in record { vertices = is.vertices; led = is.led }; ordered = knows.ordered }

  pub leads_to_has : {object : Place} → Knows (LeadsTo id (Some object)) state → Knows (Has id) state
  leads_to_has knows = record {
    always = λ store may.
        let is = knows.always store may in
        record { vertices = is.vertices; led = is.led; present = subst IsSome (sym is.is) refl };
    ordered = knows.ordered;
  }

pub leads_at_first : {N : Type 0} {state : StoreState N} → IsInRange state.shape → state.writes ≡ [] → Knows Leads state
leads_at_first {N} {state} ranges none = record {
  always = λ store may.
      record { vertices = may.represents.vertices; led = subst (λ (writes : Contents). BucketsLead state.shape (overlay store writes) may.represents.vertices) (sym none) (represents_leads state.shape store may.graph may.represents ranges) };
  ordered = subst IsByRisingObject (sym none) refl;
}

pub still_known : {N : Type 0} {old new : StoreState N} → Looks old new → StaysKnown (λ _. Unit {0}) old new
still_known looks = record { leads_to = λ id found _ knows. still looks knows; has = λ id _ knows. still looks knows }

-- these facts look at the buckets alone
leads_look : LooksAt IsBucket Leads
leads_look shape one other same is = record { vertices = is.vertices; led = buckets_kept shape one other is.vertices same is.led }

leads_to_look : (id : ℕ) (found : Option Place) → LooksAt IsBucket (LeadsTo id found)
leads_to_look id found shape one other same is = record { vertices = is.vertices; led = buckets_kept shape one other is.vertices same is.led; is = is.is }

has_look : (id : ℕ) → LooksAt IsBucket (Has id)
has_look id shape one other same is = record { vertices = is.vertices; led = buckets_kept shape one other is.vertices same is.led; present = is.present }

-- so they stay known while no bucket is reached
module _ {N : Type 0} {old new : StoreState N} {Reached : Place → Type 0} {Makes : ℕ → Type 0} (apart : (place : Place) → IsBucket old.shape place → Reached place → ⊥)
    (reaches : Reaches Reached Makes old new) (ordered : IsByRisingObject new.writes) where
  pub leads_elsewhere : Knows Leads old → Knows Leads new
  leads_elsewhere = still_elsewhere leads_look apart reaches ordered

  pub known_elsewhere : StaysKnown (λ _. Unit {0}) old new
  known_elsewhere = record {
    leads_to = λ id found _ knows. still_elsewhere (leads_to_look id found) apart reaches ordered knows;
    has = λ id _ knows. still_elsewhere (has_look id) apart reaches ordered knows;
  }

-- an object that is made is no bucket
pub unreserved_is_no_bucket : (shape : Shape) (place : Place) → (IsReserved shape place.block → ⊥) → IsBucket shape place → ⊥
unreserved_is_no_bucket shape place unreserved is = unreserved (omega (arith, is.block))

-- since the buckets fix the vertices, what holds of some vertices holds of all to which they lead
pub of_all : (shape : Shape) (contents : Contents) (id : ℕ) (found : Option Place) → IsInRange shape → LeadsTo id found shape contents
    → (vertices : VertexObjects) → BucketsLead shape contents vertices → at vertices id ≡ found
of_all shape contents id found ranges is vertices led = ap (λ (vs : VertexObjects). at vs id) (buckets_fix_objects shape contents vertices is.vertices ranges led is.led) ∙ is.is

pub has_of_all : (shape : Shape) (contents : Contents) (id : ℕ) → IsInRange shape → Has id shape contents
    → (vertices : VertexObjects) → BucketsLead shape contents vertices → IsSome (at vertices id)
has_of_all shape contents id ranges is vertices led = subst (λ (vs : VertexObjects). IsSome (at vs id)) (buckets_fix_objects shape contents is.vertices vertices ranges is.led led) is.present
