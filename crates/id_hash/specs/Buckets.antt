-- What a transaction knows of the buckets, and what the calls on them do.
use Rattle.std.specs.Prelude.{◌≡◌, ◌≢◌, ℕ, ◌+◌, ◌*◌, Bool, true, false, not, count_by, Option, Some, None, IsSome, MatchBool}
use Rattle.std.specs.Option.{MatchOption}
use Rattle.rma_layout.specs.Shape.{Shape}
use Rattle.rma_layout.specs.Placement.{Place, same_place, bucket_of}
use Rattle.object_words.specs.Contents.{Contents, overlay}
use Rattle.graph_model.specs.Maps.{at, with_at, without}
use Rattle.graph_model.specs.Sizes.{is_too_large}
use Rattle.object_store.specs.State.{StoreState}
use Rattle.object_store.specs.Works.{Looks}
use Rattle.holder_codec.specs.declared.bucket_holder.BucketHolder.{BucketHolder}
use Rattle.holder_codec.specs.Bucket.{IsBucketHolder, bucket_words}
use Rattle.held_objects.specs.Held.{FindsHolder}
use Rattle.holder_codec.specs.Represents.{VertexObjects, BucketsLead, entries_of}
use Rattle.holder_codec.specs.Knowing.{Wherever}
use Rattle.held_objects.specs.Knows.{Knows}

-- whether the bucket of an identifier takes one vertex more than lead there: each takes two words
abbrev pub takes_one_more : Shape → VertexObjects → ℕ → Bool
takes_one_more shape vertices id =
    not (is_too_large (2 * (count_by (λ entry. same_place (bucket_of shape entry.0) (bucket_of shape id)) vertices + 1)))

-- the object that the bucket of an identifier is
abbrev pub IsBucketFor : ℕ → Shape → Place → Type 0
IsBucketFor id shape place = place ≡ bucket_of shape id

-- the buckets lead from identifiers to objects
pub record Leads (shape : Shape) (contents : Contents) : Type 0 where
  pub vertices : VertexObjects
  pub led : BucketsLead shape contents vertices

-- and from this one to this object, or to none
pub record LeadsTo (id : ℕ) (found : Option Place) (shape : Shape) (contents : Contents) : Type 0 where
  pub vertices : VertexObjects
  pub led : BucketsLead shape contents vertices
  pub is : at vertices id ≡ found

abbrev pub Lacks : ℕ → Shape → Contents → Type 0
Lacks id = LeadsTo id None

-- and from this one to some object
pub record Has (id : ℕ) (shape : Shape) (contents : Contents) : Type 0 where
  pub vertices : VertexObjects
  pub led : BucketsLead shape contents vertices
  pub present : IsSome (at vertices id)

module _ {N : Type 0} where
  -- a fact of the store and of the vertices to which the buckets lead from before the call, wherever that agrees with
  -- what is read after it
  abbrev pub WhereverLed : StoreState N → StoreState N → (Contents → VertexObjects → Type 0) → Type 0
  WhereverLed old new Holds = Wherever new.reads old.writes (BucketsLead old.shape) Holds

  -- what is known of these identifiers stays known
  pub record StaysKnown (IsSpared : ℕ → Type 0) (old new : StoreState N) : Type 0 where
    pub leads_to : (id : ℕ) (found : Option Place) → IsSpared id → Knows (LeadsTo id found) old → Knows (LeadsTo id found) new
    pub has : (id : ℕ) → IsSpared id → Knows (Has id) old → Knows (Has id) new

  -- the object to which the identifier leads
  pub record Finds (id : ℕ) (old new : StoreState N) (found : Option Place) : Type 0 where
    pub looks : Looks old new
    pub answer : WhereverLed old new (λ _ vertices. found ≡ at vertices id)
    pub leads_to : Knows (LeadsTo id found) new
    pub known : MatchOption found (Knows (Lacks id) new) (λ _. Knows (Has id) new)
    pub leads : Knows Leads new
    pub others : StaysKnown (λ _. Unit {0}) old new

  pub record TellsRoom (id : ℕ) (old new : StoreState N) (answer : Bool) : Type 0 where
    pub looks : Looks old new
    pub room : WhereverLed old new (λ _ vertices. at vertices id ≡ None → answer ≡ takes_one_more old.shape vertices id)
    pub absent : Knows (Lacks id) new
    pub leads : Knows Leads new
    pub others : StaysKnown (λ _. Unit {0}) old new

  -- the identifier leads to the object too, unless the bucket takes no more
  pub record Adds (id : ℕ) (object : Place) (old new : StoreState N) (added : Bool) : Type 0 where
    pub answer : WhereverLed old new (λ _ vertices. at vertices id ≡ None → added ≡ takes_one_more old.shape vertices id)
    pub leads_to : added ≡ true → WhereverLed old new (λ store vertices. at vertices id ≡ None
        → BucketsLead old.shape (overlay store new.writes) (with_at vertices id object))
    pub unchanged : added ≡ false → Looks old new
    pub known : MatchBool added (Knows (LeadsTo id (Some object)) new) (Knows (Lacks id) new)
    pub present : added ≡ true → Knows (Has id) new
    pub leads : Knows Leads new
    pub others : StaysKnown (λ other. other ≢ id) old new

  -- the identifier leads nowhere
  pub record Removes (id : ℕ) (old new : StoreState N) : Type 0 where
    pub removed : WhereverLed old new (λ store vertices. BucketsLead old.shape (overlay store new.writes) (without vertices id))
    pub absent : Knows (Lacks id) new
    pub leads : Knows Leads new
    pub others : StaysKnown (λ other. other ≢ id) old new

  -- the bucket as it stands; the contracts of private functions alone cite this
  pub record FindsBucket (id : ℕ) (old new : StoreState N) (bucket : BucketHolder) : Type 0 where
    pub found : FindsHolder IsBucketHolder bucket_words (bucket_of old.shape id) old new bucket
    pub entries : WhereverLed old new (λ _ vertices. bucket.entries ≡ entries_of old.shape vertices (bucket_of old.shape id))
