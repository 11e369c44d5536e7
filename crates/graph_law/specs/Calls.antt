-- What a call does to a store of a graph: what it does to the graph.
use Rattle.std.specs.Prelude.{◌≡◌, ◌≢◌, ℕ, ◌+◌, ◌<◌, [], Bool, true, IsSome, Some, count_by, ◌==◌, ◌⊎◌, MatchBool, IsSomeAnd}
use Rattle.std.specs.Option.{option_to_list}
use Rattle.gdi_kinds.specs.declared.call.Call.{Call}
use Rattle.gdi_kinds.specs.declared.reply.Reply.{Reply}
use Rattle.gdi_kinds.specs.Calls.{is_writing_call}
use Rattle.rma_layout.specs.Shape.{Shape}
use Rattle.rma_layout.specs.Placement.{Place}
use Rattle.object_words.specs.Contents.{Contents, Agrees, content_of, overlay, words_at}
use Rattle.object_words.specs.Blocks.{made_objects}
use Rattle.graph_model.specs.Graph.{Graph}
use Rattle.graph_model.specs.Calls.{graph_after_call, reply_to}
use Rattle.graph_model.specs.Capacity.{Object, is_object, make_of, object_to_make}
use Rattle.holder_codec.specs.Represents.{Represents}
use Rattle.object_view.specs.View.{IsOn, place_in}
use Rattle.object_store.specs.declared.phase.Phase.TheVariants.{Idle, Writing}
use Rattle.object_store.specs.State.{Said, StoreState, committed, names_rank}
use Rattle.object_store.specs.Calls.{made_so_far}
use Rattle.graph_law.specs.Reach.{IsReached}

-- a store of some graph
pub record Stands (shape : Shape) (contents : Contents) : Type 0 where
  pub graph : Graph
  pub represents : Represents shape contents graph

-- one, if the call makes an object of this rank
abbrev pub made_by : Shape → Graph → Call → ℕ → ℕ
made_by shape g call rank = count_by (λ r. r == rank) (option_to_list (make_of shape g call))

-- an object that was there is where it was, and a new one is where the store has nothing
abbrev pub ComesFrom : Contents → Bool → Place → Place → Type 0
ComesFrom store was before after = MatchBool was (after ≡ before) (content_of store after ≡ [])

-- what a call did to a store that, with the writes before it, represents a graph
pub record DoesCall (shape : Shape) (call : Call) (reply : Reply) (store before after : Contents) (g : Graph) (is : Represents shape (overlay store before) g) : Type 0 where
  pub answer : reply ≡ reply_to shape g call
  pub represents : Represents shape (overlay store after) (graph_after_call shape g call)
  pub objects : (rank : ℕ) (object : Object) → IsOn shape (graph_after_call shape g call) rank object
      → ComesFrom store (is_object g object) (place_in is.vertices is.edges rank object) (place_in represents.vertices represents.edges rank object)
  pub made : (rank : ℕ) → rank < shape.ranks → made_objects shape store after rank ≡ made_objects shape store before rank + made_by shape g call rank

-- the home rank on which a call may make an object
abbrev pub MayMakeOn : Call → Shape → ℕ → Type 0
MayMakeOn call shape rank = IsSomeAnd (object_to_make shape call) (λ made. rank ≡ made.0)

module _ {N : Type 0} where
  -- the call did so to every store that agrees with what was read after it, and reached no further objects
  pub record AppliesCall (call : Call) (old new : StoreState N) (reply : Reply) : Type 0 where
    pub did : (store : Contents) (g : Graph) (is : Represents old.shape (overlay store old.writes) g) → Agrees new.reads store
        → DoesCall old.shape call reply store old.writes new.writes g is
    pub reads : (store : Contents) (g : Graph) (is : Represents old.shape (overlay store old.writes) g) → (agrees : Agrees new.reads store) → (place : Place)
        → IsReached old.shape g call (did store g is agrees).represents.vertices (did store g is agrees).represents.edges place
        ⊎ IsReached old.shape g call is.vertices is.edges place ⊎ (words_at new.reads place ≡ words_at old.reads place)
    pub writes : (store : Contents) (g : Graph) (is : Represents old.shape (overlay store old.writes) g) → (agrees : Agrees new.reads store) → (place : Place)
        → IsReached old.shape g call (did store g is agrees).represents.vertices (did store g is agrees).represents.edges place
        ⊎ IsReached old.shape g call is.vertices is.edges place ⊎ (words_at new.writes place ≡ words_at old.writes place)
    -- where the store tells its most, it found room for what it made
    pub room : (most : ℕ → ℕ) → old.most ≡ Some most → (g : Graph) → Represents old.shape (overlay (committed old) old.writes) g
        → (rank : ℕ) → make_of old.shape g call ≡ Some rank → made_so_far old rank < most rank

  -- a transaction in which the call may be made
  pub record MayCall (call : Call) (state : StoreState N) : Type 0 where
    pub begun : state.phase ≢ Idle
    pub writing : is_writing_call call ≡ true → state.phase ≡ Writing

  -- a store that tells its most names a rank only where the call makes an object of it
  pub record RefusesCall (call : Call) (old : StoreState N) (said : Said) : Type 0 where
    pub makes : IsSome old.most → (rank : ℕ) → said.names ≡ names_rank rank
        → (g : Graph) → Represents old.shape (overlay (committed old) old.writes) g → make_of old.shape g call ≡ Some rank
