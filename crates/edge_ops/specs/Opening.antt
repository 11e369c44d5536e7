-- An edge's labels and properties by the form of its record. The contracts of private functions alone cite this page.
use Rattle.std.specs.Prelude.{◌≡◌, ◌≢◌, ◌∷◌, ℕ, List, [], false, Option, Some, None, ◌⊎◌}
use Rattle.rma_layout.specs.Shape.{Shape}
use Rattle.rma_layout.specs.Placement.{Place, IsBlock}
use Rattle.object_words.specs.Contents.{Contents}
use Rattle.object_store.specs.State.{StoreState}
use Rattle.object_store.specs.Calls.{MayWrite, WritesObject}
use Rattle.object_store.specs.Works.{Reaches}
use Rattle.holder_codec.specs.declared.edge_form.EdgeForm.{EdgeForm}
use Rattle.holder_codec.specs.declared.edge_form.EdgeForm.TheVariants.{Plain, Labelled, Heavy}
use Rattle.holder_codec.specs.declared.edge_holder.EdgeHolder.{EdgeHolder}
use Rattle.holder_codec.specs.declared.edge_record.EdgeRecord.{EdgeRecord}
use Rattle.holder_codec.specs.declared.vertex_holder.VertexHolder.{VertexHolder}
use Rattle.holder_codec.specs.EdgeObject.{IsEdgeHolder, edge_object_words}
use Rattle.holder_codec.specs.Edges.{RecordFits}
use Rattle.holder_codec.specs.Vertex.{IsVertexHolder, vertex_words}
use Rattle.held_objects.specs.Held.{FindsHolder, IsSpelled}
use Rattle.edge_ops.specs.declared.opened.Opened.{Opened}
use Rattle.edge_ops.specs.Ending.{FindsEnds, are_too_large}
use Rattle.edge_ops.specs.HeldEdges.{out_key}
use Rattle.edge_ops.specs.Records.{record_for}

abbrev pub MatchForm : EdgeForm → (List ℕ → Type 0) → (Place → Type 0) → Type 0
MatchForm Plain light heavy = light []
MatchForm (Labelled label) light heavy = light (label ∷ [])
MatchForm (Heavy at) light heavy = heavy at

-- the object of a heavy edge
abbrev pub OwnOf : EdgeForm → Shape → Place → Type 0
OwnOf form shape place = form ≡ Heavy place

-- it has the spelling of an edge
abbrev pub IsOwnSpelled : EdgeForm → Shape → Contents → Type 0
IsOwnSpelled form shape contents = MatchForm form (λ _. Unit {0}) (λ at. IsSpelled IsEdgeHolder edge_object_words at shape contents)

abbrev pub OwnIsBlock : EdgeForm → Shape → Type 0
OwnIsBlock form shape = MatchForm form (λ _. Unit {0}) (IsBlock shape)

abbrev pub light_holder : ℕ → EdgeRecord → List ℕ → EdgeHolder
light_holder id edge labels = record { source = id; ordinal = edge.ordinal; target = edge.other; labels = labels; props = [] }

-- the objects at an edge, by its record at the source
abbrev pub IsAtRecord : Place → EdgeRecord → Place → Type 0
IsAtRecord source edge place = (place ≡ source) ⊎ (place ≡ edge.other_at) ⊎ (edge.form ≡ Heavy place)

module _ {N : Type 0} where
  -- a light edge is what its record says, a heavy one what its object holds
  abbrev pub FindsEdge : ℕ → EdgeRecord → StoreState N → StoreState N → EdgeHolder → Type 0
  FindsEdge id edge old new found =
      MatchForm edge.form (λ labels. (found ≡ light_holder id edge labels) × (new ≡ old)) (λ at. FindsHolder IsEdgeHolder edge_object_words at old new found)

  -- the edge has its own object, which may be written
  pub record OwnIsOpen (own : Place) (source target : Place) (old new : StoreState N) : Type 0 where
    pub block : IsBlock old.shape own
    pub may : MayWrite new own
    pub not_source : own ≢ source
    pub not_target : own ≢ target

  -- both ends are found, the record at the source, and the edge's own object if there is one
  pub record OpensSome (source : Place) (ordinal : ℕ) (old new : StoreState N) (opened : Opened) : Type 0 where
    pub record_is : record_for opened.ends.source.edges (out_key ordinal) ≡ Some opened.edge
    pub fits : RecordFits opened.edge
    pub block : IsBlock old.shape opened.edge.other_at
    pub small : are_too_large opened.ends ≡ false
    pub ends : FindsEnds source opened.edge.other_at old new opened.ends
    pub own : MatchForm opened.edge.form (λ _. Unit {0}) (λ own. OwnIsOpen own source opened.edge.other_at old new)
    pub reaches : Reaches (IsAtRecord source opened.edge) (λ _. ⊥) old new

  -- the source has no record of the edge
  pub record OpensNone (source : Place) (ordinal : ℕ) (old new : StoreState N) : Type 0 where
    pub from : VertexHolder
    pub found : FindsHolder IsVertexHolder vertex_words source old new from
    pub none : record_for from.edges (out_key ordinal) ≡ None
    pub reaches : Reaches (λ place. place ≡ source) (λ _. ⊥) old new

  abbrev pub OpensEnds : Place → ℕ → StoreState N → StoreState N → Option Opened → Type 0
  OpensEnds source ordinal old new None = OpensNone source ordinal old new
  OpensEnds source ordinal old new (Some opened) = OpensSome source ordinal old new opened

  -- the edge's own object is emptied
  abbrev pub ClearsOwn : EdgeForm → StoreState N → StoreState N → Type 0
  ClearsOwn form old new = MatchForm form (λ _. new ≡ old) (λ own. WritesObject own [] old new)
