-- Lemmas by which a law is shown to keep a graph. They stand here, and not in proofs/, since the `impl` of a law can cite
-- only specs/ of its own crate; there is nothing to believe in them.
use Rattle.std.specs.Prelude.{List, [], ◌∷◌, refl}
use Rattle.std.specs.List.{All}
use Rattle.std.proofs.Common.{zero-le}
use Rattle.std.proofs.lemmas.List.Elements.{All-head, All-tail}
use Rattle.rma_layout.specs.Shape.{Shape}
use Rattle.rma_layout.specs.Ranges.{IsInRange}
use Rattle.object_words.specs.Contents.{Contents, Agrees, overlay}
use Rattle.object_words.specs.Entries.{Entry, EachEntry, ReadsAgree, contents_after, store_after}
use Rattle.graph_model.specs.Graph.{Graph, empty_graph}
use Rattle.holder_codec.specs.Represents.{Represents}

-- an entry that fits, and read what was there, leaves a graph where one was
abbrev pub KeepsByStep : {N : Type 0} → (Shape → Entry N → Type 0) → Type 0
KeepsByStep {N} fits =
    (shape : Shape) (entry : Entry N) (store : Contents) (g : Graph) → IsInRange shape → fits shape entry → Represents shape store g → Agrees entry.reads store
    → (h : Graph) × Represents shape (overlay store entry.writes) h

pub empty_represents_empty : (shape : Shape) → Represents shape [] empty_graph
empty_represents_empty shape = record {
  well_formed = record { labels = tt; types = tt; vertices = refl; edges = refl; each_vertex = tt; each_edge = tt };
  vertices = [];
  edges = [];
  represented = record {
    vertex_keys = refl;
    edge_keys = refl;
    names = refl;
    buckets = λ _ _. refl;
    held_vertices = tt;
    held_edges = tt;
    index = λ _ _. refl;
    apart = tt;
    rest = λ _ _ _ _ _. refl;
    within = λ _. zero-le;
  };
}

keeps_from : {N : Type 0} (fits : Shape → Entry N → Type 0) → KeepsByStep fits → (shape : Shape) (history : List (Entry N)) (store : Contents) (g : Graph)
    → IsInRange shape → All (fits shape) history → EachEntry (λ contents entry. Agrees entry.reads contents) store history → Represents shape store g
    → (h : Graph) × Represents shape (contents_after store history) h
keeps_from fits step shape [] store g range all reads is = (g, is)
keeps_from fits step shape (one ∷ more) store g range all reads is =
    let next = step shape one store g range (All-head (fits shape) one more all) is reads.0 in
    keeps_from fits step shape more (overlay store one.writes) next.0 range (All-tail (fits shape) one more all) reads.1 next.1

pub keeps_by_steps : {N : Type 0} (fits : Shape → Entry N → Type 0) → KeepsByStep fits
    → (shape : Shape) (history : List (Entry N)) → IsInRange shape → All (fits shape) history → ReadsAgree history → (g : Graph) × Represents shape (store_after history) g
keeps_by_steps fits step shape history range all reads = keeps_from fits step shape history [] empty_graph range all reads (empty_represents_empty shape)
