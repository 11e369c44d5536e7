-- A graph as far as walks and counts ask of it.
use Rattle.std.specs.Prelude.{◌≡◌, ℕ, List, length, map}
use Rattle.graph_model.specs.Maps.{Map, keys}
use Rattle.graph_model.specs.Graph.{Name, Graph, Vertex}
use Rattle.graph_model.specs.Walks.{graph_steps, joining_steps}
use Rattle.graph_walks.specs.Steps.{leads}

pub record Outline : Type 0 where
  -- the names of the labels, by number
  pub names : List Name
  -- the identifiers of the vertices, rising
  pub ids : List ℕ
  -- the numbers of the labels of each
  pub labels : List (List ℕ)
  -- the steps along the edges, and those with directions ignored: in which order, and how often, tells nothing
  pub steps : List (ℕ × ℕ)
  pub joining : List (ℕ × ℕ)
  -- how many edges there are
  pub arcs : ℕ

-- one list has a step from i to t where the other has
abbrev pub AreSameSteps : List (ℕ × ℕ) → List (ℕ × ℕ) → Type 0
AreSameSteps a b = (i t : ℕ) → leads a i t ≡ leads b i t

abbrev pub labels_of : Map ℕ Vertex → List (List ℕ)
labels_of vertices = map (λ entry. entry.1.labels) vertices

-- the outline is that of a graph
pub record IsOf (g : Graph) (outline : Outline) : Type 0 where
  pub names : outline.names ≡ g.labels
  pub ids : outline.ids ≡ keys g.vertices
  pub labels : outline.labels ≡ labels_of g.vertices
  pub steps : AreSameSteps outline.steps (graph_steps g)
  pub joining : AreSameSteps outline.joining (joining_steps g)
  pub arcs : outline.arcs ≡ length g.edges
