-- How far components have been named.
use Rattle.std.specs.Prelude.{◌≡◌, ℕ, ◌≤◌, List, Option, Some, IsTrue, IsSome, take}
use Rattle.graph_model.specs.Maps.{has}
use Rattle.graph_model.specs.Walks.{is_walk_by}
use Rattle.graph_walks.specs.Steps.{leads}

-- whole components have a name, those of the first vertices among them
pub record IsNaming (steps : List (ℕ × ℕ)) (ids : List ℕ) (done : ℕ) (names : ℕ → Option ℕ) : Type 0 where
  pub joined : (x q : ℕ) → names x ≡ Some q → (n : ℕ) × IsTrue (is_walk_by steps n x q)
  pub closed : (x t q : ℕ) → names x ≡ Some q → IsTrue (leads steps x t) → names t ≡ Some q
  pub least : (x q : ℕ) → names x ≡ Some q → q ≤ x
  pub named : (x : ℕ) → IsTrue (has (take done ids) x) → IsSome (names x)
