-- Where a key stands in a map whose entries are in order.
use Rattle.std.specs.Prelude.{◌≡◌, ℕ, slice_get, Some, None}
use Rattle.std.specs.List.{insert}
use Rattle.graph_model.specs.Maps.{Map, at, with_at}

module _ {X : Type 0} (entries : Map ℕ X) (key : ℕ) where
  -- the key's entry stands here
  pub record IsAt (place : ℕ) : Type 0 where
    pub value : X
    pub here : slice_get entries place ≡ Some (key, value)
    pub found : at entries key ≡ Some value

  -- there is none, and an entry that is put here is in its place
  pub record IsGap (place : ℕ) : Type 0 where
    pub none : at entries key ≡ None
    pub gap : (value : X) → insert entries place (key, value) ≡ with_at entries key value
