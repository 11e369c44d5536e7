-- The chains of objects that a transaction has noted.
use Rattle.std.specs.Prelude.{ℕ, List, [], ◌∷◌, Option, None, Some, if◌then◌else◌}
use Rattle.rma_layout.specs.Placement.{Place, same_place}
use Rattle.object_words.specs.Chains.{place_of}

-- objects, each with the blocks of its chain
abbrev pub Chains : Type 0
Chains = List (Place × List Place)

-- the blocks that are noted of an object
abbrev pub blocks_of : Chains → Place → Option (List Place)
blocks_of [] object = None
blocks_of (one ∷ more) object = if same_place one.0 object then Some one.1 else blocks_of more object

-- the map behind them: its keys are the words that name the objects
abbrev pub chains_in : List (ℕ × List Place) → Chains
chains_in [] = []
chains_in (one ∷ more) = (place_of one.0, one.1) ∷ chains_in more
