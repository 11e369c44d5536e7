-- What a view knows of objects and of the words of its blocks.
use Rattle.std.specs.Prelude.{ℕ, ◌==◌, ◌&&◌, List, [], ◌∷◌, Option, Some, None, if◌then◌else◌}
use Rattle.rma_layout.specs.Placement.{Place, same_place}
use Rattle.window_rule.specs.View.{Known, Cell}

abbrev pub known_of : List (Place × Known) → Place → Option Known
known_of [] object = None
known_of (one ∷ more) object = if same_place one.0 object then Some one.1 else known_of more object

abbrev pub without_known : List (Place × Known) → Place → List (Place × Known)
without_known [] object = []
without_known (one ∷ more) object =
    if same_place one.0 object then without_known more object else one ∷ without_known more object

-- the chain of an object, if the view knows the object
abbrev pub chain_in : Option Known → List Place
chain_in None = []
chain_in (Some known) = known.chain

-- the word of a block that was stored or loaded last
abbrev pub cell_of : List Cell → Place → ℕ → Option ℕ
cell_of [] block index = None
cell_of (one ∷ more) block index =
    if same_place one.block block && one.index == index then Some one.word else cell_of more
    block index

-- nothing is known of the block's words
abbrev pub without_cells : List Cell → Place → List Cell
without_cells [] block = []
without_cells (one ∷ more) block =
    if same_place one.block block then without_cells more block else one ∷ without_cells more block
