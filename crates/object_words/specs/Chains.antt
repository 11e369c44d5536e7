-- The chain of blocks that keeps an object's words.
use Rattle.std.specs.Prelude.{◌≡◌, ℕ, zero, suc, ◌-◌, ◌*◌, ◌/◌, ◌%◌, ◌^◌, ◌==◌, ◌&&◌, not, Bool, List, [], ◌∷◌, ◌++◌, length, take, map, if◌then◌else◌}
use Rattle.std.specs.List.{All, range_with_len}
use Rattle.rma_layout.specs.declared.word.Word.TheVariants.{Length, Data}
use Rattle.rma_layout.specs.Shape.{Shape}
use Rattle.rma_layout.specs.Placement.{Place}
use Rattle.rma_layout.specs.Words.{word_in}
use Rattle.object_words.specs.Blocks.{blocks_for, is_reserved}

-- the place that a word names
abbrev pub place_of : ℕ → Place
place_of word = record { rank = word / 2 ^ 48; block = word % 2 ^ 48 }

-- the word that leads from a block to the next one of its chain, 0 at the end
abbrev pub link_of : Shape → List ℕ → Place → ℕ
link_of shape words block = word_in shape words (Data block 0)

-- how many words the object of this first block has
abbrev pub length_of : Shape → List ℕ → Place → ℕ
length_of shape words object = word_in shape words (Length object)

-- the links followed from a block on, through no more blocks than are given
unfoldable pub chain_from : ℕ → Shape → List ℕ → Place → List Place
chain_from zero shape words block = []
chain_from (suc most) shape words block =
    block ∷ (if link_of shape words block == 0 then [] else chain_from most shape words (place_of (link_of shape words block)))

-- whether an object has no chain: it isn't reserved and it has no words
abbrev pub is_chainless : Shape → List ℕ → Place → Bool
is_chainless shape words object = not (is_reserved shape object.block) && length_of shape words object == 0

-- the chain of an object, through at most all blocks of the window
abbrev pub chain_of : Shape → List ℕ → Place → List Place
chain_of shape words object = if is_chainless shape words object then [] else chain_from (shape.ranks * shape.blocks) shape words object

-- the data words of a block behind its link
abbrev pub payload_of : Shape → List ℕ → Place → List ℕ
payload_of shape words block = map (λ i. word_in shape words (Data block i)) (range_with_len 1 (shape.words - 1))

abbrev pub payload_along : Shape → List ℕ → List Place → List ℕ
payload_along shape words [] = []
payload_along shape words (block ∷ more) = payload_of shape words block ++ payload_along shape words more

-- the words that a window keeps for an object: as many as its length says, along its chain
abbrev pub stored_content : Shape → List ℕ → Place → List ℕ
stored_content shape words object = take (length_of shape words object) (payload_along shape words (chain_of shape words object))

-- the chain has just the blocks that the object's length asks for, all of them on the object's rank
pub record HasFullChain (shape : Shape) (words : List ℕ) (object : Place) : Type 0 where
  pub blocks : length (chain_of shape words object) ≡ (if is_chainless shape words object then 0 else blocks_for (length_of shape words object) (shape.words - 1))
  pub one_rank : All (λ block. block.rank ≡ object.rank) (chain_of shape words object)
