-- What attaching new words to an object asks of a view, and makes of it.
use Rattle.std.specs.Prelude.{◌≡◌, ℕ, ◌+◌, ◌-◌, ◌/◌, ◌%◌, ◌^◌, ◌<◌, ◌≤◌, List, [], ◌∷◌, length, get_or, Some, None, if◌then◌else◌}
use Rattle.rma_layout.specs.Shape.{Shape}
use Rattle.rma_layout.specs.Placement.{Place, same_place, metadata}
use Rattle.window_rule.specs.View.{View, Dirt, Cell}
use Rattle.window_rule.specs.Known.{cell_of}
use Rattle.window_rule.specs.Dirty.{dirt_of}
use Rattle.window_rule.specs.Objects.{link_to, chain_length, LiesAt}
use Rattle.window_rule.specs.Partition.{times, places_of}
use Rattle.window_rule.specs.Spares.{SpareEnds, IsNoSpare, own_next_of}
use Rattle.window_rule.specs.RoomHolds.{count_on}

-- the view knows that each block leads to the next
abbrev pub AreLinksKnown : List Cell → List Place → Type 0
AreLinksKnown cells [] = Unit {0}
AreLinksKnown cells (block ∷ more) = (cell_of cells block 0 ≡ Some (link_to more))
    × AreLinksKnown cells more

-- the words of these blocks, as far as the view knows them, spell the content: links and payload
pub record IsSpelled (shape : Shape) (cells : List Cell) (chain : List Place)
    (content : List ℕ) : Type 0 where
  pub linked : AreLinksKnown cells chain
  pub payload : (k : ℕ) → k < length content
      → cell_of cells (get_or chain (k / (shape.words - 1)) metadata)
      (1 + k % (shape.words - 1)) ≡ Some (get_or content k 0)

-- these blocks are a full chain of the object with this content, and the view knows so
pub record IsBuilt (shape : Shape) (cells : List Cell) (object : Place) (chain : List Place)
    (content : List ℕ) : Type 0 where
  pub enough : length chain ≡ chain_length shape object content
  pub few_words : length content ≤ 2 ^ 20
  pub lies : LiesAt object chain
  pub spelled : IsSpelled shape cells chain content

abbrev pub attach_in : List Dirt → Place → List Place → List ℕ → List Dirt
attach_in [] object chain content = []
attach_in (one ∷ more) object chain content =
    if same_place one.object object then record one { blocks = chain; attached = Some content }
    ∷ more else one ∷ attach_in more object chain content

-- the blocks are of the view's own and of the object, which is not attached yet
pub record MayAttach {N : Type 0} (shape : Shape) (object : Place) (chain : List Place)
    (content : List ℕ) (view : View N) : Type 0 where
  pub dirt : Dirt
  pub is : dirt_of view.dirty object ≡ Some dirt
  pub not_attached : dirt.attached ≡ None
  pub built : IsBuilt shape view.cells object chain content
  pub has : (block : Place)
      → times block chain ≤ times block (places_of view.private) + times block dirt.blocks

-- what the object no longer has is the view's own
pub record Attaches {N : Type 0} (object : Place) (chain : List Place) (content : List ℕ)
    (before after : View N) : Type 0 where
  pub view : after ≡ record before {
    dirty = attach_in before.dirty object chain content;
    private = after.private;
  }
  pub exchanged : (dirt : Dirt) → dirt_of before.dirty object ≡ Some dirt → (block : Place)
      → times block (places_of after.private) + times block chain ≡ times block
      (places_of before.private) + times block dirt.blocks
  -- a spare that is not in the chain stays one
  pub links : (block : Place) (next : ℕ) → times block chain ≡ 0
      → own_next_of before.private block ≡ Some next → own_next_of after.private block ≡ Some next
  pub as_many : (dirt : Dirt) → dirt_of before.dirty object ≡ Some dirt → (rank : ℕ)
      → count_on rank (places_of after.private) + count_on rank chain ≡ count_on rank
      (places_of before.private) + count_on rank dirt.blocks

-- the words of some chain and content of that length are there
abbrev pub MayAttachSome : {N : Type 0} → Shape → Place → ℕ → View N → Type 0
MayAttachSome shape object len view = (chain : List Place) × (content : List ℕ)
    × (length content ≡ len) × MayAttach shape object chain content view

-- whatever chain and content of that length the words spell, these are the object's: so there is
-- one such
abbrev pub AttachesAll : {N : Type 0} → Shape → Place → View N → ℕ → View N → Type 0
AttachesAll shape object before len after = (chain : List Place) (content : List ℕ)
    → length content ≡ len → MayAttach shape object chain content before
    → Attaches object chain content before after

-- no spare is in the chain that is attached
abbrev pub SparesAreLeft : {N : Type 0} → Shape → Place → ℕ → View N → SpareEnds → Type 0
SparesAreLeft shape object len view ends = (chain : List Place) (content : List ℕ)
    → length content ≡ len → MayAttach shape object chain content view → (block : Place)
    → 0 < times block chain → IsNoSpare shape view.private ends block
