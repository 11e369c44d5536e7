-- What stands at each object and in each free list. It is no word of the window: the invariant says
-- that there are such
-- objects and lists, and each fact of it ties them either to words or to views.
use Rattle.std.specs.Prelude.{◌≡◌, ℕ, ◌<◌, ◌≤◌, get_or, ◌+◌, ◌-◌, ◌/◌, ◌%◌, ◌^◌, ◌==◌, ◌&&◌, not, List, [], ◌∷◌, length, Option, Some, None, if◌then◌else◌}
use Rattle.std.specs.List.{AllByRecursion}
use Rattle.rma_layout.specs.Shape.{Shape}
use Rattle.rma_layout.specs.Placement.{Place, IsBlock, raw_of, metadata, same_place}
use Rattle.object_words.specs.Blocks.{blocks_for, is_reserved}
use Rattle.object_words.specs.Contents.{is_empty}
pub use Rattle.free_list.specs.Heads.{first_of, tag_of}
pub use Rattle.free_list.specs.Lists.{number_to, behind, AreThreaded, IsFreeList}

-- what stands at an object
pub record Standing : Type 0 where
  -- the number of the view that has detached it, if one has
  pub writer : Option ℕ
  -- its blocks
  pub chain : List Place
  -- its words, if its length word says so: none while it is detached and nothing is attached
  pub content : Option (List ℕ)

abbrev pub Objects : Type 0
Objects = Place → Standing

-- the word that leads to the first of these blocks, 0 if there is none
abbrev pub link_to : List Place → ℕ
link_to [] = 0
link_to (block ∷ more) = raw_of block

-- the link of each block leads to the next, and that of the last is 0
abbrev pub AreLinked : (Place → ℕ → ℕ) → List Place → Type 0
AreLinked cells [] = Unit {0}
AreLinked cells (block ∷ more) = (cells block 0 ≡ link_to more) × AreLinked cells more

abbrev pub BeginsAt : Place → List Place → Type 0
BeginsAt object [] = Unit {0}
BeginsAt object (block ∷ more) = block ≡ object

-- the blocks that an object with so much content has. One that is not reserved has none where it is
-- empty
abbrev pub chain_length : Shape → Place → List ℕ → ℕ
chain_length shape object content = if not
    (is_reserved shape object.block) && is_empty content then 0 else blocks_for (length content)
    (shape.words - 1)

-- the words of the window keep this content of the object in this chain. That its blocks are blocks
-- of the window, each
-- once, is said by the part on blocks
pub record IsKeptIn (shape : Shape) (sizes : Place → ℕ) (cells : Place → ℕ → ℕ) (object : Place)
    (chain : List Place) (content : List ℕ) : Type 0 where
  pub size : sizes object ≡ length content
  pub few_words : length content ≤ 2 ^ 20
  pub blocks : length chain ≡ chain_length shape object content
  pub linked : AreLinked cells chain
  pub payload : (k : ℕ) → k < length content
      → cells (get_or chain (k / (shape.words - 1)) metadata)
      (1 + k % (shape.words - 1)) ≡ get_or content k 0

abbrev pub IsKept : Shape → (Place → ℕ) → (Place → ℕ → ℕ) → Place → List Place → Option (List ℕ)
    → Type 0
IsKept shape sizes cells object chain None = sizes object ≡ 0
IsKept shape sizes cells object chain (Some content) =
    IsKeptIn shape sizes cells object chain content

-- It reads the length words and the cells words.
abbrev pub ObjectsStand : Shape → (Place → ℕ) → (Place → ℕ → ℕ) → Objects → Type 0
ObjectsStand shape sizes cells objects = (object : Place) → IsBlock shape object
    → IsKept shape sizes cells object (objects object).chain (objects object).content

-- It reads the heads and the free-list words.
pub record FreeListsStand (heads : ℕ → ℕ) (nexts : Place → ℕ) (free : ℕ → List Place) : Type 0 where
  pub lists : (rank : ℕ) → IsFreeList heads nexts rank (free rank)
  -- so that what was loaded from one can stand in a head
  pub links : (block : Place) → nexts block < 2 ^ 20

abbrev pub with_standing : Objects → Place → Standing → Objects
with_standing objects object new other = if same_place other object then new else objects other

-- the blocks of an object, also while it is detached, lie on its rank, and its own is the first
pub record LiesAt (object : Place) (chain : List Place) : Type 0 where
  pub begins : BeginsAt object chain
  pub one_rank : AllByRecursion (λ (block : Place). block.rank ≡ object.rank) chain

abbrev pub ChainsLie : Objects → Type 0
ChainsLie objects = (object : Place) → LiesAt object (objects object).chain

-- the free list of one rank is another
abbrev pub with_list : (ℕ → List Place) → ℕ → List Place → ℕ → List Place
with_list free rank list other = if other == rank then list else free other
