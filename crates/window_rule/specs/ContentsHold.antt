-- The part of the invariant on contents: what views have read and detached, and what the history
-- has.
use Rattle.std.specs.Prelude.{◌≡◌, ◌≢◌, ℕ, ◌<◌, ◌⊎◌, List, [], map, get_or, Option, Some, None}
use Rattle.std.specs.List.{AllByRecursion}
use mathlib.Core.List.{IsPrefix}
use Rattle.rma_layout.specs.Shape.{Shape}
use Rattle.rma_layout.specs.Placement.{Place, IsBlock}
use Rattle.object_words.specs.Contents.{Contents, content_of}
use Rattle.window_rule.specs.View.{View, Hold, Shared, Marked, Returning, Locks, KnownWords, Reading, Known, Cell, Dirt, OwnBlock, GatePlace, AsWriter, AsWhole}
use Rattle.window_rule.specs.Locks.{hold_of}
use Rattle.window_rule.specs.Dirty.{dirt_of}
use Rattle.window_rule.specs.Known.{known_of, cell_of}
use Rattle.window_rule.specs.Partition.{times, places_of}
use Rattle.window_rule.specs.Objects.{Objects, Standing}
use Rattle.window_rule.specs.EachView.{EachView}

-- the words of a block that a view knows
abbrev pub AreKnown : (Place → ℕ → ℕ) → Place → KnownWords → Type 0
AreKnown cells block known = AllByRecursion (λ (one : ℕ × ℕ). cells block one.0 ≡ one.1) known

abbrev pub BlocksAreKnown : (Place → ℕ → ℕ) → List (Place × KnownWords) → Type 0
BlocksAreKnown cells blocks = AllByRecursion
    (λ (one : Place × KnownWords). AreKnown cells one.0 one.1) blocks

abbrev pub blocks_in : List (Place × KnownWords) → List Place
blocks_in blocks = map (λ (one : Place × KnownWords). one.0) blocks

-- An object that no view has detached has the content that the history gives it. It reads no word
-- and no view but the history.
abbrev pub ContentsAgree : Shape → Contents → Objects → Type 0
ContentsAgree shape store objects = (object : Place) → IsBlock shape object
    → (objects object).writer ≡ None → (objects object).content ≡ Some (content_of store object)

-- what a view has of an object that it has detached
pub record IsDirt (stored : List ℕ) (standing : Standing) (id : ℕ) (dirt : Dirt) : Type 0 where
  pub writer : standing.writer ≡ Some id
  pub chain : standing.chain ≡ dirt.blocks
  pub content : standing.content ≡ dirt.attached
  pub kept : dirt.kept ≡ stored

abbrev pub IsDirtOrNone : List ℕ → Standing → ℕ → Option Dirt → Type 0
IsDirtOrNone stored standing id None = standing.writer ≢ Some id
IsDirtOrNone stored standing id (Some dirt) = IsDirt stored standing id dirt

-- An object has the writer that has dirt of it, whatever the number. It reads no word, and the dirt
-- of each view.
abbrev pub DirtHolds : Contents → Objects → List (List Dirt) → Type 0
DirtHolds store objects dirts = (id : ℕ) (object : Place)
    → IsDirtOrNone (content_of store object) (objects object) id
    (dirt_of (get_or dirts id []) object)

-- what was read of an object word by word is so
pub record IsRead (sizes : Place → ℕ) (cells : Place → ℕ → ℕ) (object : Place) (chain : List Place)
    (reading : Reading) : Type 0 where
  pub size : (n : ℕ) → reading.size ≡ Some n → sizes object ≡ n
  pub blocks : IsPrefix (blocks_in reading.blocks) chain
  pub known : BlocksAreKnown cells reading.blocks

-- what a view knows of an object is so
pub record IsKnown (chain : List Place) (content : Option (List ℕ)) (known : Known) : Type 0 where
  pub chain_is : chain ≡ known.chain
  pub content_is : content ≡ Some known.content

-- the locks under which what is read lasts
abbrev pub Lasts : Option Hold → Type 0
Lasts None = ⊥
Lasts (Some Shared) = Unit {0}
Lasts (Some Marked) = Unit {0}
Lasts (Some Returning) = ⊥

-- what the parts on contents read of a view
pub record Holdings : Type 0 where
  pub locks : Locks
  pub known : List (Place × Known)
  pub dirty : List Dirt
  pub gate : GatePlace

abbrev pub holdings_of : {N : Type 0} → View N → Holdings
holdings_of view =
    record { locks = view.locks; known = view.known; dirty = view.dirty; gate = view.gate }

-- one view's holdings. What it knows is of an object that it has locked and not detached, or it is
-- whole in the gate
pub record AreHeld (objects : Objects) (one : Holdings) : Type 0 where
  pub read : (object : Place) (known : Known) → known_of one.known object ≡ Some known
      → IsKnown (objects object).chain (objects object).content known
      × (dirt_of one.dirty object ≡ None)
      × (Lasts (hold_of one.locks object) ⊎ (one.gate ≡ AsWhole))
  pub marked : (object : Place) (dirt : Dirt) → dirt_of one.dirty object ≡ Some dirt
      → (hold_of one.locks object ≡ Some Marked) × (one.gate ≡ AsWriter)

-- It reads no word, and the locks, what is known, the dirt and the gate place of each view.
abbrev pub HoldingsHold : {N : Type 0} → Objects → List (View N) → Type 0
HoldingsHold {N} objects views = EachView (holdings_of {N = N}) (λ _. AreHeld objects) views

-- the blocks of a view's own have the free-list words that it knows of them
abbrev pub IsOwnKnown : (Place → ℕ) → OwnBlock → Type 0
IsOwnKnown nexts own = (next : ℕ) → own.next ≡ Some next → nexts own.block ≡ next

-- It reads the free-list words, and the blocks of each view's own.
abbrev pub OwnBlocksHold : {N : Type 0} → (Place → ℕ) → List (View N) → Type 0
OwnBlocksHold {N} nexts views = EachView (λ (v : View N). v.private)
    (λ _. AllByRecursion (IsOwnKnown nexts)) views

-- what the part on cells reads of a view
pub record Stash : Type 0 where
  pub private : List OwnBlock
  pub dirty : List Dirt
  pub cells : List Cell

abbrev pub stash_of : {N : Type 0} → View N → Stash
stash_of view = record { private = view.private; dirty = view.dirty; cells = view.cells }

-- the block is of the view's own, or of an object that it has detached
abbrev pub HasBlock : Stash → Place → Type 0
HasBlock stash block = (0 < times block (places_of stash.private))
    ⊎ ((object : Place) × (dirt : Dirt) × (dirt_of stash.dirty object ≡ Some dirt)
    × (0 < times block dirt.blocks))

-- what the view knows of the words of its blocks is so
abbrev pub AreCells : (Place → ℕ → ℕ) → Stash → Type 0
AreCells cells stash = (block : Place) (i word : ℕ) → HasBlock stash block
    → cell_of stash.cells block i ≡ Some word → cells block i ≡ word

-- It reads the cells words, and the blocks and the cells of each view.
abbrev pub CellsHold : {N : Type 0} → (Place → ℕ → ℕ) → List (View N) → Type 0
CellsHold {N} cells views = EachView (stash_of {N = N}) (λ _. AreCells cells) views
