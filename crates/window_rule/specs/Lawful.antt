-- The whole invariant, as it will be.
use Rattle.std.specs.Prelude.{◌≡◌, ℕ, List, length, map, Option}
use Rattle.rma_layout.specs.declared.word.Word.TheVariants.{Commit, Gate}
use Rattle.rma_layout.specs.Shape.{Shape, window_words}
use Rattle.atomic_table.specs.Table.{State}
use Rattle.rma_layout.specs.Placement.{Place}
use Rattle.object_words.specs.Entries.{Entry, store_after}
use Rattle.window_rule.specs.View.{View, Dirt, OwnBlock}
use Rattle.window_rule.specs.Words.{Words, words_in, sizes_in, data_in, nexts_in, heads_in, stamps_in}
use Rattle.window_rule.specs.RightsHold.{RightsHold, stake_of}
use Rattle.window_rule.specs.SpentHold.{SpentHold}
use Rattle.window_rule.specs.LocksHold.{LocksHold}
use Rattle.window_rule.specs.Words.{locks_in}
use Rattle.window_rule.specs.View.{Locks}
use Rattle.window_rule.specs.HistoryHolds.{HistoryHolds}
use Rattle.window_rule.specs.GateHolds.{GateHolds}
use Rattle.window_rule.specs.Objects.{Objects, ObjectsStand, ChainsLie, FreeListsStand}
use Rattle.window_rule.specs.ContentsHold.{ContentsAgree, DirtHolds, HoldingsHold, OwnBlocksHold, CellsHold}
use Rattle.window_rule.specs.MemoryHolds.{MemoryHolds}
use Rattle.window_rule.specs.RoomHolds.{RoomHolds}
use Rattle.window_rule.specs.Partition.{IsPartition, Holder, part_of}
use Rattle.window_rule.specs.NotesHold.{NotesHold}
use Rattle.window_rule.specs.StampsHold.{StampsHold}

abbrev pub locks_of : {N : Type 0} → View N → Locks
locks_of view = view.locks

abbrev pub owns_of : {N : Type 0} → List (View N) → List (List OwnBlock)
owns_of {N} views = map (λ (v : View N). v.private) views

abbrev pub dirts_of : {N : Type 0} → List (View N) → List (List Dirt)
dirts_of {N} views = map (λ (v : View N). v.dirty) views

-- what stands behind the words
pub record Ground (N : Type 0) : Type 0 where
  pub history : List (Entry N)
  pub objects : Objects
  pub free : ℕ → List Place
  pub owner : Place → Holder
  pub opener : Place → Option ℕ

pub record Holds {N : Type 0} (fits : Shape → Entry N → Type 0) (shape : Shape) (words : Words)
    (views : List (View N)) (ground : Ground N) : Type 0 where
  pub rights : RightsHold shape (words Commit) (map stake_of views)
  pub spent : SpentHold views
  pub locks : LocksHold shape (locks_in words) (map locks_of views)
  pub gate : GateHolds (words Gate) (map (λ (v : View N). v.gate) views)
  pub history : HistoryHolds fits shape (words Commit) ground.history views
  pub objects : ObjectsStand shape (sizes_in words) (data_in words) ground.objects
  pub lie : ChainsLie ground.objects
  pub free : FreeListsStand (heads_in words) (nexts_in words) ground.free
  pub blocks : IsPartition shape (part_of ground.free (owns_of views) ground.objects) ground.owner
  pub contents : ContentsAgree shape (store_after ground.history) ground.objects
  pub dirt : DirtHolds (store_after ground.history) ground.objects (dirts_of views)
  pub holdings : HoldingsHold ground.objects views
  pub memory : MemoryHolds shape views
  pub own : OwnBlocksHold (nexts_in words) views
  pub cells : CellsHold (data_in words) views
  pub room : RoomHolds shape views
  pub notes : NotesHold shape (heads_in words) ground.free views
  pub stamps : StampsHold shape (stamps_in words) (words Commit) ground.opener views

pub record IsLawful {N : Type 0} (fits : Shape → Entry N → Type 0) (shape : Shape) (words : Words)
    (views : List (View N)) : Type 0 where
  pub ground : Ground N
  pub holds : Holds fits shape words views ground

-- the rule of the table
pub record IsRuled {S N : Type 0} (fits : Shape → Entry N → Type 0) (shape : Shape)
    (state : State S (View N)) : Type 0 where
  pub sized : length state.words ≡ window_words shape
  pub lawful : IsLawful fits shape (words_in shape state.words) state.views
