-- What committing an entry asks of a view, and makes of it.
use Rattle.std.specs.Prelude.{◌≡◌, ◌≢◌, ℕ, ◌+◌, ◌-◌, ◌<◌, ◌≤◌, ◌&&◌, ◌||◌, not, Bool, List, [], ◌∷◌, ◌++◌, map, length, Option, Some, None, is_some, ◌⊎◌, ◌==◌, if◌then◌else◌}
use mathlib.Core.List.{IsPrefix}
use Rattle.rma_layout.specs.Shape.{Shape}
use Rattle.rma_layout.specs.Placement.{Place, IsBlock}
use Rattle.object_words.specs.Blocks.{one_if, growth, is_reserved, on_rank as place_on}
use Rattle.object_words.specs.Contents.{Contents, words_at, is_empty}
use Rattle.object_words.specs.Entries.{Entry, HasMaps}
use Rattle.window_rule.specs.View.{View, Dirt, Known}
use Rattle.window_rule.specs.Dirty.{dirt_of}
use Rattle.window_rule.specs.RightsHold.{least_of}
use Rattle.window_rule.specs.Objects.{Objects}
use Rattle.window_rule.specs.ContentsHold.{Lasts}
use Rattle.window_rule.specs.Known.{known_of}
use Rattle.window_rule.specs.Locks.{hold_of}
use Rattle.window_rule.specs.Partition.{places_of}
use Rattle.window_rule.specs.RoomHolds.{sum_below, count_on, asked_at, kept_at}

abbrev pub attached_of : Option Dirt → Option (List ℕ)
attached_of None = None
attached_of (Some dirt) = dirt.attached

abbrev pub need_from : Shape → Place → List ℕ → Option (List ℕ) → ℕ
need_from shape object kept None = 0
need_from shape object kept (Some after) = one_if
    (not (is_reserved shape object.block) && is_empty kept) + growth shape object.block kept after

-- the blocks that the writes of an object need beyond what it has
abbrev pub need_of : Shape → Place → Option Dirt → ℕ
need_of shape object None = 0
need_of shape object (Some dirt) = need_from shape object dirt.kept dirt.attached

abbrev pub flagged : List Dirt → List (Place × Bool) → List (Place × Bool)
flagged dirty opened = map
    (λ (one : Place × Bool). (one.0, one.1 || is_some (dirt_of dirty one.0))) opened

abbrev pub committed : {N : Type 0} → List (Entry N) → Entry N → View N → View N
committed history entry view = record view {
  allowance = view.allowance - 1;
  dirty = [];
  stamps = record view.stamps { opened = flagged view.dirty view.stamps.opened };
  seen = history ++ entry ∷ [];
  own = view.own ++ length history ∷ [];
  heard = [];
}

-- the object is no longer with its writer
abbrev pub released : ℕ → Option ℕ → Option ℕ
released id None = None
released id (Some writer) = if writer == id then None else Some writer

abbrev pub released_from : Objects → ℕ → Objects
released_from objects id object =
    record {
      writer = released id (objects object).writer;
      chain = (objects object).chain;
      content = (objects object).content;
    }

-- what an entry says that was read, the view has: it detached the object, or it knows it and has it
-- locked
abbrev pub WasRead : {N : Type 0} → View N → Place → List ℕ → Type 0
WasRead view object words =
    ((dirt : Dirt) × (dirt_of view.dirty object ≡ Some dirt) × (dirt.kept ≡ words))
    ⊎ ((known : Known) × (known_of view.known object ≡ Some known) × (known.content ≡ words)
    × Lasts (hold_of view.locks object))

pub record MayCommit {N : Type 0} (fits : Shape → Entry N → Type 0) (shape : Shape) (view : View N)
    (entry : Entry N) : Type 0 where
  pub allowed : 0 < view.allowance
  pub rank : entry.rank ≡ least_of view.rights
  pub fitting : fits shape entry
  pub maps : HasMaps entry
  pub reads : (object : Place) (words : List ℕ) → words_at entry.reads object ≡ Some words
      → IsBlock shape object × WasRead view object words
  pub writes : (object : Place)
      → words_at entry.writes object ≡ attached_of (dirt_of view.dirty object)
  pub attached : (object : Place) (dirt : Dirt) → dirt_of view.dirty object ≡ Some dirt
      → dirt.attached ≢ None
  pub room : (rank : ℕ) → rank < shape.ranks
      → sum_below shape.blocks (asked_at shape view.dirty rank) + sum_below shape.blocks
      (λ b. need_of shape (place_on rank b) (dirt_of view.dirty (place_on rank b)))
      ≤ count_on rank (places_of view.private) + sum_below shape.blocks (kept_at view.dirty rank)

-- the entry that the view makes of these: it is made under the least of its rights
abbrev pub entry_by : {N : Type 0} → View N → Contents → Contents → N → Entry N
entry_by view reads writes note =
    record { rank = least_of view.rights; reads = reads; writes = writes; note = note }

-- the entry is the last of the history, and the view has seen all of it
pub record Commits {N : Type 0} (entry : Entry N) (before : View N) (found : ℕ)
    (after : View N) : Type 0 where
  pub history : List (Entry N)
  pub goes_on : IsPrefix before.seen history
  pub found_is : found ≡ length history
  pub view : after ≡ committed history entry before
