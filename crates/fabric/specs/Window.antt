-- A window and a rank, as contracts see them.
use Rattle.std.specs.Prelude.{◌≡◌, ◌≢◌, ℕ, ◌<◌, Bool, true, false, List, [], length, get_or, Some, if◌then◌else◌}
use Rattle.rma_layout.specs.Shape.{Shape, window_words}
use Rattle.rma_layout.specs.Ranges.{IsInRange}
use Rattle.atomic_table.specs.Seated.{TableId}
use Rattle.atomic_table.specs.Table.{Me}
use Rattle.window_rule.specs.View.{View}
use Rattle.window_rule.specs.HistoryHolds.{is_among}
use Rattle.window_rule.specs.Opening.{first_note}
use Rattle.window_rule.specs.Pool.{note_of}
use Rattle.window_rule.specs.Spares.{SpareEnds, HasSpares}

-- which window it is, and its shape
pub record WindowModel : Type 0 where
  pub id : TableId
  pub shape : Shape

-- the window that a rank is of, what it knows, and which of its own blocks it keeps as spares
pub record RankModel (N : Type 0) : Type 0 where
  pub window : WindowModel
  pub view : View N
  pub spares : SpareEnds

-- these are the rights, as a table that tells of each of the 64 ranks that a window may have whether
-- its right is among them
pub record AreRights (held : List Bool) (rights : List ℕ) : Type 0 where
  pub sized : length held ≡ 64
  pub each : (rank : ℕ) → get_or held rank false ≡ is_among rank rights

-- of two, one at least
abbrev pub any : Bool → Bool → Bool
any one other = if one then true else other

-- what is so of every rank: it is a seat without a slot that stands for some rank of the window, has
-- a table of its rights, and its spares are chained
pub record IsRank {S N : Type 0} (shape : Shape) (me : Me S (View N)) (ends : SpareEnds)
    (held : List Bool) : Type 0 where
  pub slots : me.1 ≡ []
  pub live : me.0.rights ≢ []
  pub rights : AreRights held me.0.rights
  pub has : HasSpares shape me.0.private ends

-- the table of a window has the words that its shape asks for
pub record IsSized (id : TableId) (key shape : Shape) : Type 0 where
  pub words : id.words ≡ window_words shape
  pub same : key ≡ shape
  pub in_range : IsInRange shape

-- the view knows each free list, with the head that a window begins with
abbrev pub HasLists : {N : Type 0} → Shape → ℕ → View N → Type 0
HasLists shape tag view = (rank : ℕ) → rank < shape.ranks
    → note_of view.notes rank ≡ Some (first_note shape tag rank)
