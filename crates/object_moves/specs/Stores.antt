-- Words of blocks that are stored one after another.
use Rattle.std.specs.Prelude.{◌≡◌, ℕ, ◌+◌, ◌-◌, ◌/◌, ◌%◌, ◌<◌, ◌≤◌, nat_lt, List, length, get_or, Option, Some, None, if◌then◌else◌}
use Rattle.std.specs.Option.{unwrap_or}
use Rattle.rma_layout.specs.Shape.{Shape}
use Rattle.rma_layout.specs.Placement.{Place, metadata, raw_of}
use Rattle.window_rule.specs.View.{View, Cell}
use Rattle.window_rule.specs.Known.{cell_of}

-- of so many words, each at a place of its own, those below k are stored, and the others are known as
-- they were
pub record IsSettled (n k : ℕ) (block : ℕ → Place) (index target : ℕ → ℕ)
    (first now : List Cell) : Type 0 where
  pub done : (m : ℕ) → m < n → m < k → cell_of now (block m) (index m) ≡ Some (target m)
  pub still : (m : ℕ) → m < n → k ≤ m
      → cell_of now (block m) (index m) ≡ cell_of first (block m) (index m)
  pub apart : (place : Place) (i : ℕ) → ((m : ℕ) → m < n → block m ≡ place → index m ≡ i → ⊥)
      → cell_of now place i ≡ cell_of first place i

-- the link of a block of a chain of so many, if there is a next one
abbrev pub link_in : List Place → ℕ → ℕ → Option ℕ
link_in blocks count j = if nat_lt (j + 1) count then Some
    (raw_of (get_or blocks (j + 1) metadata)) else None

abbrev pub link_word : List Place → ℕ → ℕ → ℕ
link_word blocks count j = unwrap_or (link_in blocks count j) 0

abbrev pub AreLinkedTo : List Place → ℕ → ℕ → List Cell → List Cell → Type 0
AreLinkedTo blocks used k first now =
    IsSettled used k (λ j. get_or blocks j metadata) (λ _. 0) (link_word blocks used) first now

abbrev pub AreFilled : Shape → List Place → List ℕ → ℕ → List Cell → List Cell → Type 0
AreFilled shape blocks words k first now = IsSettled (length words) k
    (λ m. get_or blocks (m / (shape.words - 1)) metadata) (λ m. 1 + m % (shape.words - 1))
    (λ m. get_or words m 0) first now

-- nothing but what is known of words has changed
abbrev pub OnlyCells : {N : Type 0} → View N → View N → Type 0
OnlyCells before after = after ≡ record before { cells = after.cells }
