-- The spares of a rank: blocks of its own, chained through their free-list words, as far as its
-- view knows these. The rank keeps the first and the last number of each chain beside its view, so
-- keeping or using a spare is no step.
use Rattle.std.specs.Prelude.{◌≡◌, ℕ, ◌==◌, ◌<◌, List, [], ◌∷◌, length, get_or, set, Some, if◌then◌else◌}
use Rattle.std.specs.List.{AllByRecursion}
use Rattle.rma_layout.specs.Shape.{Shape}
use Rattle.rma_layout.specs.Placement.{Place}
use Rattle.window_rule.specs.Partition.{times}
use Rattle.window_rule.specs.View.{OwnBlock}
use Rattle.window_rule.specs.Objects.{number_to}
use Rattle.window_rule.specs.Pool.{MayBeFree}
pub use Rattle.window_rule.specs.Pool.{own_next_of, next_in}

-- of each home rank the numbers of the first and the last spare, 0 where there is none. There is a
-- place for each of the 64 ranks that a window may have
pub record SpareEnds : Type 0 where
  pub firsts : List ℕ
  pub lasts : List ℕ

abbrev pub first_spare_of : SpareEnds → ℕ → ℕ
first_spare_of ends rank = get_or ends.firsts rank 0

abbrev pub last_spare_of : SpareEnds → ℕ → ℕ
last_spare_of ends rank = get_or ends.lasts rank 0

-- each block leads to the next, and the last to 0
abbrev pub AreChained : List OwnBlock → List Place → Type 0
AreChained own [] = Unit {0}
AreChained own (block ∷ more) = (own_next_of own block ≡ Some (number_to more))
    × AreChained own more

abbrev pub last_number : List Place → ℕ
last_number [] = 0
last_number (block ∷ []) = block.block
last_number (block ∷ (next ∷ more)) = last_number (next ∷ more)

-- these are the spares of one home rank, in order
pub record AreSpares (shape : Shape) (own : List OwnBlock) (rank first last : ℕ)
    (list : List Place) : Type 0 where
  pub chained : AreChained own list
  pub first_is : first ≡ number_to list
  pub last_is : last ≡ last_number list
  pub places : AllByRecursion (MayBeFree shape rank) list

abbrev pub AreSparesOf : Shape → List OwnBlock → SpareEnds → ℕ → List Place → Type 0
AreSparesOf shape own ends rank list =
    AreSpares shape own rank (first_spare_of ends rank) (last_spare_of ends rank) list

-- each home rank has a chain of spares
pub record HasSpares (shape : Shape) (own : List OwnBlock) (ends : SpareEnds) : Type 0 where
  pub firsts_sized : length ends.firsts ≡ 64
  pub lasts_sized : length ends.lasts ≡ 64
  pub chains : (rank : ℕ) → rank < 64 → (list : List Place) × AreSparesOf shape own ends rank list

-- the block is among no spares
abbrev pub IsNoSpare : Shape → List OwnBlock → SpareEnds → Place → Type 0
IsNoSpare shape own ends block = (list : List Place) → AreSparesOf shape own ends block.rank list
    → times block list ≡ 0

-- a block that leads to the first spare becomes the first
abbrev pub with_spare : Place → SpareEnds → SpareEnds
with_spare block ends = record {
  firsts = set ends.firsts block.rank block.block;
  lasts = set ends.lasts block.rank
      (if first_spare_of ends block.rank == 0 then block.block else last_spare_of ends block.rank);
}

-- the first spare is one no more, and what it leads to is the first
abbrev pub without_spare : ℕ → ℕ → SpareEnds → SpareEnds
without_spare home next ends = record {
  firsts = set ends.firsts home next;
  lasts = set ends.lasts home (if next == 0 then 0 else last_spare_of ends home);
}

-- there is no spare of any rank
abbrev pub AreNone : List ℕ → Type 0
AreNone numbers = (length numbers ≡ 64) × ((rank : ℕ) → get_or numbers rank 0 ≡ 0)

pub record HasNone (ends : SpareEnds) : Type 0 where
  pub firsts : AreNone ends.firsts
  pub lasts : AreNone ends.lasts
