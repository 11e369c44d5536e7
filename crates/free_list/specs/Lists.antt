-- The list behind a head: each block leads to the next by its free-list word.
use Rattle.std.specs.Prelude.{◌≡◌, ℕ, zero, suc, ◌==◌, List, [], ◌∷◌, if◌then◌else◌}
use Rattle.std.specs.List.{AllByRecursion}
use Rattle.rma_layout.specs.Placement.{Place}
use Rattle.free_list.specs.Heads.{first_of}

-- the number of the first of these blocks, 0 if there is none
abbrev pub number_to : List Place → ℕ
number_to [] = 0
number_to (block ∷ more) = block.block

-- the list without its first
abbrev pub behind : List Place → List Place
behind [] = []
behind (block ∷ more) = more

-- each block leads to the next, and the last to 0
abbrev pub AreThreaded : (Place → ℕ) → List Place → Type 0
AreThreaded nexts [] = Unit {0}
AreThreaded nexts (block ∷ more) = (nexts block ≡ number_to more) × AreThreaded nexts more

-- the head of the rank leads to the first of these blocks, they lead from one to the other, and all
-- are blocks of the rank
pub record IsFreeList (heads : ℕ → ℕ) (nexts : Place → ℕ) (rank : ℕ)
    (list : List Place) : Type 0 where
  pub first : first_of (heads rank) ≡ number_to list
  pub threaded : AreThreaded nexts list
  pub one_rank : AllByRecursion (λ block. block.rank ≡ rank) list

-- the list that a walk finds: from this block of the rank along the free-list words to 0, through so
-- many blocks at most
abbrev pub walked_list : (Place → ℕ) → ℕ → ℕ → ℕ → List Place
walked_list nexts rank zero first = []
walked_list nexts rank (suc n) first =
    let block : Place = record { rank = rank; block = first } in
    if first == 0 then [] else block ∷ walked_list nexts rank n (nexts block)
