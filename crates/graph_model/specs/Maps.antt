-- Maps and sets as lists in order: a map is its entries by rising key, a set of numbers its elements, rising.
use Rattle.std.specs.Prelude.{ℕ, zero, suc, ◌<◌, Bool, not, IsTrue, List, [], ◌∷◌, map, Option, Some, None, is_some, if◌then◌else◌, ◌==◌}
use Rattle.std.specs.Option.{option_map}
use Rattle.std.specs.List.{list_any, filter, AllByRecursion}
use Rattle.std.specs.Ordering.{nat_cmp}
use Rattle.std.specs.declared.cmp.Ordering.{Ordering}
use Rattle.std.specs.FinMap.{find, put, is_sorted}
use Rattle.std.specs.FinMap.Entries.{by_order}

abbrev pub Map : Type 0 → Type 0 → Type 0
Map K X = List (K × X)

-- whether the keys rise, each above the one before
abbrev pub IsMap : {K X : Type 0} → (K → K → Ordering) → Map K X → Type 0
IsMap cmp entries = IsTrue (is_sorted cmp entries)

-- the value at a key
abbrev pub at : {X : Type 0} → Map ℕ X → ℕ → Option X
at m key = find nat_cmp key m

abbrev pub is_there : {X : Type 0} → Map ℕ X → ℕ → Bool
is_there m key = is_some (at m key)

-- with this value at the key
abbrev pub with_at : {X : Type 0} → Map ℕ X → ℕ → X → Map ℕ X
with_at m key x = put nat_cmp key x m

abbrev pub without : {X : Type 0} → Map ℕ X → ℕ → Map ℕ X
without m key = filter (λ entry. not (entry.0 == key)) m

abbrev pub keys : {K X : Type 0} → Map K X → List K
keys m = map (λ entry. entry.0) m

-- a set of numbers
abbrev pub has : List ℕ → ℕ → Bool
has set n = list_any (λ m. m == n) set

abbrev pub add : ℕ → List ℕ → List ℕ
add n [] = n ∷ []
add n (m ∷ ms) = by_order (nat_cmp n m) (n ∷ m ∷ ms) (m ∷ ms) (m ∷ add n ms)

abbrev pub take_out : ℕ → List ℕ → List ℕ
take_out n set = filter (λ m. not (m == n)) set

-- the set of the numbers of a list
abbrev pub set_of : List ℕ → List ℕ
set_of [] = []
set_of (n ∷ ns) = add n (set_of ns)

-- the place of the first item that passes, from 0
abbrev pub place_where : {X : Type 0} → (X → Bool) → List X → Option ℕ
place_where passes [] = None
place_where passes (x ∷ xs) = if passes x then Some 0 else option_map suc (place_where passes xs)

-- the item at a place
abbrev pub item_at : {X : Type 0} → List X → ℕ → Option X
item_at [] n = None
item_at (x ∷ xs) zero = Some x
item_at (x ∷ xs) (suc n) = item_at xs n

-- the numbers rise, each above the one before
abbrev pub IsSet : List ℕ → Type 0
IsSet [] = Unit {0}
IsSet (n ∷ ns) = AllByRecursion (λ m. n < m) ns × IsSet ns
