-- The names of labels and property types.
use Rattle.std.specs.Prelude.{◌≡◌, ℕ, ◌-◌, Bool, false, ◌&&◌, ◌||◌, IsTrue, List, [], ◌∷◌, ◌++◌, length, take, replicate, nat_le, ◌==◌}
use Rattle.std.specs.List.{list_all}

-- an ASCII letter or `_`
abbrev pub begins_name : ℕ → Bool
begins_name b = (nat_le 65 b && nat_le b 90) || (nat_le 97 b && nat_le b 122) || b == 95

-- such a byte or an ASCII digit
abbrev pub continues_name : ℕ → Bool
continues_name b = begins_name b || (nat_le 48 b && nat_le b 57)

-- 1 to 63 bytes, the first of which begins a name, and the others go on with it
abbrev pub is_name : List ℕ → Bool
is_name [] = false
is_name (b ∷ bs) = begins_name b && list_all continues_name bs && nat_le (length bs) 62

abbrev pub IsName : List ℕ → Type 0
IsName bytes = IsTrue (is_name bytes)

-- a name in a field of 63 bytes: the bytes behind it are 0
abbrev pub name_of : ℕ → List ℕ → List ℕ
name_of len field = take len field

abbrev pub padded : List ℕ → List ℕ
padded bytes = bytes ++ replicate (63 - length bytes) 0

pub record IsPaddedName (len : ℕ) (field : List ℕ) : Type 0 where
  pub name : IsName (take len field)
  pub whole : length (take len field) ≡ len
  pub zeros : padded (take len field) ≡ field
