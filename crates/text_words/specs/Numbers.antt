-- How a number begins.
use Rattle.std.specs.Prelude.{ℕ, Bool, false, ◌&&◌, List, [], ◌∷◌, length, nat_le, if◌then◌else◌, ◌==◌}

-- a 0 that stands alone, or a digit from 1 to 9
abbrev pub begins_number : List ℕ → Bool
begins_number [] = false
begins_number (digit ∷ digits) = if digit == 48 then length digits == 0 else nat_le 49 digit && nat_le digit 57
