-- The texts of properties.
use Rattle.std.specs.Prelude.{ℕ, ◌≤◌, Bool, not, ◌&&◌, IsTrue, IsUtf8, List, length, nat_le, ◌==◌}
use Rattle.std.specs.List.{list_all}

-- no control byte
abbrev pub is_printable : ℕ → Bool
is_printable b = nat_le 32 b && not (b == 127)

-- UTF-8 of at most 255 bytes without control bytes
abbrev pub IsText : List ℕ → Type 0
IsText bytes = IsUtf8 bytes × IsTrue (list_all is_printable bytes) × (length bytes ≤ 255)
