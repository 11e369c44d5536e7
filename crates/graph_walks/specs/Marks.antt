-- Marks by place.
use Rattle.std.specs.Prelude.{ℕ, List, Option, Some, None, if◌then◌else◌, ◌==◌}
use Rattle.std.specs.List.{slice_index_or}

-- the greatest number of 32 bits says that there is no mark
abbrev pub mark_of : ℕ → Option ℕ
mark_of n = if n == 4294967295 then None else Some n

-- the mark of a place
abbrev pub mark_at : List (Option ℕ) → ℕ → Option ℕ
mark_at marks place = slice_index_or marks place None
