-- The numbers that a drill draws.
use Rattle.std.specs.Prelude.{ℕ, zero, suc, ◌+◌, ◌*◌, ◌%◌}

-- the generator's number behind another
abbrev pub next_state : ℕ → ℕ
next_state x = (75 * x + 74) % 65537

-- its number after so many draws
abbrev pub state_after : ℕ → ℕ → ℕ
state_after seed zero = seed % 65537
state_after seed (suc k) = next_state (state_after seed k)

-- the draw number `k`, from 0, among the first `n` numbers
abbrev pub drawn : ℕ → ℕ → ℕ → ℕ
drawn seed n k = state_after seed (k + 1) % n
