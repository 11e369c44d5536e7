-- Counts of faults. A count is a number of 64 bits that never falls.
use Rattle.std.specs.Prelude.{ℕ, ◌+◌, ◌-◌, ◌^◌, ◌≤◌, min, Result, OnErr, is_err, if◌then◌else◌}

-- the last number of 64 bits
abbrev pub last_count : ℕ
last_count = 2 ^ 64 - 1

-- the count rose, or stands at its last value
abbrev pub Rose : ℕ → ℕ → Type 0
Rose before now = min (before + 1) last_count ≤ now

-- the count didn't fall, and the call failed only where it rose
pub record HasCause {T E : Type 0} (before now : ℕ) (result : Result T E) : Type 0 where
  pub later : before ≤ now
  pub failed : OnErr result (Rose before now)

-- the count after a call that raises it exactly where it fails
abbrev pub faults_after : {T E : Type 0} → Result T E → ℕ → ℕ
faults_after result before = if is_err result then min (before + 1) last_count else before
