-- A sink in memory: what it keeps, which of its calls fail, and how much a write takes.
use Rattle.std.specs.Prelude.{◌≡◌, ℕ, ◌+◌, ◌-◌, ◌<◌, min, List, [], length, Some, false, Result, IfOk, OnOk, OnErr}
use Rattle.gdi_io.specs.Faults.{last_count, faults_after}
use Rattle.gdi_io.specs.Listed.{is_listed}
use Rattle.gdi_io.specs.Sink.{Taken}

pub record MemBytes : Type 0 where
  -- the bytes that it keeps
  pub kept : List ℕ
  -- how many more it takes
  pub room : ℕ
  -- the numbers of the calls that are to fail
  pub fails : List ℕ
  -- the number of the next call
  pub calls : ℕ
  pub faults : ℕ

-- it tells all that it took
abbrev pub taken_of : MemBytes → Taken
taken_of sink = record { faults = sink.faults; taken = Some sink.kept }

-- nothing was written yet
abbrev pub unwritten : ℕ → List ℕ → MemBytes
unwritten limit fails = record { kept = []; room = limit; fails = fails; calls = 0; faults = 0 }

-- a write takes as much of the piece as there is room for, and fails where its number is listed, where there is no
-- room, or for want of memory
pub record MemWrites {E : Type 0} (old new : MemBytes) (piece : List ℕ) (result : Result ℕ E) : Type 0 where
  pub calls : new.calls ≡ min (old.calls + 1) last_count
  pub fails : new.fails ≡ old.fails
  pub faults : new.faults ≡ faults_after result old.faults
  pub not_listed : OnOk result (is_listed old.fails old.calls ≡ false)
  pub has_room : OnOk result (0 < old.room)
  pub most : IfOk result (λ n. n ≡ min (length piece) old.room)
  pub room : IfOk result (λ n. new.room ≡ old.room - n)
  pub room_err : OnErr result (new.room ≡ old.room)
