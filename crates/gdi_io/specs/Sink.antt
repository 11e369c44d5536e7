-- What is known of a sink of bytes, and what a write does to it.
use Rattle.std.specs.Prelude.{◌≡◌, ℕ, ◌≤◌, List, ◌++◌, length, take, Option, Some, None, IsSome, IfSome, Result, OnErr, IfOk}
use Rattle.gdi_io.specs.Faults.{HasCause}

pub record Taken : Type 0 where
  -- how often it has failed: a number that never falls
  pub faults : ℕ
  -- the bytes taken so far, where told
  pub taken : Option (List ℕ)

-- a sink that doesn't tell what it took
abbrev pub untold : ℕ → Taken
untold faults = record { faults = faults; taken = None }

-- new has taken more bytes than old, where told
abbrev pub Takes : Taken → Taken → List ℕ → Type 0
Takes old new more = IfSome new.taken (λ taken. IfSome old.taken (λ before. taken ≡ before ++ more))

-- where it is told after a call, it was told before it
abbrev pub KeepsTold : Taken → Taken → Type 0
KeepsTold old new = IsSome new.taken → IsSome old.taken

-- writing a piece that isn't empty
pub record Writes {E : Type 0} (old new : Taken) (piece : List ℕ) (result : Result ℕ E) : Type 0 where
  pub cause : HasCause old.faults new.faults result
  pub told : KeepsTold old new
  pub least : IfOk result (λ n. 1 ≤ n)
  pub most : IfOk result (λ n. n ≤ length piece)
  pub ok : IfOk result (λ n. Takes old new (take n piece))
  pub err : OnErr result (IfSome new.taken (λ taken. old.taken ≡ Some taken))
