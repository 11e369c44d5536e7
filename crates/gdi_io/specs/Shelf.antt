-- What is known of a shelf of files, and what its calls do to it.
use Rattle.std.specs.Prelude.{◌≡◌, ℕ, ◌+◌, ◌≤◌, min, Bool, IsTrue, List, [], length, take, drop, Option, Some, None, IfSome, IfNone, Result, OnOk, OnErr, IfOk, is_err, ◌↔◌}
use Rattle.gdi_kinds.specs.declared.named_bytes.NamedBytes.{NamedBytes}
use Rattle.gdi_io.specs.Faults.{HasCause, last_count}
use Rattle.gdi_io.specs.Files.{file_place, bytes_of}

pub record Told : Type 0 where
  -- how often it has failed: a number that never falls
  pub faults : ℕ
  -- whether its last call failed
  pub halted : Bool
  -- how many bytes were read since the last file was selected; at the last u64 it stays there
  pub given : ℕ
  -- the files by name, where the shelf tells them
  pub files : Option (List NamedBytes)
  -- the place of the file last selected, or none if that name isn't held; told where the files are
  pub at : Option (Option ℕ)
  -- what is left to read of it, where told
  pub left : Option (List ℕ)

-- a shelf that tells nothing of its files
abbrev pub silent : ℕ → Bool → ℕ → Told
silent faults halted given = record {
  faults = faults;
  halted = halted;
  given = given;
  files = None;
  at = None;
  left = None;
}

-- its last call failed and, where told, the file last selected is this one
pub record IsHaltedAt (shelf : Told) (name : List ℕ) : Type 0 where
  pub halted : IsTrue shelf.halted
  pub at : IfSome shelf.files (λ files. shelf.at ≡ Some (file_place files name))

-- selecting the file of a name
pub record Selects {T E : Type 0} (old new : Told) (name : List ℕ) (result : Result T E) : Type 0 where
  pub cause : HasCause old.faults new.faults result
  pub halted : new.halted ≡ is_err result
  pub given : new.given ≡ 0
  pub files : new.files ≡ old.files
  pub at : IfSome old.files (λ files. new.at ≡ Some (file_place files name))
  pub untold : IfNone old.files (new.at ≡ None)
  pub left : IfSome old.files (λ files. OnOk result (new.left ≡ Some (bytes_of files name)))

-- reading into a piece that isn't empty: its bytes after the call
pub record Reads {E : Type 0} (old new : Told) (piece : List ℕ) (result : Result ℕ E) : Type 0 where
  pub cause : HasCause old.faults new.faults result
  pub halted : new.halted ≡ is_err result
  pub bound : IfOk result (λ n. n ≤ length piece)
  pub given : IfOk result (λ n. new.given ≡ min (old.given + n) last_count)
  pub given_err : OnErr result (new.given ≡ old.given)
  pub files : new.files ≡ old.files
  pub at : new.at ≡ old.at
  -- where told, the front of what was left has come, and nothing only at the end
  pub front : IfOk result (λ n. IfSome old.left (λ left. take n piece ≡ take n left))
  pub whole : IfOk result (λ n. IfSome old.left (λ left. n ≤ length left))
  pub left : IfOk result (λ n. IfSome old.left (λ left. new.left ≡ Some (drop n left)))
  pub ended : IfOk result (λ n. IfSome old.left (λ left. (n ≡ 0) ↔ (left ≡ [])))
