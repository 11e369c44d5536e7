-- A shelf in memory: what it holds, which of its calls fail, and how much a read gives.
use Rattle.std.specs.Prelude.{◌≡◌, ℕ, ◌+◌, min, Bool, false, ◌||◌, List, [], length, Option, Some, None, is_none, Result, IfOk, is_err}
use Rattle.gdi_kinds.specs.declared.named_bytes.NamedBytes.{NamedBytes}
use Rattle.gdi_io.specs.Faults.{last_count, faults_after}
use Rattle.gdi_io.specs.Files.{file_place}
use Rattle.gdi_io.specs.Listed.{is_listed}
use Rattle.gdi_io.specs.Shelf.{Told}

pub record MemFiles : Type 0 where
  pub files : List NamedBytes
  -- the numbers of the calls that are to fail
  pub fails : List ℕ
  -- the number of the next call
  pub calls : ℕ
  pub faults : ℕ
  pub halted : Bool
  pub given : ℕ
  -- the place of the file last selected, or none
  pub at : Option ℕ
  -- what is left to read of it
  pub left : List ℕ

-- it tells all
abbrev pub told_of : MemFiles → Told
told_of shelf = record {
  faults = shelf.faults;
  halted = shelf.halted;
  given = shelf.given;
  files = Some shelf.files;
  at = Some shelf.at;
  left = Some shelf.left;
}

-- nothing was called yet: no file is selected
abbrev pub untouched : List NamedBytes → List ℕ → MemFiles
untouched files fails = record {
  files = files;
  fails = fails;
  calls = 0;
  faults = 0;
  halted = false;
  given = 0;
  at = None;
  left = [];
}

-- a call is counted, and a failure as a fault
pub record CountsCall {T E : Type 0} (old new : MemFiles) (result : Result T E) : Type 0 where
  pub calls : new.calls ≡ min (old.calls + 1) last_count
  pub fails : new.fails ≡ old.fails
  pub faults : new.faults ≡ faults_after result old.faults

-- a select fails exactly where its number is listed or the name isn't held
pub record MemSelects {T E : Type 0} (old new : MemFiles) (name : List ℕ) (result : Result T E) : Type 0 where
  pub counted : CountsCall old new result
  pub failed : is_err result ≡ (is_listed old.fails old.calls || is_none (file_place old.files name))

-- a read fails exactly where its number is listed, and else gives as much of what is left as the piece holds
pub record MemReads {E : Type 0} (old new : MemFiles) (piece : List ℕ) (result : Result ℕ E) : Type 0 where
  pub counted : CountsCall old new result
  pub failed : is_err result ≡ is_listed old.fails old.calls
  pub most : IfOk result (λ n. n ≡ min (length piece) (length old.left))
