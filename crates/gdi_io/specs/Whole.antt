-- Reading a whole file, and writing all of a text.
use Rattle.std.specs.Prelude.{◌≡◌, ℕ, ◌<◌, ◌≤◌, ◌↔◌, List, length, take, IfSome, Result, OnOk, OnErr, IfOk, IsErrOf, IsTrue}
use Rattle.gdi_io.specs.declared.refused.ReadRefused.{ReadRefused}
use Rattle.gdi_io.specs.declared.refused.ReadRefused.TheVariants as refused
use Rattle.gdi_io.specs.Faults.{HasCause, Rose}
use Rattle.gdi_io.specs.Files.{bytes_of}
use Rattle.gdi_io.specs.Shelf.{Told, IsHaltedAt}
use Rattle.gdi_io.specs.Sink.{Taken, Takes, KeepsTold}

-- the longest file that is read, in bytes
abbrev pub longest_file : ℕ
longest_file = 67108864

-- reading the file of a name to its end
pub record ReadsAll (old new : Told) (name : List ℕ) (result : Result (List ℕ) ReadRefused) : Type 0 where
  pub later : old.faults ≤ new.faults
  pub files : new.files ≡ old.files
  -- where told, it is the whole file
  pub whole : IfOk result (λ bytes. IfSome old.files (λ files. bytes ≡ bytes_of files name))
  pub short : IfOk result (λ bytes. length bytes ≤ longest_file)
  -- told or not, these are as many bytes as were read
  pub given : IfOk result (λ bytes. new.given ≡ length bytes)
  pub failed : IsErrOf result refused.Failed → Rose old.faults new.faults
  pub halted : IsErrOf result refused.Failed → IsHaltedAt new name
  -- a shelf that failed is told of, and of nothing else
  pub halted_only : IsTrue new.halted → IsErrOf result refused.Failed
  -- too long is answered exactly where one byte past the longest file was read
  pub too_long : IsErrOf result refused.TooLong ↔ (longest_file < new.given)
  pub longer : IsErrOf result refused.TooLong → IfSome old.files (λ files. longest_file < length (bytes_of files name))

-- writing all of the bytes: what was taken is all of them, or a part from the front
pub record WritesAll {T E : Type 0} (old new : Taken) (bytes : List ℕ) (result : Result T E) : Type 0 where
  pub cause : HasCause old.faults new.faults result
  pub told : KeepsTold old new
  pub ok : OnOk result (Takes old new bytes)
  pub err : OnErr result ((n : ℕ) × (n ≤ length bytes) × Takes old new (take n bytes))
