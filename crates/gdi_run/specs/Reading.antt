-- Reading the files of a command.
use Rattle.std.specs.Prelude.{◌≡◌, ℕ, ◌<◌, ◌≤◌, false, IsTrue, List, [], ◌∷◌, length, Option, Some, IfSome, Result, IfOk, IfErr, OnOk}
use Rattle.std.specs.List.{AllByRecursion}
use Rattle.std.specs.Option.{option_map}
use Rattle.gdi_io.specs.Faults.{Rose}
use Rattle.gdi_io.specs.Files.{bytes_of}
use Rattle.gdi_io.specs.Shelf.{Told, IsHaltedAt}
use Rattle.gdi_io.specs.Whole.{longest_file}
use Rattle.command_words.specs.Items.{Text}
use Rattle.gdi_kinds.specs.declared.named_bytes.NamedBytes.{NamedBytes}
use Rattle.gdi_run.specs.declared.status.FileKind.{FileKind}
use Rattle.gdi_run.specs.declared.status.FileKind.TheVariants as file
use Rattle.gdi_run.specs.declared.status.Status.{Status}
use Rattle.gdi_run.specs.declared.status.Status.TheVariants.{ReadFault, TooLong, NoMemory}
use Rattle.gdi_run.specs.Commands.{FileNames, name_of}

-- why a file of this kind and name isn't read
abbrev pub IsUnread : Told → Told → FileKind → Text → Status → Type 0
IsUnread old new kind name (ReadFault told) = (told ≡ kind) × Rose old.faults new.faults × IsHaltedAt new name
IsUnread old new kind name (TooLong told) = (told ≡ kind) × (longest_file < new.given) × IfSome old.files (λ files. longest_file < length (bytes_of files name))
IsUnread old new kind name NoMemory = Unit {0}
IsUnread old new kind name other = ⊥

-- a shelf that failed is told of, and so is a byte past the longest file
pub record IsToldOf (new : Told) (status : Status) : Type 0 where
  pub halted : IsTrue new.halted → (kind : FileKind) × (status ≡ ReadFault kind)
  pub too_long : longest_file < new.given → (kind : FileKind) × (status ≡ TooLong kind)

-- a shelf that has neither failed nor given too much
pub record IsQuiet (new : Told) : Type 0 where
  pub runs : new.halted ≡ false
  pub short : new.given ≤ longest_file

-- the file of this name, where the shelf tells it: short enough, and whole
pub record IsFile (old : Told) (name : Text) (bytes : List ℕ) : Type 0 where
  pub whole : IfSome old.files (λ files. bytes ≡ bytes_of files name)
  pub short : IfSome old.files (λ files. length (bytes_of files name) ≤ longest_file)

-- reading the file of this name
pub record ReadsFile (old new : Told) (kind : FileKind) (name : Text) (result : Result (List ℕ) Status) : Type 0 where
  pub later : old.faults ≤ new.faults
  pub files : new.files ≡ old.files
  pub ok : IfOk result (λ bytes. IsFile old name bytes × IsQuiet new)
  pub err : IfErr result (λ status. IsUnread old new kind name status × IsToldOf new status)

-- a file that is given, or none
abbrev pub IsGivenFile : Told → Option Text → Option (List ℕ) → Type 0
IsGivenFile old name text =
    IfSome old.files (λ files. (text ≡ option_map (bytes_of files) name) × IfSome name (λ n. length (bytes_of files n) ≤ longest_file))

-- reading a file if it is given
pub record ReadsGiven (old new : Told) (kind : FileKind) (name : Option Text) (result : Result (Option (List ℕ)) Status) : Type 0 where
  pub later : old.faults ≤ new.faults
  pub files : new.files ≡ old.files
  pub ok : IfOk result (IsGivenFile old name)
  pub err : IfErr result (λ status. ((n : Text) × (name ≡ Some n) × IsUnread old new kind n status) × IsToldOf new status)

-- the files that are read before one of this kind
abbrev pub earlier : FileKind → List FileKind
earlier file.Vertices = []
earlier file.Edges = file.Vertices ∷ []
earlier file.Script = file.Vertices ∷ file.Edges ∷ []
earlier file.Output = file.Vertices ∷ file.Edges ∷ file.Script ∷ []

-- a file of this kind that is read is short enough, where the shelf tells it
abbrev pub IsShort : Told → FileNames → FileKind → Type 0
IsShort shelf names kind = IfSome shelf.files (λ files. IfSome (name_of names kind) (λ name. length (bytes_of files name) ≤ longest_file))

-- why the files of these names aren't read: one of them isn't, and those before it are short
pub record AreUnread (old new : Told) (names : FileNames) (status : Status) : Type 0 where
  pub kind : FileKind
  pub name : Text
  pub is : name_of names kind ≡ Some name
  pub why : IsUnread old new kind name status
  pub before : AllByRecursion (IsShort old names) (earlier kind)

-- reading the files of these names, one after the other, for what they hold
pub record ReadsFiles {X : Type 0} (old new : Told) (names : FileNames) (held : List NamedBytes → X) (result : Result X Status) : Type 0 where
  pub later : old.faults ≤ new.faults
  pub files : new.files ≡ old.files
  pub ok : IfOk result (λ x. IfSome old.files (λ files. x ≡ held files) × IsQuiet new)
  pub short : OnOk result (AllByRecursion (IsShort old names) (earlier file.Output))
  pub err : IfErr result (λ status. AreUnread old new names status × IsToldOf new status)
