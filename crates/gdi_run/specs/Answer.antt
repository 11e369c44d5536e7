-- What the top call answers, and why.
use Rattle.std.specs.Prelude.{◌≡◌, ◌⊎◌, ℕ, ◌<◌, ◌≤◌, false, Some, List, [], ◌∷◌, ◌++◌, codes, length, take, IfSome}
use Rattle.gdi_kinds.specs.declared.named_bytes.NamedBytes.{NamedBytes}
use Rattle.gdi_kinds.specs.declared.outcome.Printed.{Printed}
use Rattle.gdi_io.specs.Faults.{Rose}
use Rattle.gdi_io.specs.Files.{bytes_of}
use Rattle.gdi_io.specs.Shelf.{Told}
use Rattle.gdi_io.specs.Sink.{Taken, Takes}
use Rattle.gdi_io.specs.Whole.{longest_file}
use Rattle.rma_layout.specs.Shape.{Shape}
use Rattle.outcome_text.specs.Runs.{IsOutput}
use Rattle.command_words.specs.Items.{Text}
use Rattle.command_words.specs.Commands.{Asks, IsRefused}
use Rattle.command_words.specs.declared.command.Command.{Command}
use Rattle.command_words.specs.declared.command.Command.TheVariants.{Run, Check, Drill}
use Rattle.command_words.specs.declared.command.CommandName.{CommandName}
use Rattle.command_words.specs.declared.usage.UsageKind.TheVariants as usage
use Rattle.plain_run.specs.Given.{Given}
use Rattle.plain_run.specs.Loading.{HasRoom}
use Rattle.plain_run.specs.Running.{AreTexts, PrintsLegalRun, TellsFull, TellsWhy}
use Rattle.plain_run.specs.declared.run_refused.RunRefused.{RunRefused}
use Rattle.plain_run.specs.declared.workload.Workload.{Workload}
use Rattle.run_check.specs.declared.illegal.Illegal.{Illegal as WhyIllegal}
use Rattle.plain_check.specs.Checking.{PrintsIllegalRun}
use Rattle.plain_check.specs.Refusals.{IsUnchecked}
use Rattle.plain_check.specs.declared.check_refused.CheckRefused.{CheckRefused}
use Rattle.drill_run.specs.Drills.{PrintsDrill, drill_shape, load_of}
use Rattle.gdi_run.specs.declared.status.FileKind.{FileKind}
use Rattle.gdi_run.specs.declared.status.Status.{Status}
use Rattle.gdi_run.specs.declared.status.Status.TheVariants.{Done, Usage, ReadFault, TooLong, WriteFault, NoMemory}
use Rattle.gdi_run.specs.Commands.{FileNames, Held, Names, held_in, name_of, names_for, no_names}
use Rattle.gdi_run.specs.Reading.{AreUnread}
use Rattle.gdi_run.specs.Statuses.{status_of, status_of_check, status_of_illegal}

abbrev pub legal_line : List ℕ
legal_line = codes "legal" ++ 10 ∷ []

-- what a command writes that is done: what a legal run of the script prints; that the output is such; or what there is to tell of
-- a drill
abbrev pub Writes : Command → Held → List ℕ → Type 0
Writes (Run source script) held written = PrintsLegalRun source.geometry held.texts written
Writes (Check source script output) held written = PrintsLegalRun source.geometry held.texts held.output × (written ≡ legal_line)
Writes (Drill size seed) held written = PrintsDrill drill_shape size seed written
Writes other held written = ⊥

-- why a command isn't done whose files are read: the texts aren't run; the output isn't checked, or it isn't legal; the drill's load
-- isn't taken
abbrev pub Fails : Command → Held → Status → Type 0
Fails (Run source script) held status = (why : RunRefused) × TellsWhy source.geometry held.texts why × (status ≡ status_of why)
Fails (Check source script output) held status =
    ((why : CheckRefused) × IsUnchecked source.geometry held.texts held.output why × (status ≡ status_of_check why))
    ⊎ ((why : WhyIllegal) × PrintsIllegalRun source.geometry held.texts held.output why × (status ≡ status_of_illegal why))
Fails (Drill size seed) held status = (why : RunRefused) × TellsFull drill_shape (load_of size seed) why × (status ≡ status_of why)
Fails other held status = ⊥

-- this is what a command's files hold, where the shelf tells them
abbrev pub AreRead : Told → Command → Held → Type 0
AreRead shelf asked held = IfSome shelf.files (λ files. held ≡ held_in files (names_for asked))

-- The sink took this part of what a command writes. What was taken is told where the sink tells it.
pub record HasWritten (shelf : Told) (asked : Command) (sink sink' : Taken) (part : List ℕ → List ℕ) : Type 0 where
  pub held : Held
  pub written : List ℕ
  pub read : AreRead shelf asked held
  pub writes : Writes asked held written
  pub taken : Takes sink sink' (part written)

-- its files are read, and it isn't done, which this status says
pub record HasFailed (shelf : Told) (asked : Command) (status : Status) : Type 0 where
  pub held : Held
  pub read : AreRead shelf asked held
  pub fails : Fails asked held status

-- why a command ends with a status, and what the sink has then taken
abbrev pub Ends : Told → Told → Command → Taken → Taken → Status → Type 0
Ends shelf shelf' asked sink sink' Done = HasWritten shelf asked sink sink' (λ written. written)
Ends shelf shelf' asked sink sink' WriteFault = Rose sink.faults sink'.faults × ((n : ℕ) × HasWritten shelf asked sink sink' (take n))
Ends shelf shelf' asked sink sink' (ReadFault kind) = AreUnread shelf shelf' (names_for asked) (ReadFault kind) × (sink' ≡ sink)
Ends shelf shelf' asked sink sink' (TooLong kind) = AreUnread shelf shelf' (names_for asked) (TooLong kind) × (sink' ≡ sink)
Ends shelf shelf' asked sink sink' NoMemory = sink' ≡ sink
Ends shelf shelf' asked sink sink' (Usage kind) = ⊥
Ends shelf shelf' asked sink sink' status = HasFailed shelf asked status × (sink' ≡ sink)

-- files that are read are short enough
abbrev pub AreShort : List NamedBytes → FileNames → Type 0
AreShort files names = (kind : FileKind) (name : Text) → name_of names kind ≡ Some name → length (bytes_of files name) ≤ longest_file

-- the texts are a load that has room, and a script
abbrev pub AreRight : Shape → Given → Type 0
AreRight shape texts = (workload : Workload) × AreTexts shape texts workload × HasRoom shape workload.load

-- what a command needs to be done: right texts, and for a check an output that spells a run; for a drill room for its load
abbrev pub MayDo : Command → Held → Type 0
MayDo (Run source script) held = AreRight source.geometry held.texts
MayDo (Check source script output) held = AreRight source.geometry held.texts × ((run : Printed) × IsOutput held.output run)
MayDo (Drill size seed) held = HasRoom drill_shape (load_of size seed)
MayDo other held = ⊥

-- and that its files are short
abbrev pub MayBeDone : List NamedBytes → Command → Type 0
MayBeDone files asked = AreShort files (names_for asked) × MayDo asked (held_in files (names_for asked))

-- how such a command ends: it is done, or memory isn't found; or a check tells that the output isn't legal
abbrev pub IsEnd : Command → Status → Type 0
IsEnd (Check source script output) status = (status ≡ Done) ⊎ (status ≡ NoMemory) ⊎ ((why : WhyIllegal) × (status ≡ status_of_illegal why))
IsEnd asked status = (status ≡ Done) ⊎ (status ≡ NoMemory)

-- doing a command
pub record EndsCommand (shelf shelf' : Told) (asked : Command) (sink sink' : Taken) (status : Status) : Type 0 where
  pub ends : Ends shelf shelf' asked sink sink' status
  pub too_long : (shelf' ≡ shelf) ⊎ (longest_file < shelf'.given → (kind : FileKind) × (status ≡ TooLong kind))
  pub files : shelf'.files ≡ shelf.files
  -- a command that names no file reads nothing
  pub nothing : names_for asked ≡ no_names → shelf' ≡ shelf
  pub complete : (files : List NamedBytes) → shelf.files ≡ Some files → MayBeDone files asked → shelf'.halted ≡ false → ¬ (Rose sink.faults sink'.faults) → IsEnd asked status

-- why words that name a command end with a status
abbrev pub Cause : Told → Told → CommandName → List Text → Taken → Taken → Status → Type 0
Cause shelf shelf' name words sink sink' (Usage kind) = IsRefused name words kind × (shelf' ≡ shelf) × (sink' ≡ sink)
Cause shelf shelf' name words sink sink' NoMemory = sink' ≡ sink
Cause shelf shelf' name words sink sink' status = (asked : Command) × Asks name words asked × Ends shelf shelf' asked sink sink' status

pub record IsAnswer (words : List Text) (shelf shelf' : Told) (sink sink' : Taken) (status : Status) : Type 0 where
  -- where the words name no command, that is answered, and nothing is read or written
  pub command : ((name : CommandName) (others : List Text) → ¬ Names words name others) → (status ≡ Usage usage.Command) × (shelf' ≡ shelf) × (sink' ≡ sink)
  -- else each status has its cause
  pub cause : (name : CommandName) (others : List Text) → Names words name others → Cause shelf shelf' name others sink sink' status
  -- where anything was read, and a byte past the longest file, a file is too long
  pub too_long : (shelf' ≡ shelf) ⊎ (longest_file < shelf'.given → (kind : FileKind) × (status ≡ TooLong kind))
  -- the files stay as they are told
  pub files : shelf'.files ≡ shelf.files
  -- a command that names no file reads nothing
  pub nothing : (name : CommandName) (others : List Text) (asked : Command) → Names words name others → Asks name others asked → names_for asked ≡ no_names → shelf' ≡ shelf
  -- words that ask for a command which may be done, where neither shelf nor sink fails: it is done, or memory isn't found; or a
  -- check tells that the output isn't legal
  pub complete : (name : CommandName) (others : List Text) (asked : Command) (files : List NamedBytes) → Names words name others → Asks name others asked
      → shelf.files ≡ Some files → MayBeDone files asked → shelf'.halted ≡ false → ¬ (Rose sink.faults sink'.faults) → IsEnd asked status
