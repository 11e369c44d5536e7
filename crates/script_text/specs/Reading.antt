-- What has been read of a script.
use Rattle.std.specs.Prelude.{◌≡◌, ℕ, Bool, true, false, List, [], ◌∷◌, ◌++◌, ◌⊎◌, Result, Ok, Err}
use Rattle.gdi_kinds.specs.declared.call.Call.{Call}
use Rattle.gdi_kinds.specs.declared.txn.Txn.{Txn}
use Rattle.script_text.specs.declared.step.Step.{Step}
use Rattle.script_text.specs.declared.step.Step.TheVariants as step
use Rattle.script_text.specs.declared.place.Stage.{Stage}
use Rattle.script_text.specs.declared.place.Stage.TheVariants as stage
use Rattle.script_text.specs.declared.script_reader.Reader.{Reader}
use Rattle.script_text.specs.declared.stop.Stop.{Stop}
use Rattle.script_text.specs.declared.stop.Stop.TheVariants as stop
use Rattle.script_text.specs.declared.script_reader.ScriptRefused.{ScriptRefused}
use Rattle.script_text.specs.declared.script_reader.ScriptRefused.TheVariants as refused
use Rattle.script_text.specs.declared.place.Place.{Place}
use Rattle.script_text.specs.Scripts.{is_skipped}
use Rattle.script_text.specs.Faults.{DoesStep, IsWrongLine, IsFirstFault, is_within, after}

-- a transaction that is closed
abbrev pub txn_of : Stage → List Call → Bool → Txn
txn_of (stage.Txn whole) calls aborts = record { whole = whole; calls = calls; aborts = aborts }
txn_of at calls aborts = record { whole = false; calls = calls; aborts = aborts }

-- what has been read with one step more, apart from the place
abbrev pub with_step : Stage → Reader → Step → Reader
with_step stage.Section r step.Section = record r { sections = r.sections ++ r.txns ∷ []; txns = [] }
with_step at r step.Section = r
with_step at r (step.Begin whole) = record r { calls = [] }
with_step at r (step.Does call) = record r { calls = r.calls ++ call ∷ [] }
with_step at r (step.Close aborts) = record r { txns = r.txns ++ txn_of at r.calls aborts ∷ []; calls = [] }

-- the line is taken: it does a step within the limits
pub record TakesLine (was : Reader) (line : List ℕ) (now : Reader) : Type 0 where
  pub step : Step
  pub does : DoesStep was.place.stage line step
  pub within : is_within was.place step ≡ true
  pub now_is : now ≡ record (with_step was.place.stage was step) { place = after was.place step }

-- the script that has been read, where no transaction is open
abbrev pub script_at : Stage → Reader → List (List Txn)
script_at stage.Outside r = r.sections
script_at at r = r.sections ++ r.txns ∷ []

-- a skipped line changes nothing, and any other is taken
abbrev pub PassesLine : Reader → List ℕ → Reader → Type 0
PassesLine was line now = ((is_skipped line ≡ true) × (now ≡ was)) ⊎ ((is_skipped line ≡ false) × TakesLine was line now)

-- the line counts, and is wrong
abbrev pub StopsAt : Place → List ℕ → ℕ → Type 0
StopsAt place line kind = (is_skipped line ≡ false) × IsWrongLine place line kind

-- what is told is the first wrong line, unless it is want of memory
abbrev pub TellsFault : List ℕ → ScriptRefused → Type 0
TellsFault bytes (refused.Bad line kind) = IsFirstFault bytes line kind
TellsFault bytes refused.NoMemory = Unit {0}

-- the answer is this script, unless it is want of memory
abbrev pub IsAnswered : List (List Txn) → Result (List (List Txn)) ScriptRefused → Type 0
IsAnswered script (Ok read) = read ≡ script
IsAnswered script (Err (refused.Bad line kind)) = ⊥
IsAnswered script (Err refused.NoMemory) = Unit {0}

-- how a text is refused where reading stops at a line
abbrev pub refused_at : ℕ → Stop → ScriptRefused
refused_at line (stop.Bad kind) = refused.Bad line kind
refused_at line stop.NoMemory = refused.NoMemory
