-- What is wrong with a line of a script, and which line is the first wrong one.
use Rattle.std.specs.Prelude.{◌≡◌, ◌≢◌, ℕ, ◌+◌, Bool, true, false, ◌&&◌, ◌⊎◌, IsTrue, IsUtf8, List, [], ◌∷◌, ◌++◌, map, length, codes, Option, not, nat_lt, nat_le}
use Rattle.std.specs.List.{list_all, AllByRecursion}
use Rattle.gdi_kinds.specs.Texts.{is_printable}
use Rattle.gdi_kinds.specs.Calls.{is_whole_call}
use Rattle.text_words.specs.declared.wrong.Wrong.{Wrong}
use Rattle.text_words.specs.declared.wrong.Wrong.TheVariants as wrong
use Rattle.script_text.specs.declared.stop.Stop.{Stop}
use Rattle.script_text.specs.declared.stop.Stop.TheVariants as stop
use Rattle.script_text.specs.declared.step.Step.{Step}
use Rattle.script_text.specs.declared.step.Step.TheVariants as step
use Rattle.script_text.specs.declared.step.Head.{Head}
use Rattle.script_text.specs.declared.step.Head.TheVariants as head
use Rattle.script_text.specs.declared.place.Stage.{Stage}
use Rattle.script_text.specs.declared.place.Stage.TheVariants as stage
use Rattle.script_text.specs.declared.place.Place.{Place}
use Rattle.script_text.specs.CallLines.{IsCall, test_of}
use Rattle.text_words.specs.Spelling.{atoms_in}
use Rattle.text_words.specs.Words.{IsOpening, AreBehind}
use Rattle.text_words.specs.Forms.{Form, ends, IsWrong}
use Rattle.script_text.specs.Verbs.{IsCallOf, form_of, word_of, is_whole}
use Rattle.text_words.specs.Lines.{lines_of}
use Rattle.script_text.specs.Scripts.{is_skipped, counted, line_of, Spells}
use Rattle.gdi_kinds.specs.declared.txn.Txn.{Txn}

abbrev pub head_text : Head → List ℕ
head_text head.Section = codes "section"
head_text (head.Begin false) = codes "txn"
head_text (head.Begin true) = codes "all"
head_text (head.Does verb) = word_of verb
head_text (head.Close false) = codes "end"
head_text (head.Close true) = codes "abort"

-- a head that is no call's
abbrev pub IsFrame : Head → Type 0
IsFrame (head.Does verb) = ⊥
IsFrame head = Unit {0}

-- what stands behind the first word
abbrev pub form_behind : Head → Form
form_behind (head.Does verb) = form_of verb
form_behind head = ends

-- whether a line of this head may stand here
abbrev pub may_stand : Stage → Head → Bool
may_stand stage.Outside head.Section = true
may_stand stage.Section head.Section = true
may_stand stage.Section (head.Begin whole) = true
may_stand (stage.Txn true) (head.Does verb) = is_whole verb
may_stand (stage.Txn false) (head.Does verb) = not (is_whole verb)
may_stand (stage.Txn whole) (head.Close aborts) = true
may_stand at head = false

-- UTF-8 without control bytes
abbrev pub IsClean : List ℕ → Type 0
IsClean line = IsUtf8 line × IsTrue (list_all is_printable line)

-- the line has this head, which may stand here, and these words behind it
pub record HasWords (at : Stage) (line : List ℕ) (h : Head) (behind : Option (List ℕ)) : Type 0 where
  pub clean : IsClean line
  pub opening : IsOpening line (head_text h) behind
  pub stands : may_stand at h ≡ true

abbrev pub kind_of : Wrong → ℕ
kind_of wrong.Form = 4
kind_of wrong.Number = 5
kind_of wrong.Value = 6
kind_of wrong.Name = 7
kind_of wrong.NoMemory = 0

-- how reading stops where words are wrong
abbrev pub stop_of : Wrong → Stop
stop_of wrong.NoMemory = stop.NoMemory
stop_of told = stop.Bad (kind_of told)

-- what is told of a kind holds, unless want of memory is told
abbrev pub OrNoMemory : (ℕ → Type 0) → Stop → Type 0
OrNoMemory P (stop.Bad kind) = P kind
OrNoMemory P stop.NoMemory = Unit {0}

-- these are the words behind the first one, or there are none
abbrev pub AreFound : Bool → Option (List ℕ) → List (List ℕ) → Type 0
AreFound true behind words = AreBehind behind words
AreFound false behind words = (others : List (List ℕ)) → ¬ AreBehind behind others

-- a step that a script may hold
abbrev pub IsStep : Step → Type 0
IsStep (step.Does call) = IsCall call
IsStep s = Unit {0}

-- whether a step may stand here
abbrev pub stands : Stage → Step → Bool
stands stage.Outside step.Section = true
stands stage.Section step.Section = true
stands stage.Section (step.Begin whole) = true
stands (stage.Txn true) (step.Does call) = is_whole_call call
stands (stage.Txn false) (step.Does call) = not (is_whole_call call)
stands (stage.Txn whole) (step.Close aborts) = true
stands at s = false

-- the limits
abbrev pub is_within : Place → Step → Bool
is_within place step.Section = nat_lt place.sections 4096
is_within place (step.Begin whole) = nat_lt place.txns 1048576
is_within place (step.Does call) = nat_lt place.calls 65536 && nat_le (atoms_in (test_of call)) 64
is_within place (step.Close aborts) = true

-- where the next line stands
abbrev pub after : Place → Step → Place
after place step.Section = record place { stage = stage.Section; sections = place.sections + 1 }
after place (step.Begin whole) = record place { stage = stage.Txn whole; txns = place.txns + 1; calls = 0 }
after place (step.Does call) = record place { calls = place.calls + 1 }
after place (step.Close aborts) = record place { stage = stage.Section }

-- the line does the step, which may stand here
pub record DoesStep (at : Stage) (line : List ℕ) (s : Step) : Type 0 where
  pub text : line ≡ line_of s
  pub fits : IsStep s
  pub stands : stands at s ≡ true

-- the words behind a head are those of the step's line
abbrev pub IsStepOf : Head → List (List ℕ) → Step → Type 0
IsStepOf head.Section words step.Section = words ≡ []
IsStepOf (head.Begin whole) words (step.Begin begun) = (words ≡ []) × (begun ≡ whole)
IsStepOf (head.Does verb) words (step.Does call) = IsCallOf verb words call
IsStepOf (head.Close aborts) words (step.Close closed) = (words ≡ []) × (closed ≡ aborts)
IsStepOf h words s = ⊥

-- what is wrong with a line, the limits apart: its kind, in the order in which the kinds are tried
pub data IsFault (at : Stage) (line : List ℕ) (kind : ℕ) : Type 0 where
  not_text : kind ≡ 1 → ¬ IsClean line → IsFault at line kind
  no_word : kind ≡ 2 → IsClean line → (w : List ℕ) (behind : Option (List ℕ)) → IsOpening line w behind → ((h : Head) → w ≢ head_text h) → IsFault at line kind
  misplaced : kind ≡ 3 → IsClean line → (h : Head) (behind : Option (List ℕ)) → IsOpening line (head_text h) behind → may_stand at h ≡ false → IsFault at line kind
  ill_quoted : kind ≡ 6 → (h : Head) (behind : Option (List ℕ)) → HasWords at line h behind → ((words : List (List ℕ)) → ¬ AreBehind behind words) → IsFault at line kind
  wrong_words : (h : Head) (behind : Option (List ℕ)) → HasWords at line h behind → (words : List (List ℕ)) → AreBehind behind words → (told : Wrong) → IsWrong (form_behind h) words told → kind ≡ kind_of told → IsFault at line kind

-- the same with the limits, which come last
abbrev pub IsWrongLine : Place → List ℕ → ℕ → Type 0
IsWrongLine place line kind =
    IsFault place.stage line kind ⊎ ((kind ≡ 8) × ((s : Step) × DoesStep place.stage line s × (is_within place s ≡ false)))

-- steps that may stand where they do lead from one place to another
abbrev pub Leads : Place → List Step → Place → Type 0
Leads place [] to = place ≡ to
Leads place (s ∷ steps) to = (stands place.stage s ≡ true) × (is_within place s ≡ true) × Leads (after place s) steps to

-- the place of the first line
abbrev pub start : Place
start = record { stage = stage.Outside; sections = 0; txns = 0; calls = 0 }

-- lines without a fault, and the place behind them
pub record AreGood (lines : List (List ℕ)) (place : Place) : Type 0 where
  pub steps : List Step
  pub texts : counted lines ≡ map line_of steps
  pub fit : AllByRecursion IsStep steps
  pub leads : Leads start steps place

abbrev pub IsOpen : Stage → Type 0
IsOpen (stage.Txn whole) = Unit {0}
IsOpen at = ⊥

-- the next line is wrong, or the file ends in a transaction
abbrev pub FaultIn : Place → List (List ℕ) → ℕ → Type 0
FaultIn place [] kind = IsOpen place.stage × (kind ≡ 3)
FaultIn place (line ∷ lines) kind = (is_skipped line ≡ false) × IsWrongLine place line kind

-- The first wrong line, from 1, and its kind. The end of the file counts as one more line.
pub record IsFirstFault (bytes : List ℕ) (number kind : ℕ) : Type 0 where
  pub before : List (List ℕ)
  pub rest : List (List ℕ)
  pub place : Place
  pub lines : lines_of bytes ≡ before ++ rest
  pub number_is : number ≡ length before + 1
  pub good : AreGood before place
  pub wrong : FaultIn place rest kind

-- the bytes spell this script and no other, and no line is wrong
pub record SpellsAlone (bytes : List ℕ) (script : List (List Txn)) : Type 0 where
  pub spelled : Spells bytes script
  pub alone : (other : List (List Txn)) → Spells bytes other → other ≡ script
  pub faultless : (number kind : ℕ) → ¬ IsFirstFault bytes number kind
