-- Scripts as lines.
use Rattle.std.specs.Prelude.{◌≡◌, ℕ, ◌≤◌, Bool, true, false, not, List, [], ◌∷◌, ◌++◌, map, length, sum_by, codes, ◌==◌}
use Rattle.std.specs.List.{filter, flat_map, AllByRecursion}
use Rattle.gdi_kinds.specs.Calls.{is_whole_call}
use Rattle.gdi_kinds.specs.declared.call.Call.{Call}
use Rattle.gdi_kinds.specs.declared.txn.Txn.{Txn}
use Rattle.text_words.specs.Lines.{lines_of}
use Rattle.script_text.specs.declared.step.Step.{Step}
use Rattle.script_text.specs.declared.step.Step.TheVariants.{Section, Begin, Does, Close}
use Rattle.script_text.specs.CallLines.{line_of_call, IsCall, test_of}
use Rattle.text_words.specs.Spelling.{atoms_in}

-- an empty line, and one that begins with `#`
abbrev pub is_skipped : List ℕ → Bool
is_skipped [] = true
is_skipped (byte ∷ bytes) = byte == 35

-- the lines that count
abbrev pub counted : List (List ℕ) → List (List ℕ)
counted lines = filter (λ line. not (is_skipped line)) lines

-- the line of a step
abbrev pub line_of : Step → List ℕ
line_of Section = codes "section"
line_of (Begin false) = codes "txn"
line_of (Begin true) = codes "all"
line_of (Does call) = line_of_call call
line_of (Close false) = codes "end"
line_of (Close true) = codes "abort"

abbrev pub steps_of_txn : Txn → List Step
steps_of_txn txn = Begin txn.whole ∷ map Does txn.calls ++ Close txn.aborts ∷ []

abbrev pub steps_of_section : List Txn → List Step
steps_of_section txns = Section ∷ flat_map steps_of_txn txns

abbrev pub steps_of_script : List (List Txn) → List Step
steps_of_script sections = flat_map steps_of_section sections

-- a call that a transaction may hold, with at most 64 atoms
pub record IsHeld (whole : Bool) (call : Call) : Type 0 where
  pub spelled : IsCall call
  pub place : is_whole_call call ≡ whole
  pub few_atoms : atoms_in (test_of call) ≤ 64

pub record IsTxn (txn : Txn) : Type 0 where
  pub calls : AllByRecursion (IsHeld txn.whole) txn.calls
  pub few_calls : length txn.calls ≤ 65536

-- a script within the limits
pub record IsScript (sections : List (List Txn)) : Type 0 where
  pub few_sections : length sections ≤ 4096
  pub few_txns : sum_by length sections ≤ 1048576
  pub txns : AllByRecursion (AllByRecursion IsTxn) sections

-- the bytes spell the script
pub record Spells (bytes : List ℕ) (sections : List (List Txn)) : Type 0 where
  pub form : IsScript sections
  pub lines : counted (lines_of bytes) ≡ map line_of (steps_of_script sections)

abbrev pub step_text : Step → List ℕ
step_text step = line_of step ++ 10 ∷ []

-- the text that is printed of a script
abbrev pub script_text : List (List Txn) → List ℕ
script_text sections = flat_map step_text (steps_of_script sections)
