-- The first wrong line of a text that is no output.
use Rattle.std.specs.Prelude.{◌≡◌, ◌≢◌, ℕ, ◌+◌, List, [], ◌∷◌, ◌++◌, length, Result, Ok, Err}
use Rattle.std.specs.List.{flat_map, AllByRecursion}
use Rattle.gdi_kinds.specs.declared.outcome.Printed.{Printed}
use Rattle.outcome_text.specs.declared.output_reader.OutputRefused.{OutputRefused}
use Rattle.outcome_text.specs.declared.output_reader.OutputRefused.TheVariants as refused
use Rattle.outcome_text.specs.Outputs.{output_text}
use Rattle.outcome_text.specs.Runs.{IsRun, IsOutput}

-- bytes without an LF
abbrev pub HasNoEnd : List ℕ → Type 0
HasNoEnd bytes = AllByRecursion (λ (b : ℕ). b ≢ 10) bytes

-- a line and its LF
abbrev pub ended : List ℕ → List ℕ
ended line = line ++ 10 ∷ []

-- lines, each with its LF
abbrev pub text_of_lines : List (List ℕ) → List ℕ
text_of_lines lines = flat_map ended lines

-- some run's text begins with the bytes
pub record BeginsOutput (bytes : List ℕ) : Type 0 where
  pub run : Printed
  pub rest : List ℕ
  pub fits : IsRun run
  pub text : output_text run ≡ bytes ++ rest

-- The first wrong line, from 1: the lines in front of it begin an output, and with it they begin none. A last line
-- without LF is always wrong, and behind an output that lacks its last line the end of the text is.
pub record IsFirstWrong (bytes : List ℕ) (number : ℕ) : Type 0 where
  pub before : List (List ℕ)
  pub rest : List ℕ
  pub bytes_are : bytes ≡ text_of_lines before ++ rest
  pub lines : AllByRecursion HasNoEnd before
  pub number_is : number ≡ length before + 1
  pub good : BeginsOutput (text_of_lines before)
  pub wrong : (line more : List ℕ) → HasNoEnd line → rest ≡ ended line ++ more → ¬ BeginsOutput (text_of_lines before ++ ended line)
  pub no_output : (run : Printed) → ¬ IsOutput bytes run

-- what is told is the first wrong line, unless it is want of memory
abbrev pub TellsWrongLine : List ℕ → OutputRefused → Type 0
TellsWrongLine bytes (refused.Bad line) = IsFirstWrong bytes line
TellsWrongLine bytes refused.NoMemory = Unit {0}

-- the answer is this run, unless it is want of memory
abbrev pub IsAnswered : Printed → Result Printed OutputRefused → Type 0
IsAnswered run (Ok read) = read ≡ run
IsAnswered run (Err (refused.Bad line)) = ⊥
IsAnswered run (Err refused.NoMemory) = Unit {0}
