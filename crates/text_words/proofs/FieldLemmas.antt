-- What is told of fields.
use Rattle.std.proofs.Common.{ℕ, List, Result, MatchResult, Ok, Err, inr}
use Rattle.text_words.specs.declared.wrong.Wrong.{Wrong}
use Rattle.text_words.specs.declared.wrong.Wrong.TheVariants as wrong
use Rattle.text_words.specs.Forms.{Form, HasForm, FirstWrong, IsWrong, OrMemory}

pub OrMemory-weaker : (P Q : Wrong → Type 0) (told : Wrong) → OrMemory P told → (P told → Q told) → OrMemory Q told
OrMemory-weaker P Q wrong.NoMemory held to = tt
OrMemory-weaker P Q wrong.Form held to = to held
OrMemory-weaker P Q wrong.Number held to = to held
OrMemory-weaker P Q wrong.Value held to = to held
OrMemory-weaker P Q wrong.Name held to = to held

pub wrong_of_form : {X : Type 0} (form : Form) (words : List (List ℕ)) (r : Result X Wrong) (P : X → Type 0) → HasForm form words → MatchResult r P (OrMemory (FirstWrong form words)) → MatchResult r P (OrMemory (IsWrong form words))
wrong_of_form form words (Ok x) P has told = told
wrong_of_form form words (Err e) P has told = OrMemory-weaker (FirstWrong form words) (IsWrong form words) e told (λ first. inr (has, first))
