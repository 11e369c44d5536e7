-- A call as steps, each of which may refuse it: the first refusal that applies is the reply.
use Rattle.std.specs.Prelude.{Bool, true, false, Option, Some, None, Result, Ok, Err}
use Rattle.gdi_kinds.specs.declared.reply.Reply.{Reply}
use Rattle.graph_model.specs.Graph.{Graph}

-- a value, or the refusal
abbrev pub Step : Type 0 → Type 0
Step A = Result A Reply

infixl 10 ◌>>=◌
abbrev pub ◌>>=◌ : {A B : Type 0} → Step A → (A → Step B) → Step B
(Ok x) >>= next = next x
(Err refusal) >>= next = Err refusal

-- what is found, and else the refusal
abbrev pub found_or : {A : Type 0} → Reply → Option A → Step A
found_or refusal None = Err refusal
found_or refusal (Some x) = Ok x

abbrev pub refused_if : Bool → Reply → Step (Unit {0})
refused_if true refusal = Err refusal
refused_if false refusal = Ok tt

-- the graph that a call leaves, and its reply
pub record Answer : Type 0 where
  pub graph : Graph
  pub reply : Reply

-- a refused call leaves the graph
abbrev pub answer_of : Graph → Step Answer → Answer
answer_of g (Ok answer) = answer
answer_of g (Err refusal) = record { graph = g; reply = refusal }

-- the end of a call that changes the graph, and of one that looks
abbrev pub leaves : Graph → Reply → Step Answer
leaves g reply = Ok (record { graph = g; reply = reply })
