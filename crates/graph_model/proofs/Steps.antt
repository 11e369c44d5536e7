-- What holds of every answer that steps may end with.
use Rattle.std.proofs.Common.{◌≡◌, ℕ, Bool, true, false, not, Option, Some, None, Ok, Err, refl}
use Rattle.gdi_kinds.specs.declared.reply.Reply.{Reply}
use Rattle.graph_model.specs.Graph.{Graph, Edge, edge_at, is_vertex}
use Rattle.gdi_kinds.specs.declared.reply.Reply.TheVariants.{NoVertex, NoEdge}
use Rattle.graph_model.specs.EdgeCalls.{edge_or_refusal}
use Rattle.graph_model.specs.Steps.{◌>>=◌, Step, Answer, found_or, refused_if, answer_of}

pub data AllAnswers (P : Answer → Type 0) : Step Answer → Type 0 where
  at_end : {answer : Answer} → P answer → AllAnswers P (Ok answer)
  at_refusal : {refusal : Reply} → AllAnswers P (Err refusal)

pub after_step : {A : Type 0} {P : Answer → Type 0} (s : Step A) (next : A → Step Answer) → ((x : A) → s ≡ Ok x → AllAnswers P (next x)) → AllAnswers P (s >>= next)
after_step (Ok x) next each = each x refl
after_step (Err refusal) next each = at_refusal

pub after_found : {A : Type 0} {P : Answer → Type 0} (refusal : Reply) (found : Option A) (next : A → Step Answer) → ((x : A) → found ≡ Some x → AllAnswers P (next x)) → AllAnswers P (found_or refusal found >>= next)
after_found refusal None next each = at_refusal
after_found refusal (Some x) next each = each x refl

pub after_test : {P : Answer → Type 0} (test : Bool) (refusal : Reply) (next : Unit {0} → Step Answer) → (test ≡ false → AllAnswers P (next tt)) → AllAnswers P (refused_if test refusal >>= next)
after_test true refusal next passed = at_refusal
after_test false refusal next passed = passed refl

-- so it holds of the answer, if a refusal on the graph has it too
pub of_answer : {P : Answer → Type 0} (g : Graph) (s : Step Answer) → ((refusal : Reply) → P (record { graph = g; reply = refusal })) → AllAnswers P s → P (answer_of g s)
of_answer g (Ok answer) refused (at_end holds) = holds
of_answer g (Err refusal) refused all = refused refusal

pub after_edge : {P : Answer → Type 0} (g : Graph) (source ordinal : ℕ) (next : Edge → Step Answer) → ((edge : Edge) → edge_at g source ordinal ≡ Some edge → AllAnswers P (next edge))
    → AllAnswers P (edge_or_refusal g source ordinal >>= next)
after_edge {P} g source ordinal next each =
    elim (is_vertex g source) as (λ there. AllAnswers P ((refused_if (not there) (NoVertex source) >>= λ _. found_or NoEdge (edge_at g source ordinal)) >>= next)) [
      | true ↦ after_found NoEdge (edge_at g source ordinal) next each
      | false ↦ at_refusal
    ]
