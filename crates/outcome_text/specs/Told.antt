-- Runs of which a text tells all.
use Rattle.std.specs.Prelude.{◌≡◌, true, false}
use Rattle.std.specs.List.{AllByRecursion}
use Rattle.gdi_kinds.specs.declared.edge_line.EdgeLine.{EdgeLine}
use Rattle.gdi_kinds.specs.declared.reply.Reply.{Reply}
use Rattle.gdi_kinds.specs.declared.reply.Reply.TheVariants.{Edges}
use Rattle.gdi_kinds.specs.declared.outcome.Outcome.{Outcome}
use Rattle.gdi_kinds.specs.declared.outcome.Outcome.TheVariants.{Wrote, Read, Aborted, Full}
use Rattle.gdi_kinds.specs.declared.outcome.Printed.{Printed}

-- an item of an undirected edge isn't inward, which its text doesn't tell
abbrev pub EndIsTold : EdgeLine → Type 0
EndIsTold line = line.undirected ≡ true → line.inward ≡ false

abbrev pub ReplyIsTold : Reply → Type 0
ReplyIsTold (Edges lines) = AllByRecursion EndIsTold lines
ReplyIsTold reply = Unit {0}

abbrev pub OutcomeIsTold : Outcome → Type 0
OutcomeIsTold (Wrote k replies) = AllByRecursion ReplyIsTold replies
OutcomeIsTold (Read place replies) = AllByRecursion ReplyIsTold replies
OutcomeIsTold Aborted = Unit {0}
OutcomeIsTold (Full rank place) = Unit {0}

abbrev pub RunIsTold : Printed → Type 0
RunIsTold run = AllByRecursion (λ line. OutcomeIsTold line.outcome) run.lines
