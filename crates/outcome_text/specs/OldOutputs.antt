-- Outputs as they were before a type could keep many values and an edge could be undirected.
use Rattle.std.specs.Prelude.{◌≡◌, ℕ, List, [], ◌∷◌, ◌++◌, map, codes, if◌then◌else◌, Option, Some, None}
use Rattle.std.specs.List.{flat_map}
use Rattle.std.specs.Option.{option_map}
use Rattle.std.specs.Fmt.{decimal}
use Rattle.gdi_kinds.specs.declared.edge_line.EdgeLine.{EdgeLine}
use Rattle.gdi_kinds.specs.declared.pair.Pair.{Pair}
use Rattle.gdi_kinds.specs.declared.prop_line.PropLine.{PropLine}
use Rattle.gdi_kinds.specs.declared.reply.Reply.{Reply}
use Rattle.gdi_kinds.specs.declared.reply.Reply.TheVariants.{Done, Yes, No, Exists, NoVertex, NoEdge, NoLabel, NoType, NoProp, WrongKind, HasLabel, LacksLabel, TooLarge, EdgeIs, Labels, Props, Value, Edges, Ids, Levels, Parts, Count}
use Rattle.gdi_kinds.specs.declared.outcome.Outcome.{Outcome}
use Rattle.gdi_kinds.specs.declared.outcome.Outcome.TheVariants.{Wrote, Read, Aborted, Full}
use Rattle.gdi_kinds.specs.declared.outcome.Line.{Line}
use Rattle.gdi_kinds.specs.declared.outcome.Printed.{Printed}
use Rattle.text_words.specs.Spelling.{value_text}
use Rattle.outcome_text.specs.Runs.{IsRun, IsOutput, IsOutputAlone}
use Rattle.outcome_text.specs.WrongLine.{text_of_lines}

-- the item of an edge, which had none where it is undirected
abbrev pub old_edge : EdgeLine → Option (List ℕ)
old_edge line =
    if line.undirected then None
    else Some ((if line.inward then codes "in" else codes "out") ++ 58 ∷ decimal line.source ++ 58 ∷ decimal line.ordinal ++ 58 ∷ decimal line.target)

-- items, where each of them is there
abbrev pub with_item : Option (List ℕ) → Option (List (List ℕ)) → Option (List (List ℕ))
with_item (Some item) (Some items) = Some (item ∷ items)
with_item item items = None

abbrev pub old_edges : List EdgeLine → Option (List (List ℕ))
old_edges [] = Some []
old_edges (line ∷ lines) = with_item (old_edge line) (old_edges lines)

abbrev pub old_prop : PropLine → List ℕ
old_prop prop = prop.name ++ 61 ∷ value_text prop.value

abbrev pub old_pair : Pair → List ℕ
old_pair pair = decimal pair.id ++ 58 ∷ decimal pair.number

-- the word of a reply and its items; there was none for the refusal of a second value and for values
abbrev pub old_reply : Reply → Option (List (List ℕ))
old_reply Done = Some (codes "done" ∷ [])
old_reply Yes = Some (codes "yes" ∷ [])
old_reply No = Some (codes "no" ∷ [])
old_reply Exists = Some (codes "exists" ∷ [])
old_reply (NoVertex id) = Some (codes "novertex" ∷ decimal id ∷ [])
old_reply NoEdge = Some (codes "noedge" ∷ [])
old_reply NoLabel = Some (codes "nolabel" ∷ [])
old_reply NoType = Some (codes "notype" ∷ [])
old_reply NoProp = Some (codes "noprop" ∷ [])
old_reply WrongKind = Some (codes "wrongkind" ∷ [])
old_reply HasLabel = Some (codes "haslabel" ∷ [])
old_reply LacksLabel = Some (codes "lackslabel" ∷ [])
old_reply TooLarge = Some (codes "toolarge" ∷ [])
old_reply (EdgeIs source ordinal) = Some (codes "edge" ∷ decimal source ∷ decimal ordinal ∷ [])
old_reply (Labels names) = Some (codes "labels" ∷ names)
old_reply (Props props) = Some (codes "props" ∷ map old_prop props)
old_reply (Value v) = Some (codes "value" ∷ value_text v ∷ [])
old_reply (Edges lines) = option_map (λ items. codes "edges" ∷ items) (old_edges lines)
old_reply (Ids ids) = Some (codes "ids" ∷ map decimal ids)
old_reply (Levels pairs) = Some (codes "levels" ∷ map old_pair pairs)
old_reply (Parts pairs) = Some (codes "parts" ∷ map old_pair pairs)
old_reply (Count n) = Some (codes "count" ∷ decimal n ∷ [])
old_reply reply = None

-- words, each behind a space
abbrev pub behind_spaces : List (List ℕ) → List ℕ
behind_spaces words = flat_map (λ w. 32 ∷ w) words

-- the line of a reply, where it had one
abbrev pub old_reply_line : Reply → Option (List ℕ)
old_reply_line reply = option_map behind_spaces (old_reply reply)

-- the lines of an outcome and of its replies
abbrev pub old_outcome_lines : List ℕ → Outcome → List (Option (List ℕ))
old_outcome_lines place (Wrote k replies) = Some (place ++ codes " w " ++ decimal k) ∷ map old_reply_line replies
old_outcome_lines place (Read n replies) = Some (place ++ codes " r " ++ decimal n) ∷ map old_reply_line replies
old_outcome_lines place Aborted = Some (place ++ codes " aborted") ∷ []
old_outcome_lines place (Full rank n) = Some (place ++ codes " full " ++ decimal rank ++ 32 ∷ decimal n) ∷ []

abbrev pub old_lines_of : Line → List (Option (List ℕ))
old_lines_of line = old_outcome_lines (decimal line.section ++ 46 ∷ decimal line.txn) line.outcome

-- the lines of a run, where each had one
abbrev pub old_lines : Printed → List (Option (List ℕ))
old_lines run = flat_map old_lines_of run.lines ++ Some (codes "writes " ++ decimal run.writes) ∷ []

-- the bytes were the text of the run
pub record IsOldOutput (bytes : List ℕ) (run : Printed) : Type 0 where
  pub fits : IsRun run
  pub lines : List (List ℕ)
  pub had : old_lines run ≡ map Some lines
  pub text : bytes ≡ text_of_lines lines

-- every line of the run was one
abbrev pub HadLines : Printed → Type 0
HadLines run = (lines : List (List ℕ)) × (old_lines run ≡ map Some lines)

-- every output of that time is the text of the run that it was, and of no other
abbrev pub OldOutputsStay : Type 0
OldOutputsStay = (bytes : List ℕ) (run : Printed) → IsOldOutput bytes run → IsOutputAlone bytes run

-- and the text of a run whose lines there were was an output of that time
abbrev pub OldOutputsAreAll : Type 0
OldOutputsAreAll = (bytes : List ℕ) (run : Printed) → IsOutput bytes run → HadLines run → IsOldOutput bytes run
