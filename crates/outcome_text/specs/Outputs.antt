-- How the outcomes of a run are printed.
use Rattle.std.specs.Prelude.{ℕ, Bool, List, [], ◌∷◌, ◌++◌, map, codes, if◌then◌else◌}
use Rattle.std.specs.List.{flat_map}
use Rattle.std.specs.Fmt.{decimal}
use Rattle.gdi_kinds.specs.declared.edge_line.EdgeLine.{EdgeLine}
use Rattle.gdi_kinds.specs.declared.prop_line.PropLine.{PropLine}
use Rattle.gdi_kinds.specs.declared.pair.Pair.{Pair}
use Rattle.gdi_kinds.specs.declared.reply.Reply.{Reply}
use Rattle.gdi_kinds.specs.declared.reply.Reply.TheVariants.{Done, Yes, No, Exists, NoVertex, NoEdge, NoLabel, NoType, NoProp, WrongKind, NotMany, HasLabel, LacksLabel, TooLarge, EdgeIs, Labels, Props, Value, Values, Edges, Ids, Levels, Parts, Count}
use Rattle.gdi_kinds.specs.declared.outcome.Outcome.{Outcome}
use Rattle.gdi_kinds.specs.declared.outcome.Outcome.TheVariants.{Wrote, Read, Aborted, Full}
use Rattle.gdi_kinds.specs.declared.outcome.Line.{Line}
use Rattle.gdi_kinds.specs.declared.outcome.Printed.{Printed}
use Rattle.text_words.specs.Spelling.{value_text}

abbrev pub prop_text : PropLine → List ℕ
prop_text prop = prop.name ++ 61 ∷ value_text prop.value

-- The item of an undirected edge doesn't tell at which end it stands.
abbrev pub way_text : Bool → Bool → List ℕ
way_text undirected inward = if undirected then codes "und" else (if inward then codes "in" else codes "out")

abbrev pub edge_text : EdgeLine → List ℕ
edge_text line = way_text line.undirected line.inward ++ 58 ∷ decimal line.source ++ 58 ∷ decimal line.ordinal ++ 58 ∷ decimal line.target

abbrev pub pair_text : Pair → List ℕ
pair_text pair = decimal pair.id ++ 58 ∷ decimal pair.number

abbrev pub reply_word : Reply → List ℕ
reply_word Done = codes "done"
reply_word Yes = codes "yes"
reply_word No = codes "no"
reply_word Exists = codes "exists"
reply_word (NoVertex id) = codes "novertex"
reply_word NoEdge = codes "noedge"
reply_word NoLabel = codes "nolabel"
reply_word NoType = codes "notype"
reply_word NoProp = codes "noprop"
reply_word WrongKind = codes "wrongkind"
reply_word NotMany = codes "notmany"
reply_word HasLabel = codes "haslabel"
reply_word LacksLabel = codes "lackslabel"
reply_word TooLarge = codes "toolarge"
reply_word (EdgeIs source ordinal) = codes "edge"
reply_word (Labels names) = codes "labels"
reply_word (Props props) = codes "props"
reply_word (Value v) = codes "value"
reply_word (Values vs) = codes "values"
reply_word (Edges lines) = codes "edges"
reply_word (Ids ids) = codes "ids"
reply_word (Levels pairs) = codes "levels"
reply_word (Parts pairs) = codes "parts"
reply_word (Count n) = codes "count"

-- what stands behind the word, each behind a space
abbrev pub reply_items : Reply → List (List ℕ)
reply_items (NoVertex id) = decimal id ∷ []
reply_items (EdgeIs source ordinal) = decimal source ∷ decimal ordinal ∷ []
reply_items (Labels names) = names
reply_items (Props props) = map prop_text props
reply_items (Value v) = value_text v ∷ []
reply_items (Values vs) = map value_text vs
reply_items (Edges lines) = map edge_text lines
reply_items (Ids ids) = map decimal ids
reply_items (Levels pairs) = map pair_text pairs
reply_items (Parts pairs) = map pair_text pairs
reply_items (Count n) = decimal n ∷ []
reply_items reply = []

-- items, each behind a space
abbrev pub items_text : List (List ℕ) → List ℕ
items_text items = flat_map (λ item. 32 ∷ item) items

-- a reply's line begins with a space
abbrev pub reply_line : Reply → List ℕ
reply_line reply = 32 ∷ reply_word reply ++ items_text (reply_items reply) ++ 10 ∷ []

abbrev pub outcome_text : Outcome → List ℕ
outcome_text (Wrote k replies) = codes " w " ++ decimal k ++ 10 ∷ flat_map reply_line replies
outcome_text (Read place replies) = codes " r " ++ decimal place ++ 10 ∷ flat_map reply_line replies
outcome_text Aborted = codes " aborted" ++ 10 ∷ []
outcome_text (Full rank place) = codes " full " ++ decimal rank ++ 32 ∷ decimal place ++ 10 ∷ []

-- the number of the section and of the transaction there, and then the outcome
abbrev pub line_text : Line → List ℕ
line_text line = decimal line.section ++ 46 ∷ decimal line.txn ++ outcome_text line.outcome

-- the outcomes in their order, and then the number of entries
abbrev pub output_text : Printed → List ℕ
output_text run = flat_map line_text run.lines ++ codes "writes " ++ decimal run.writes ++ 10 ∷ []
