-- The runs that have a text.
use Rattle.std.specs.Prelude.{◌≡◌, ℕ, ◌^◌, ◌<◌, true, false, List}
use Rattle.std.specs.List.{AllByRecursion}
use Rattle.gdi_kinds.specs.Names.{IsName}
use Rattle.gdi_kinds.specs.declared.edge_line.EdgeLine.{EdgeLine}
use Rattle.gdi_kinds.specs.declared.prop_line.PropLine.{PropLine}
use Rattle.gdi_kinds.specs.declared.pair.Pair.{Pair}
use Rattle.gdi_kinds.specs.declared.reply.Reply.{Reply}
use Rattle.gdi_kinds.specs.declared.reply.Reply.TheVariants.{NoVertex, EdgeIs, Labels, Props, Value, Values, Edges, Ids, Levels, Parts, Count}
use Rattle.gdi_kinds.specs.declared.outcome.Outcome.{Outcome}
use Rattle.gdi_kinds.specs.declared.outcome.Outcome.TheVariants.{Wrote, Read, Aborted, Full}
use Rattle.gdi_kinds.specs.declared.outcome.Line.{Line}
use Rattle.gdi_kinds.specs.declared.outcome.Printed.{Printed}
use Rattle.text_words.specs.Spelling.{IsValue}
use Rattle.outcome_text.specs.Outputs.{output_text}

abbrev pub IsNumber : ℕ → Type 0
IsNumber n = n < 2 ^ 64

pub record IsPropLine (prop : PropLine) : Type 0 where
  pub name : IsName prop.name
  pub value : IsValue prop.value

pub record IsPair (pair : Pair) : Type 0 where
  pub id : IsNumber pair.id
  pub number : IsNumber pair.number

-- An item of an undirected edge is inward at neither end.
pub record IsEdgeLine (line : EdgeLine) : Type 0 where
  pub source : IsNumber line.source
  pub ordinal : IsNumber line.ordinal
  pub target : IsNumber line.target
  pub inward : line.undirected ≡ true → line.inward ≡ false

abbrev pub IsReply : Reply → Type 0
IsReply (NoVertex id) = IsNumber id
IsReply (EdgeIs source ordinal) = IsNumber source × IsNumber ordinal
IsReply (Labels names) = AllByRecursion IsName names
IsReply (Props props) = AllByRecursion IsPropLine props
IsReply (Value v) = IsValue v
IsReply (Values vs) = AllByRecursion IsValue vs
IsReply (Edges lines) = AllByRecursion IsEdgeLine lines
IsReply (Ids ids) = AllByRecursion IsNumber ids
IsReply (Levels pairs) = AllByRecursion IsPair pairs
IsReply (Parts pairs) = AllByRecursion IsPair pairs
IsReply (Count n) = IsNumber n
IsReply reply = Unit {0}

abbrev pub IsOutcome : Outcome → Type 0
IsOutcome (Wrote k replies) = IsNumber k × AllByRecursion IsReply replies
IsOutcome (Read place replies) = IsNumber place × AllByRecursion IsReply replies
IsOutcome Aborted = Unit {0}
IsOutcome (Full rank place) = (rank < 2 ^ 16) × IsNumber place

pub record IsLine (line : Line) : Type 0 where
  pub section : IsNumber line.section
  pub txn : IsNumber line.txn
  pub outcome : IsOutcome line.outcome

-- a run that has a text
pub record IsRun (run : Printed) : Type 0 where
  pub lines : AllByRecursion IsLine run.lines
  pub writes : IsNumber run.writes

-- the bytes are the text of the run
pub record IsOutput (bytes : List ℕ) (run : Printed) : Type 0 where
  pub fits : IsRun run
  pub text : bytes ≡ output_text run

-- the bytes are the text of this run and of no other
pub record IsOutputAlone (bytes : List ℕ) (run : Printed) : Type 0 where
  pub output : IsOutput bytes run
  pub alone : (other : Printed) → IsOutput bytes other → other ≡ run
