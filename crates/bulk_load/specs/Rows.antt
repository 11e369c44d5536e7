-- What a record does to a graph.
use Rattle.std.specs.Prelude.{◌≡◌, ◌≢◌, ℕ, Bool, true, false, not, ◌||◌, List, [], ◌∷◌, ◌++◌, map, length, Option, is_some, if◌then◌else◌}
use Rattle.std.specs.List.{filter, list_any}
use Rattle.std.specs.Option.{option_map_or, option_to_list}
use Rattle.gdi_kinds.specs.declared.call.Call.{Call}
use Rattle.gdi_kinds.specs.declared.call.Call.TheVariants.{NewLabel, Vertex, Tag, Set, Add, Edge, UEdge, ESet, EAdd}
use Rattle.gdi_kinds.specs.declared.reply.Reply.{Reply}
use Rattle.gdi_kinds.specs.declared.reply.Reply.TheVariants as reply
use Rattle.gdi_kinds.specs.declared.value.Value.{Value}
use Rattle.rma_layout.specs.Shape.{Shape}
use Rattle.graph_model.specs.Graph.{Name, Graph, vertex_at, is_vertex}
use Rattle.graph_model.specs.Lookups.{label_number}
use Rattle.graph_model.specs.Transactions.{graph_after_calls, replies_to_calls}
use Rattle.bulk_load.specs.declared.column.Column.{Column}
use Rattle.bulk_load.specs.declared.header.Header.{Header}
use Rattle.bulk_load.specs.declared.load_fault.LoadFault.{LoadFault}
use Rattle.bulk_load.specs.declared.load_fault.LoadFault.TheVariants as fault
use Rattle.bulk_load.specs.declared.owner.Owner.{Owner}
use Rattle.bulk_load.specs.declared.owner.Owner.TheVariants as owner
use Rattle.bulk_load.specs.declared.subject.Subject.{Subject}
use Rattle.bulk_load.specs.declared.subject.Subject.TheVariants as subject
use Rattle.bulk_load.specs.Records.{Fields}
use Rattle.bulk_load.specs.Fields.{Says, SpellColumns, Sort, some_values, lead_sorts, FirstWrong}

-- a label for each name that isn't there yet, in order
abbrev pub new_labels : Graph → List Name → List Call
new_labels g names = map NewLabel (filter (λ name. not (is_some (label_number g name))) names)

-- the ordinal of the next edge from a vertex
abbrev pub next_ordinal : Graph → ℕ → ℕ
next_ordinal g id = option_map_or (λ vertex. vertex.next) (vertex_at g id) 0

abbrev pub edge_call : Bool → ℕ → ℕ → Option Name → Call
edge_call true source target label = UEdge source target label
edge_call false source target label = Edge source target label

-- the calls that make a vertex with its labels, or an edge
abbrev pub making : Graph → Subject → List Call
making g (subject.Vertex id labels) = new_labels g labels ++ Vertex id ∷ map (Tag id) labels
making g (subject.Edge undirected source target label) =
    new_labels g (option_to_list label) ++ edge_call undirected source target label ∷ []

-- what has the properties: the vertex, or the edge by the ordinal that it gets
abbrev pub owner_of : Graph → Subject → Owner
owner_of g (subject.Vertex id labels) = owner.Vertex id
owner_of g (subject.Edge undirected source target label) = owner.Edge source (next_ordinal g source)

-- a value is set, or added where its type is marked
abbrev pub put : Owner → Column → Value → Call
put (owner.Vertex id) column v = if column.many then Add id column.name v else Set id column.name v
put (owner.Edge source ordinal) column v = if column.many then EAdd source ordinal column.name v else ESet source ordinal column.name v

-- the values of each column, in the columns' order
abbrev pub puts : Owner → List Column → List (List Value) → List Call
puts who (column ∷ columns) (values ∷ rest) = map (put who column) values ++ puts who columns rest
puts who columns values = []

-- a record says these calls on a graph
pub record SaysCalls (g : Graph) (header : Header) (fields : Fields) (says : Subject) (calls : List Call) : Type 0 where
  pub behind : Fields
  pub values : List (List Value)
  pub front : Says header.lead fields says behind
  pub columns : SpellColumns header.columns behind values
  pub calls_are : calls ≡ making g says ++ puts (owner_of g says) header.columns values

abbrev pub sorts_of : Header → List Sort
sorts_of header = lead_sorts header.lead ++ map some_values header.columns

-- a vertex has to be new, and both ends of an edge have to be there
abbrev pub misfits : Graph → Subject → Bool
misfits g (subject.Vertex id labels) = is_vertex g id
misfits g (subject.Edge undirected source target label) = not (is_vertex g source) || not (is_vertex g target)

abbrev pub misfit : Subject → LoadFault
misfit (subject.Vertex id labels) = fault.VertexThere
misfit (subject.Edge undirected source target label) = fault.NoEnd

abbrev pub is_too_large : Reply → Bool
is_too_large reply.TooLarge = true
is_too_large other = false

-- whether one of these calls, done one after the other, would make an object too large
abbrev pub meets_limit : Shape → Graph → List Call → Bool
meets_limit shape g calls = list_any is_too_large (replies_to_calls shape g calls)

-- a record is right on a graph, and does these calls
pub record IsRight (shape : Shape) (g : Graph) (header : Header) (fields : Fields) (calls : List Call) : Type 0 where
  pub subject : Subject
  pub said : SaysCalls g header fields subject calls
  pub fits : misfits g subject ≡ false
  pub within : meets_limit shape g calls ≡ false

-- what is wrong with a record on a graph, in the order in which the faults are tried
pub data IsWrong (shape : Shape) (g : Graph) (header : Header) (fields : Fields) (told : LoadFault) : Type 0 where
  other_count : told ≡ fault.FieldCount → length fields ≢ length (sorts_of header) → IsWrong shape g header fields told
  misspelled : length fields ≡ length (sorts_of header) → FirstWrong (sorts_of header) fields told → IsWrong shape g header fields told
  misplaced : (says : Subject) (calls : List Call) → SaysCalls g header fields says calls → misfits g says ≡ true → told ≡ misfit says
      → IsWrong shape g header fields told
  too_large : (says : Subject) (calls : List Call) → SaysCalls g header fields says calls → misfits g says ≡ false → meets_limit shape g calls ≡ true
      → told ≡ fault.TooLarge → IsWrong shape g header fields told

-- records that are right one after the other, and the calls that they do
abbrev pub DoCalls : Shape → Header → Graph → List Fields → List Call → Type 0
DoCalls shape header g [] calls = calls ≡ []
DoCalls shape header g (fields ∷ records) calls = (own : List Call) × (others : List Call) × IsRight shape g header fields own
    × DoCalls shape header (graph_after_calls shape g own) records others × (calls ≡ own ++ others)
