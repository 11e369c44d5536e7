-- What the fields of a record say, and which of them is wrong.
use Rattle.std.specs.Prelude.{◌≡◌, ℕ, ◌<◌, ◌^◌, Bool, true, false, List, [], ◌∷◌, codes, Option, Some, None, ◌⊎◌, if◌then◌else◌, ◌==◌}
use Rattle.std.specs.List.{AllByRecursion}
use Rattle.std.specs.Fmt.{decimal}
use Rattle.gdi_kinds.specs.Names.{IsName}
use Rattle.gdi_kinds.specs.Constraint.{kind_of}
use Rattle.gdi_kinds.specs.declared.value.Kind.{Kind}
use Rattle.gdi_kinds.specs.declared.value.Value.{Value}
use Rattle.gdi_kinds.specs.declared.value.Value.TheVariants as value
use Rattle.text_words.specs.Spelling.{value_text, IsValue}
use Rattle.text_words.specs.Lines.{before_first}
use Rattle.bulk_load.specs.declared.column.Column.{Column}
use Rattle.bulk_load.specs.declared.lead.Lead.{Lead}
use Rattle.bulk_load.specs.declared.lead.Lead.TheVariants as lead
use Rattle.bulk_load.specs.declared.load_fault.LoadFault.{LoadFault}
use Rattle.bulk_load.specs.declared.load_fault.LoadFault.TheVariants as fault
use Rattle.bulk_load.specs.declared.subject.Subject.{Subject}
use Rattle.bulk_load.specs.declared.subject.Subject.TheVariants as subject
use Rattle.bulk_load.specs.Records.{Fields}
use Rattle.bulk_load.specs.Headers.{are_apart}

-- what stands between `;`: an empty field is one empty piece
abbrev pub pieces_of : List ℕ → Fields
pieces_of [] = [] ∷ []
pieces_of (byte ∷ bytes) = if byte == 59 then [] ∷ pieces_of bytes else before_first byte (pieces_of bytes)

-- the pieces of a field that may be empty: an empty one has none
abbrev pub items_of : List ℕ → Fields
items_of [] = []
items_of (byte ∷ bytes) = pieces_of (byte ∷ bytes)

-- how a value is spelled in a load file: as in scripts, but a text by itself
abbrev pub field_text : Value → List ℕ
field_text (value.Text bytes) = bytes
field_text v = value_text v

-- the bytes spell a value of the kind
pub record Spells (kind : Kind) (bytes : List ℕ) (v : Value) : Type 0 where
  pub text : bytes ≡ field_text v
  pub kind_is : kind_of v ≡ kind
  pub fits : IsValue v

-- the parts of a column's field, each of which is a value: its pieces where the column is marked, and else the field.
-- An empty field has none
abbrev pub parts_of : Column → List ℕ → Fields
parts_of column [] = []
parts_of column (byte ∷ bytes) = if column.many then pieces_of (byte ∷ bytes) else (byte ∷ bytes) ∷ []

-- the parts spell the values
abbrev pub SpellAll : Kind → Fields → List Value → Type 0
SpellAll kind [] [] = Unit {0}
SpellAll kind (part ∷ parts) (v ∷ values) = Spells kind part v × SpellAll kind parts values
SpellAll kind parts values = ⊥

-- the fields of the property columns spell these values, a list for each column
abbrev pub SpellColumns : List Column → Fields → List (List Value) → Type 0
SpellColumns [] [] [] = Unit {0}
SpellColumns (column ∷ columns) (field ∷ fields) (values ∷ rest) =
    SpellAll column.kind (parts_of column field) values × SpellColumns columns fields rest
SpellColumns columns fields values = ⊥

abbrev pub IsId : List ℕ → ℕ → Type 0
IsId field id = (field ≡ decimal id) × (id < 2 ^ 64)

-- a field of labels is names with `;` between each two, none of which stands twice; it may be empty
pub record AreLabels (field : List ℕ) (labels : Fields) : Type 0 where
  pub items : items_of field ≡ labels
  pub names : AllByRecursion IsName labels
  pub apart : are_apart labels ≡ true

abbrev pub IsLabel : List ℕ → Option (List ℕ) → Type 0
IsLabel field None = field ≡ []
IsLabel field (Some label) = (field ≡ label) × IsName label

-- `true` for an undirected edge, and `false` or nothing for a directed one
abbrev pub IsMark : List ℕ → Bool → Type 0
IsMark field true = field ≡ codes "true"
IsMark field false = (field ≡ codes "false") ⊎ (field ≡ [])

-- what the fields in front say, and the fields of the properties behind them
abbrev pub Says : Lead → Fields → Subject → Fields → Type 0
Says lead.Vertices (a ∷ b ∷ fields) (subject.Vertex id labels) behind = IsId a id × AreLabels b labels × (behind ≡ fields)
Says lead.Edges (a ∷ b ∷ c ∷ fields) (subject.Edge undirected source target label) behind =
    IsId a source × IsId b target × IsLabel c label × (undirected ≡ false) × (behind ≡ fields)
Says lead.MarkedEdges (a ∷ b ∷ c ∷ d ∷ fields) (subject.Edge undirected source target label) behind =
    IsId a source × IsId b target × IsLabel c label × IsMark d undirected × (behind ≡ fields)
Says lead fields says behind = ⊥

-- what a field stands for
pub data Sort : Type 0 where
  an_id : Sort
  some_labels : Sort
  a_label : Sort
  a_mark : Sort
  some_values : Column → Sort

abbrev pub lead_sorts : Lead → List Sort
lead_sorts lead.Vertices = an_id ∷ some_labels ∷ []
lead_sorts lead.Edges = an_id ∷ an_id ∷ a_label ∷ []
lead_sorts lead.MarkedEdges = an_id ∷ an_id ∷ a_label ∷ a_mark ∷ []

abbrev pub IsSpelled : Sort → List ℕ → Type 0
IsSpelled an_id field = (id : ℕ) × IsId field id
IsSpelled some_labels field = (labels : Fields) × AreLabels field labels
IsSpelled a_label field = (label : Option (List ℕ)) × IsLabel field label
IsSpelled a_mark field = (undirected : Bool) × IsMark field undirected
IsSpelled (some_values column) field = (values : List Value) × SpellAll column.kind (parts_of column field) values

abbrev pub fault_of : Sort → LoadFault
fault_of an_id = fault.Identifier
fault_of some_labels = fault.Label
fault_of a_label = fault.Label
fault_of a_mark = fault.Value
fault_of (some_values column) = fault.Value

-- the leftmost field that is misspelled has this fault
abbrev pub FirstWrong : List Sort → Fields → LoadFault → Type 0
FirstWrong (sort ∷ sorts) (field ∷ fields) told =
    ((¬ IsSpelled sort field) × (told ≡ fault_of sort)) ⊎ (IsSpelled sort field × FirstWrong sorts fields told)
FirstWrong sorts fields told = ⊥
