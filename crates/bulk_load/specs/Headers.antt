-- The header of a load file, and the columns that it names.
use Rattle.std.specs.Prelude.{◌≡◌, ℕ, ◌≤◌, Bool, true, false, not, ◌&&◌, List, [], ◌∷◌, ◌++◌, map, length, codes, if◌then◌else◌}
use Rattle.std.specs.List.{list_any, AllByRecursion}
use Rattle.std.specs.Option.{option_map_or}
use Rattle.std.specs.Str.{bytes_eq}
use Rattle.gdi_kinds.specs.Names.{IsName}
use Rattle.gdi_kinds.specs.Constraint.{same_kind}
use Rattle.text_words.specs.Spelling.{kind_text}
use Rattle.graph_model.specs.Graph.{Graph}
use Rattle.graph_model.specs.Lookups.{type_number, kind_at, is_marked}
use Rattle.bulk_load.specs.declared.load_file.LoadFile.{LoadFile}
use Rattle.bulk_load.specs.declared.load_file.LoadFile.TheVariants as file
use Rattle.bulk_load.specs.declared.column.Column.{Column}
use Rattle.bulk_load.specs.declared.lead.Lead.{Lead}
use Rattle.bulk_load.specs.declared.lead.Lead.TheVariants as lead
use Rattle.bulk_load.specs.declared.header.Header.{Header}
use Rattle.bulk_load.specs.Records.{Fields}

-- the file that has these columns in front
abbrev pub file_of : Lead → LoadFile
file_of lead.Vertices = file.Vertices
file_of lead.Edges = file.Edges
file_of lead.MarkedEdges = file.Edges

-- how the columns in front are headed
abbrev pub lead_fields : Lead → Fields
lead_fields lead.Vertices = codes ":ID" ∷ codes ":LABEL" ∷ []
lead_fields lead.Edges = codes ":START_ID" ∷ codes ":END_ID" ∷ codes ":TYPE" ∷ []
lead_fields lead.MarkedEdges = codes ":START_ID" ∷ codes ":END_ID" ∷ codes ":TYPE" ∷ codes ":UNDIRECTED" ∷ []

-- how the column of a property is headed: by its name and kind, and by `[]` where its type is marked
abbrev pub column_text : Column → List ℕ
column_text column = column.name ++ 58 ∷ (kind_text column.kind ++ (if column.many then codes "[]" else []))

-- whether no name stands twice
abbrev pub are_apart : List (List ℕ) → Bool
are_apart [] = true
are_apart (name ∷ names) = not (list_any (bytes_eq name) names) && are_apart names

-- whether both have the mark, or neither
abbrev pub same_mark : Bool → Bool → Bool
same_mark true many = many
same_mark false many = not many

-- whether the type of a column isn't there with another kind or mark
abbrev pub agrees : Graph → Column → Bool
agrees g column =
    option_map_or (λ type. same_kind (kind_at g type) column.kind && same_mark (is_marked g type) column.many) (type_number g column.name) true

-- these head the columns of properties: no property stands twice, and each may have its type on the graph
pub record AreColumns (g : Graph) (fields : Fields) (columns : List Column) : Type 0 where
  pub texts : fields ≡ map column_text columns
  pub names : AllByRecursion (λ (column : Column). IsName column.name) columns
  pub apart : are_apart (map (λ column. column.name) columns) ≡ true
  pub agree : AllByRecursion (λ (column : Column). agrees g column ≡ true) columns

-- the fields of a record head the columns of a file, 256 at most
pub record IsHeader (g : Graph) (file : LoadFile) (fields : Fields) (header : Header) : Type 0 where
  pub few : length fields ≤ 256
  pub file_is : file_of header.lead ≡ file
  pub behind : Fields
  pub front : fields ≡ lead_fields header.lead ++ behind
  pub columns : AreColumns g behind header.columns
