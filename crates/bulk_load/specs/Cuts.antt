-- How a header and a field are read piece by piece.
use Rattle.std.specs.Prelude.{◌≡◌, ◌≢◌, ℕ, Bool, List, [], ◌++◌, map, Option, None, Some}
use Rattle.std.specs.List.{AllByRecursion}
use Rattle.std.specs.Bool.{MatchBool}
use Rattle.gdi_kinds.specs.Names.{IsName}
use Rattle.bulk_load.specs.declared.column.Column.{Column}
use Rattle.bulk_load.specs.declared.lead.Lead.{Lead}
use Rattle.bulk_load.specs.declared.load_file.LoadFile.{LoadFile}
use Rattle.bulk_load.specs.Headers.{column_text, file_of, lead_fields}
use Rattle.bulk_load.specs.Records.{Fields}
use Rattle.bulk_load.specs.Fields.{pieces_of}

abbrev pub pieces_behind : Option (List ℕ) → Fields
pieces_behind None = []
pieces_behind (Some rest) = pieces_of rest

-- the fields begin with these columns in front, and a header of no others is spelled by them
pub record LeadsWith (file : LoadFile) (fields : Fields) (lead : Lead) : Type 0 where
  pub file_is : file_of lead ≡ file
  pub behind : Fields
  pub front : fields ≡ lead_fields lead ++ behind
  pub alone : (other : Lead) (columns : List Column) → file_of other ≡ file → AllByRecursion (λ (column : Column). IsName column.name) columns
      → fields ≡ lead_fields other ++ map column_text columns → other ≡ lead

-- whether the fields begin with these columns in front
abbrev pub LeadsOrNot : Lead → Fields → Bool → Type 0
LeadsOrNot lead fields does = MatchBool does
    ((behind : Fields) × (fields ≡ lead_fields lead ++ behind))
    ((behind : Fields) → fields ≢ lead_fields lead ++ behind)

-- the columns in front that fields begin with, or none of the file's
abbrev pub LeadOrNone : LoadFile → Fields → Option Lead → Type 0
LeadOrNone file fields (Some lead) = LeadsWith file fields lead
LeadOrNone file fields None = (lead : Lead) (behind : Fields) → file_of lead ≡ file → fields ≢ lead_fields lead ++ behind
