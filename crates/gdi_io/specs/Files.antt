-- Files by name. Of a name that stands twice the first counts.
use Rattle.std.specs.Prelude.{ℕ, suc, List, [], ◌∷◌, Option, Some, None, if◌then◌else◌, slice_get}
use Rattle.std.specs.Option.{option_map, option_map_or}
use Rattle.std.specs.Str.{bytes_eq}
use Rattle.gdi_kinds.specs.declared.named_bytes.NamedBytes.{NamedBytes}

-- the place of the file of this name, from 0
abbrev pub file_place : List NamedBytes → List ℕ → Option ℕ
file_place [] name = None
file_place (file ∷ files) name = if bytes_eq file.name name then Some 0 else option_map suc (file_place files name)

-- what the file of this name holds: nothing where the name isn't held
abbrev pub bytes_of : List NamedBytes → List ℕ → List ℕ
bytes_of [] name = []
bytes_of (file ∷ files) name = if bytes_eq file.name name then file.bytes else bytes_of files name

-- what the file at a place holds: nothing at no place
abbrev pub bytes_at : List NamedBytes → Option ℕ → List ℕ
bytes_at files None = []
bytes_at files (Some place) = option_map_or (λ file. file.bytes) (slice_get files place) []
