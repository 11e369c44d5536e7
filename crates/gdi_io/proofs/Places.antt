-- The place of a file and what it holds.
use Rattle.std.proofs.Common.{◌≡◌, ℕ, List, [], ◌∷◌, refl, arith}
use Rattle.std.specs.Prelude.{position}
use Rattle.std.specs.Str.{bytes_eq}
use Rattle.gdi_kinds.specs.declared.named_bytes.NamedBytes.{NamedBytes}
use Rattle.gdi_io.specs.Files.{file_place, bytes_of, bytes_at}

-- the bytes at the place of a name are those of the name
pub bytes_at-file_place : (files : List NamedBytes) (name : List ℕ) → bytes_at files (file_place files name) ≡ bytes_of files name
bytes_at-file_place [] name = refl
bytes_at-file_place (file ∷ files) name = grind (arith, bytes_at-file_place files name)

-- the place is that of the first file whose name passes the test
pub position-file_place : (files : List NamedBytes) (name : List ℕ) → position (λ file. bytes_eq file.name name) files ≡ file_place files name
position-file_place [] name = refl
position-file_place (file ∷ files) name = grind (arith, position-file_place files name)
