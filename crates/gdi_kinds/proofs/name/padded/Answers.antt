use Rattle.std.proofs.Common.{List, ℕ, ◌++◌, length, ap}
use Rattle.std.proofs.lemmas.List.{drop-replicate}
use Rattle.gdi_kinds.proofs.name.padded.Goals as goal

-- the bytes behind the name are the zeros that were there
pub returns : goal.returns
returns c =
    let bytes = c.args.bytes.now in
    rw c.copy_from_slice.ensures.after (ap (λ (rest : List ℕ). bytes ++ rest) (drop-replicate (length bytes) 63 0))
