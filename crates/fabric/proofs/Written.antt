-- What is written through a slice of a list stands in the list.
use Rattle.std.proofs.Common.{◌≡◌, ℕ, List, ◌++◌, length, take, drop, ap, ◌∙◌}
use Rattle.std.proofs.Math.Seq.{take-append_seam}

pub written : {A : Type 0} (new old : List A) (len : ℕ) → len ≡ length new
    → take len (new ++ drop (length new) old) ≡ new
written new old len e = ap (λ n. take n (new ++ drop (length new) old)) e
    ∙ take-append_seam new (drop (length new) old)
