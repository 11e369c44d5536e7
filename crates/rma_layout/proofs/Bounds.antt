-- What the ranges of a shape bound.
use Rattle.std.proofs.Common.{◌≡◌, ℕ, ◌+◌, ◌*◌, ◌≤◌, true, None, arith}
use Rattle.std.proofs.lemmas.Bool.Decides.{nat_tests}
use Rattle.std.proofs.lemmas.Nat.{mul-le}
use Rattle.rma_layout.specs.Shape.{Shape}
use Rattle.rma_layout.specs.Ranges.{is_between, refusal_of, IsInRange}

pub is_between-tells : (low high n : ℕ) → is_between low high n ≡ true → (low ≤ n) × (n ≤ high)
is_between-tells low high n h = grind (arith, nat_tests)

-- so the words of a window are counted without a wrap
pub window_words-le : (ranks blocks words : ℕ) → ranks ≤ 64 → blocks ≤ 1048575 → words ≤ 64 → ranks * blocks * (words + 4) ≤ 64 * 1048575 * 68
window_words-le ranks blocks words r b w =
    mul-le (ranks * blocks) (words + 4) (64 * 1048575) 68 (mul-le ranks blocks 64 1048575 r b) (omega arith)

-- a shape that isn't refused is in range
pub IsInRange-from_refusal : (shape : Shape) → refusal_of shape ≡ None → IsInRange shape
IsInRange-from_refusal shape h = grind (arith, nat_tests)

pub refusal_of-in_range : (shape : Shape) → IsInRange shape → refusal_of shape ≡ None
refusal_of-in_range shape h = grind (arith, nat_tests)
