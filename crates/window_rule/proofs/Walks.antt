-- The walk along links meets the chain.
use Rattle.std.proofs.Common.{◌≡◌, ◌≢◌, ℕ, zero, suc, ◌^◌, ◌<◌, ◌==◌, cond, List, [], ◌∷◌, length, ap, ◌∙◌, arith, eq-eqb, ne_eqb}
use Rattle.std.specs.List.{AllByRecursion}
use Rattle.std.proofs.lemmas.Nat.{div-mul-add, mod-mul-add}
use Rattle.rma_layout.specs.Placement.{Place, raw_of}
use Rattle.object_words.specs.Chains.{place_of}
use Rattle.window_rule.specs.Objects.{AreLinked}
use Rattle.window_rule.proofs.LockLemmas.{place_by_parts}

abbrev pub walk : ℕ → (Place → ℕ → ℕ) → Place → List Place
walk zero cells block = []
walk (suc most) cells block = block ∷ cond (cells block 0 == 0) []
    (walk most cells (place_of (cells block 0)))

pub place_of-raw_of : (p : Place) → p.block < 2 ^ 48 → place_of (raw_of p) ≡ p
place_of-raw_of p h = place_by_parts _ _ (div-mul-add p.rank (2 ^ 48) p.block h)
    (mod-mul-add p.rank (2 ^ 48) p.block h)

-- a block that a link can name
abbrev pub IsNamed : Place → Type 0
IsNamed p = (p.block < 2 ^ 48) × (raw_of p ≢ 0)

pub walk-chain : (most : ℕ) (cells : Place → ℕ → ℕ) (block : Place) (more : List Place)
    → AreLinked cells (block ∷ more) → AllByRecursion IsNamed more → length more < most
    → walk most cells block ≡ block ∷ more
walk-chain zero cells block more linked named fuel = absurd (omega arith)
walk-chain (suc most) cells block [] linked named fuel =
    ap (λ t. block ∷ cond t [] (walk most cells (place_of (cells block 0))))
    (eq-eqb (cells block 0) 0 linked.0)
walk-chain (suc most) cells block (next ∷ more) linked named fuel =
    let link : cells block 0 ≡ raw_of next = linked.0 in
    ap (λ n. block ∷ cond (n == 0) [] (walk most cells (place_of n))) link
    ∙ (ap (λ t. block ∷ cond t [] (walk most cells (place_of (raw_of next))))
    (ne_eqb (raw_of next) 0 named.0.1)
    ∙ (ap (λ p. block ∷ walk most cells p) (place_of-raw_of next named.0.0)
    ∙ ap (λ l. block ∷ l) (walk-chain most cells next more linked.1 named.1 (omega arith))))
