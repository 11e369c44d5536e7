-- A set with a number more.
use Rattle.std.proofs.Common.{◌≡◌, ℕ, ◌+◌, Bool, ◌||◌, ◌==◌, List, [], ◌∷◌, ◌++◌, length, sym, ap, ◌∙◌, arith}
use Rattle.std.specs.List.{list_any}
use Rattle.std.proofs.lemmas.List.{length-append}
use Rattle.std.specs.BTreeSet.{insert_key}
use Rattle.std.specs.Ordering.{nat_cmp}
use Rattle.run_check.specs.Numbering.{is_among, HasSeen}

among_more : (numbers : List ℕ) (n k : ℕ) → is_among (numbers ++ n ∷ []) k ≡ (is_among numbers k || n == k)
among_more [] n k = grind arith
among_more (m ∷ numbers) n k = grind (arith, among_more numbers n k)

in_set_more : (keys : List ℕ) (n k : ℕ) → list_any (λ m. k == m) (insert_key nat_cmp keys n) ≡ (list_any (λ m. k == m) keys || k == n)
in_set_more [] n k = grind arith
in_set_more (m ∷ keys) n k = grind (arith, in_set_more keys n k)

swapped : (a b : Bool) (n k : ℕ) → a ≡ b → (a || k == n) ≡ (b || n == k)
swapped a b n k same = grind (arith, same)

pub seen_more : (keys more numbers : List ℕ) (n : ℕ) → more ≡ insert_key nat_cmp keys n → length more ≡ length keys + 1
    → HasSeen keys numbers → HasSeen more (numbers ++ n ∷ [])
seen_more keys more numbers n is longer seen = record {
  members = λ k. ap (list_any (λ m. k == m)) is ∙ in_set_more keys n k ∙ swapped _ _ n k (seen.members k) ∙ sym (among_more numbers n k);
  count = omega (arith, longer, seen.count, length-append numbers (n ∷ []));
}

pub among_one_more : (numbers : List ℕ) (n k : ℕ) → is_among (numbers ++ n ∷ []) k ≡ (is_among numbers k || n == k)
among_one_more = among_more
