-- The entries of a view with every right are all entries.
use Rattle.std.proofs.Common.{◌≡◌, ℕ, ◌+◌, ◌<◌, cond, eqb, true, false, List, [], ◌∷◌, length, refl, ap, ◌∙◌, inl, inr, arith}
use Rattle.std.specs.List.{AllByRecursion, range_with_len}
use Rattle.std.proofs.lemmas.Bool.{cases_eq}
use Rattle.std.proofs.lemmas.Bool.Decides.{nat_tests}
use Rattle.object_words.specs.Entries.{Entry}
use Rattle.rma_layout.specs.Shape.{Shape}
use Rattle.window_rule.specs.View.{Chronicle}
use Rattle.window_rule.specs.RightsHold.{right_count}
use Rattle.window_rule.specs.HistoryHolds.{IsChronicle, is_among, numbers_from}
use Rattle.window_rule.specs.NotesHold.{StandsAlone}
use Rattle.window_rule.proofs.SplitSteps.{count-cons}
use Rattle.window_rule.proofs.OwnEntries.{own_in_history}

abbrev one_at : ℕ → ℕ → ℕ
one_at right rank = cond (eqb right rank) 1 0

counted-among : (rank : ℕ) (rights : List ℕ) → 0 < right_count rank rights
    → is_among rank rights ≡ true
counted-among rank [] h = absurd (omega arith)
counted-among rank (right ∷ more) h =
    elim (cases_eq right rank) [
      | inl same ↦ let t : eqb right rank ≡ true = grind (arith, nat_tests) in ap
          (λ b. cond b true (is_among rank more)) t
      | inr ne ↦
          let t : eqb right rank ≡ false = grind (arith, nat_tests) in
          let none : one_at right rank ≡ 0 = grind (arith, nat_tests) in
          ap (λ b. cond b true (is_among rank more)) t
          ∙ counted-among rank more (omega (arith, count-cons rank right more))
    ]

all_numbers : {N : Type 0} (shape : Shape) (rights : List ℕ) (k : ℕ) (history : List (Entry N))
    → StandsAlone shape rights
    → AllByRecursion (λ (entry : Entry N). entry.rank < shape.ranks) history
    → numbers_from k rights history ≡ range_with_len k (length history)
all_numbers shape rights k [] alone h = refl
all_numbers shape rights k (entry ∷ more) alone h =
    ap (λ b. cond b (k ∷ numbers_from (k + 1) rights more) (numbers_from (k + 1) rights more))
    (counted-among entry.rank rights (alone entry.rank h.0))
    ∙ ap (λ l. k ∷ l) (all_numbers shape rights (k + 1) more alone h.1)

pub own_is_all : {N : Type 0} (shape : Shape) (history : List (Entry N)) (one : Chronicle N)
    → StandsAlone shape one.rights
    → AllByRecursion (λ (entry : Entry N). entry.rank < shape.ranks) history
    → IsChronicle history one
    → one.own ≡ range_with_len 0 (length history)
own_is_all shape history one alone ranked h = own_in_history history one h
    ∙ all_numbers shape one.rights 0 history alone ranked
