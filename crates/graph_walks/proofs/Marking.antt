-- Marks: what marking one place does.
use Rattle.std.proofs.Common.{◌≡◌, ℕ, ◌<◌, ◌≤◌, List, length, get_or, set, map, Some, None, inl, inr, if◌then◌else◌, sym, ap, ◌∙◌, arith}
use Rattle.std.specs.Prelude.{◌==◌}
use Rattle.std.specs.Option.{option_or}
use Rattle.std.proofs.lemmas.Bool.{cases_eq, cases_lt, eq-eqb, ne_eqb}
use Rattle.std.proofs.lemmas.List.{get_or-map, get_or_past, get_or-set_same, get_or-set_other, length-map, length-set}
use Rattle.graph_walks.specs.Marks.{mark_of, mark_at}
use Rattle.graph_walks.proofs.Bools.{unmarked}

within : (ms : List ℕ) (j : ℕ) → j < length ms → mark_at (map mark_of ms) j ≡ mark_of (get_or ms j 0)
within ms j below = get_or-map mark_of ms j 0 None below

past : (ms : List ℕ) (j : ℕ) → length ms ≤ j → mark_at (map mark_of ms) j ≡ None
past ms j above = get_or_past (map mark_of ms) j None (omega (arith, length-map ms mark_of, above))

some_mark : (mark : ℕ) → mark < 4294967295 → mark_of mark ≡ Some mark
some_mark mark few = ap (λ b. if b then None else Some mark) (ne_eqb mark 4294967295 (λ same. absurd (omega (arith, few, same))))

pub no_mark : (n : ℕ) → n ≡ 4294967295 → mark_of n ≡ None
no_mark n is = ap (λ b. if b then None else Some n) (eq-eqb n 4294967295 is)

pub none_marked : (ms : List ℕ) → ((k : ℕ) → k < length ms → get_or ms k 0 ≡ 4294967295) → (j : ℕ) → mark_at (map mark_of ms) j ≡ None
none_marked ms all j = elim (cases_lt j (length ms)) [
  | inl below ↦ within ms j below ∙ no_mark (get_or ms j 0) (all j below)
  | inr above ↦ past ms j above
]

pub marked : (ms : List ℕ) (place mark : ℕ) → place < length ms → mark < 4294967295 → get_or ms place 0 ≡ 4294967295 → (j : ℕ)
    → mark_at (map mark_of (set ms place mark)) j ≡ option_or (mark_at (map mark_of ms) j) (if place == j then Some mark else None)
marked ms place mark inside few free j =
    elim (cases_eq j place) [
      | inl same ↦
          ap (mark_at (map mark_of (set ms place mark))) same
          ∙ within (set ms place mark) place (omega (arith, inside, length-set ms place mark))
          ∙ ap mark_of (get_or-set_same ms place mark 0 inside)
          ∙ some_mark mark few
          ∙ sym (ap (λ b. option_or (mark_at (map mark_of ms) j) (if b then Some mark else None)) (eq-eqb place j (sym same))
          ∙ ap (λ o. option_or o (Some mark)) (ap (mark_at (map mark_of ms)) same ∙ within ms place inside ∙ no_mark (get_or ms place 0) free))
      | inr differs ↦
          elim (cases_lt j (length ms)) [
            | inl below ↦
                within (set ms place mark) j (omega (arith, below, length-set ms place mark)) ∙ ap mark_of (get_or-set_other ms place j mark 0 differs) ∙ sym (within ms j below)
            | inr above ↦ past (set ms place mark) j (omega (arith, above, length-set ms place mark)) ∙ sym (past ms j above)
          ]
          ∙ sym (ap (λ b. option_or (mark_at (map mark_of ms) j) (if b then Some mark else None)) (ne_eqb place j (λ same. differs (sym same))) ∙ unmarked (mark_at (map mark_of ms) j))
    ]
