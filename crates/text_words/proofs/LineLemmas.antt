-- The first line of a text, by where its first LF stands.
use Rattle.std.proofs.Common.{◌≡◌, ◌≢◌, ℕ, zero, suc, ◌+◌, ◌-◌, ◌<◌, ◌≤◌, Bool, eqb, List, [], ◌∷◌, length, get_or, take, drop, Some, None, sym, ap, ◌∙◌, add-one, arith, inl, inr}
use Rattle.std.specs.List.{position, position_or_len}
use Rattle.std.proofs.lemmas.Bool.{ne_eqb, eq-eqb, eqb-true, eqb-false, cases_lt, lt-ltb, cond-true, cond-false}
use Rattle.std.proofs.lemmas.List.{take_rest, drop_all}
use Rattle.std.proofs.lemmas.List.Sums.{fails_before_first}
use Rattle.std.proofs.lemmas.List.Quantifiers.{position-Some}
use Rattle.text_words.specs.Lines.{lines_of, before_first}

ends_at : (text : List ℕ) (end : ℕ) → end < length text → get_or text end 0 ≡ 10 → ((k : ℕ) → k < end → get_or text k 0 ≢ 10) → lines_of text ≡ take end text ∷ lines_of (drop (suc end) text)
ends_at [] end within at before = absurd (omega arith)
ends_at (byte ∷ bytes) zero within at before = cond-true (eqb byte 10) _ _ (eq-eqb byte 10 at)
ends_at (byte ∷ bytes) (suc end) within at before =
    cond-false (eqb byte 10) _ _ (ne_eqb byte 10 (before 0 (omega arith))) ∙ ap (before_first byte) (ends_at bytes end (omega arith) at (λ k lt. before (suc k) (omega arith)))

ends_nowhere : (text : List ℕ) → 0 < length text → ((k : ℕ) → k < length text → get_or text k 0 ≢ 10) → lines_of text ≡ text ∷ []
ends_nowhere [] some none = absurd (omega arith)
ends_nowhere (byte ∷ []) some none = cond-false (eqb byte 10) _ _ (ne_eqb byte 10 (none 0 (omega arith)))
ends_nowhere (byte ∷ next ∷ bytes) some none =
    cond-false (eqb byte 10) _ _ (ne_eqb byte 10 (none 0 (omega arith))) ∙ ap (before_first byte) (ends_nowhere (next ∷ bytes) (omega arith) (λ k lt. none (suc k) (omega arith)))

abbrev is_end : ℕ → Bool
is_end byte = eqb byte 10

pub lines_at_end : (text : List ℕ) (end : ℕ) → position is_end text ≡ Some end → lines_of text ≡ take end text ∷ lines_of (take (length text - (end + 1)) (drop (end + 1) text))
lines_at_end text end at =
    let told = position-Some is_end text end 0 at in
    let first : lines_of text ≡ take end text ∷ lines_of (drop (end + 1) text) = rw add-one (ends_at text end told.0 (eqb-true _ _ told.1) (λ k lt. eqb-false _ _ (told.2 k lt))) in
    first ∙ ap (λ (rest : List ℕ). take end text ∷ lines_of rest) (sym (take_rest text (end + 1)))

pub lines_at_none : (text : List ℕ) → 0 < length text → position is_end text ≡ None → lines_of text ≡ text ∷ lines_of (take (length text - length text) (drop (length text) text))
lines_at_none text some at =
    let missed : length text ≤ position_or_len is_end text =
    elim (cases_lt (position_or_len is_end text) (length text)) [
      | inl lt ↦ let found : position is_end text ≡ Some (position_or_len is_end text) = cond-true _ _ _ (lt-ltb _ _ lt) in absurd (cc)
      | inr le ↦ le
    ]
    in
    ends_nowhere text some (λ k lt. eqb-false _ _ (fails_before_first is_end text k 0 (omega arith)))
    ∙ ap (λ (rest : List ℕ). text ∷ lines_of rest) (sym (take_rest text (length text) ∙ drop_all (length text) text (omega arith)))
