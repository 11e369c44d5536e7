-- The first piece of a field, by where its first `;` stands.
use Rattle.std.proofs.Common.{◌≡◌, ◌≢◌, ℕ, zero, suc, ◌+◌, ◌-◌, ◌<◌, ◌≤◌, Bool, eqb, List, [], ◌∷◌, length, get_or, take, drop, Some, None, sym, ap, ◌∙◌, add-one, arith, inl, inr, refl}
use Rattle.std.specs.List.{position, position_or_len}
use Rattle.std.proofs.lemmas.Bool.{ne_eqb, eq-eqb, eqb-true, eqb-false, cases_lt, lt-ltb, cond-true, cond-false}
use Rattle.std.proofs.lemmas.List.{take_rest}
use Rattle.std.proofs.lemmas.List.Sums.{fails_before_first}
use Rattle.std.proofs.lemmas.List.Quantifiers.{position-Some}
use Rattle.text_words.specs.Lines.{before_first}
use Rattle.bulk_load.specs.Fields.{pieces_of}

ends_at : (text : List ℕ) (end : ℕ) → end < length text → get_or text end 0 ≡ 59 → ((k : ℕ) → k < end → get_or text k 0 ≢ 59) → pieces_of text ≡ take end text ∷ pieces_of (drop (suc end) text)
ends_at [] end within at before = absurd (omega arith)
ends_at (byte ∷ bytes) zero within at before = cond-true (eqb byte 59) _ _ (eq-eqb byte 59 at)
ends_at (byte ∷ bytes) (suc end) within at before =
    cond-false (eqb byte 59) _ _ (ne_eqb byte 59 (before 0 (omega arith))) ∙ ap (before_first byte) (ends_at bytes end (omega arith) at (λ k lt. before (suc k) (omega arith)))

ends_nowhere : (text : List ℕ) → ((k : ℕ) → k < length text → get_or text k 0 ≢ 59) → pieces_of text ≡ text ∷ []
ends_nowhere [] none = refl
ends_nowhere (byte ∷ bytes) none =
    cond-false (eqb byte 59) _ _ (ne_eqb byte 59 (none 0 (omega arith))) ∙ ap (before_first byte) (ends_nowhere bytes (λ k lt. none (suc k) (omega arith)))

abbrev is_end : ℕ → Bool
is_end byte = eqb byte 59

pub piece_at_end : (text : List ℕ) (end : ℕ) → position is_end text ≡ Some end → pieces_of text ≡ take end text ∷ pieces_of (take (length text - (end + 1)) (drop (end + 1) text))
piece_at_end text end at =
    let told = position-Some is_end text end 0 at in
    let first : pieces_of text ≡ take end text ∷ pieces_of (drop (end + 1) text) = rw add-one (ends_at text end told.0 (eqb-true _ _ told.1) (λ k lt. eqb-false _ _ (told.2 k lt))) in
    first ∙ ap (λ (rest : List ℕ). take end text ∷ pieces_of rest) (sym (take_rest text (end + 1)))

pub piece_at_none : (text : List ℕ) → position is_end text ≡ None → pieces_of text ≡ text ∷ []
piece_at_none text at =
    let missed : length text ≤ position_or_len is_end text =
    elim (cases_lt (position_or_len is_end text) (length text)) [
      | inl lt ↦ let found : position is_end text ≡ Some (position_or_len is_end text) = cond-true _ _ _ (lt-ltb _ _ lt) in absurd (cc)
      | inr le ↦ le
    ]
    in
    ends_nowhere text (λ k lt. eqb-false _ _ (fails_before_first is_end text k 0 (omega arith)))
