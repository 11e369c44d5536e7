-- How a word begins, and where its `=` stands.
use Rattle.std.proofs.Common.{◌≡◌, ◌≢◌, ℕ, zero, suc, ◌<◌, Bool, true, false, not, List, [], ◌∷◌, ◌++◌, length, get_or, eqb, inl, inr, refl, sym, ap, subst, ◌∙◌, arith}
use Rattle.std.specs.Prelude.{◌⊎◌, ◌&&◌, ◌==◌}
use Rattle.std.proofs.lemmas.Bool.Decides.{nat_tests}
use Rattle.clap.proofs.CutLemmas.{Lacks}
use Rattle.command_words.specs.Items.{Text, begins_with_dash, is_short}

lacks_cons : (c x : ℕ) (xs : List ℕ) → x ≢ c → Lacks c xs → Lacks c (x ∷ xs)
lacks_cons c x xs ne h zero lt = ne
lacks_cons c x xs ne h (suc i) lt = h i (omega arith)

test_same : (x c : ℕ) → (x == c) ≡ true → x ≡ c
test_same x c e = grind (arith, nat_tests)

test_differs : (x c : ℕ) → (x == c) ≡ false → x ≢ c
test_differs x c e = λ same. let bad : (x == c) ≡ true = grind (arith, nat_tests) in let no : true ≡ false = sym bad ∙ e in cc

abbrev pub Cut : ℕ → List ℕ → Type 0
Cut c xs = Lacks c xs ⊎ ((front : List ℕ) × (behind : List ℕ) × (xs ≡ front ++ c ∷ behind) × Lacks c front)

cut_first : (c x : ℕ) (xs : List ℕ) (b : Bool) → (x == c) ≡ b → Cut c xs → Cut c (x ∷ xs)
cut_first c x xs true e h = inr ([], xs, ap (λ y. y ∷ xs) (test_same x c e), λ i lt. absurd (omega arith))
cut_first c x xs false e (inl lacks) = inl (lacks_cons c x xs (test_differs x c e) lacks)
cut_first c x xs false e (inr found) = inr (x ∷ found.0, found.1, ap (λ ys. x ∷ ys) found.2, lacks_cons c x found.0 (test_differs x c e) found.3)

pub cut : (c : ℕ) (xs : List ℕ) → Cut c xs
cut c [] = inl (λ i lt. absurd (omega arith))
cut c (x ∷ xs) = cut_first c x xs (x == c) refl (cut c xs)

-- a word that isn't short
abbrev pub Begins : Text → Type 0
Begins word = (begins_with_dash word ≡ false) ⊎ ((word ≡ 45 ∷ 45 ∷ []) ⊎ ((first : ℕ) × (others : List ℕ) × (word ≡ 45 ∷ 45 ∷ first ∷ others)))

two_dashes : (bytes : List ℕ) → Begins (45 ∷ 45 ∷ bytes)
two_dashes [] = inr (inl refl)
two_dashes (first ∷ others) = inr (inr (first, others, refl))

with_two : (byte next : ℕ) (bytes : List ℕ) (b d : Bool) → (byte == 45) ≡ b → (next == 45) ≡ d → (b && not d) ≡ false → Begins (byte ∷ next ∷ bytes)
with_two byte next bytes false d e f long = inl e
with_two byte next bytes true true e f long =
    subst (λ x. Begins (x ∷ next ∷ bytes)) (sym (test_same byte 45 e)) (subst (λ x. Begins (45 ∷ x ∷ bytes)) (sym (test_same next 45 f)) (two_dashes bytes))
with_two byte next bytes true false e f long = absurd cc

pub begins : (word : Text) → is_short word ≡ false → Begins word
begins [] long = inl refl
begins (byte ∷ []) long = inl long
begins (byte ∷ next ∷ bytes) long = with_two byte next bytes (byte == 45) (next == 45) refl refl long
