-- How values are read.
use Rattle.std.proofs.Common.{◌≡◌, ◌≢◌, ℕ, suc, ◌^◌, ◌<◌, ℤ, Bool, true, false, Option, Some, None, MatchOption, eqb, List, [], ◌∷◌, ◌++◌, length, refl, sym, ap, subst, ◌∙◌, ◌⊎◌, inl, inr, append_assoc, arith}
use Rattle.std.specs.Prelude.{FitsSigned, pos, negsuc}
use Rattle.std.specs.Int.{w64}
use Rattle.std.specs.List.{flat_map}
use Rattle.std.specs.Fmt.{decimal, signed_decimal}
use Rattle.std.proofs.lemmas.Bool.{cases_Bool, eqb-true, eqb-false}
use Rattle.std.proofs.lemmas.Fmt.{decimal_injective}
use Rattle.text_words.specs.Numbers.{begins_number}
use Rattle.gdi_kinds.specs.Texts.{IsText}
use Rattle.gdi_kinds.specs.declared.value.Value.{Value}
use Rattle.gdi_kinds.specs.declared.value.Value.TheVariants as value
use Rattle.text_words.specs.Spelling.{constant, quoted_byte, value_text, IsValue}
use Rattle.text_words.specs.Forms.{a_value, IsSpelled, IsRead}
use Rattle.text_words.proofs.NumberLemmas.{begins_decimal}

-- the digits of one number are those of no other
pub other_number : (digits : List ℕ) (size n : ℕ) → digits ≡ decimal size → size < 2 ^ 64 → n < 2 ^ 64 → size ≢ n → digits ≢ decimal n
other_number digits size n is fits lt differ spelled = differ (decimal_injective size n fits lt (sym is ∙ spelled))

-- ---- quoted texts

-- a special byte stands behind a backslash, and any other by itself
pub quoted_cases : (byte : ℕ) → (((byte ≡ 34) ⊎ (byte ≡ 92)) × (quoted_byte byte ≡ 92 ∷ byte ∷ [])) ⊎ ((byte ≢ 34) × (byte ≢ 92) × (quoted_byte byte ≡ byte ∷ []))
quoted_cases byte =
    elim (cases_Bool (eqb byte 34)) [
      | inl quote ↦ inl (inl (eqb-true _ _ quote), rw quote refl)
      | inr plain ↦ elim (cases_Bool (eqb byte 92)) [
        | inl slash ↦ inl (inr (eqb-true _ _ slash), rw (plain, slash) refl)
        | inr other ↦ inr (eqb-false _ _ plain, eqb-false _ _ other, rw (plain, other) refl)
      ]
    ]

pub quoted_some : (byte : ℕ) (rest : List ℕ) → length rest < length (quoted_byte byte ++ rest)
quoted_some byte rest =
    elim (quoted_cases byte) [
      | inl special ↦ rw (special.1) (omega arith)
      | inr plain ↦ rw (plain.2) (omega arith)
    ]

-- a quote is no byte of a text
pub no_quote : (byte : ℕ) (rest ends : List ℕ) → 34 ∷ ends ≢ quoted_byte byte ++ rest
no_quote byte rest ends same =
    elim (quoted_cases byte) [
      | inl special ↦ let e : 34 ∷ ends ≡ 92 ∷ byte ∷ rest = same ∙ ap (λ (q : List ℕ). q ++ rest) special.1 in absurd (cc)
      | inr plain ↦ let e : 34 ∷ ends ≡ byte ∷ rest = same ∙ ap (λ (q : List ℕ). q ++ rest) plain.2 in absurd (plain.0 (cc))
    ]

-- what follows the first byte of a text
pub same_rest : (a b : ℕ) (xs ys : List ℕ) → quoted_byte a ++ xs ≡ quoted_byte b ++ ys → xs ≡ ys
same_rest a b xs ys same =
    elim (quoted_cases a) [
      | inl special ↦ elim (quoted_cases b) [
        | inl also ↦ let e : 92 ∷ a ∷ xs ≡ 92 ∷ b ∷ ys = sym (ap (λ (q : List ℕ). q ++ xs) special.1) ∙ same ∙ ap (λ (q : List ℕ). q ++ ys) also.1 in cc
        | inr plain ↦ let e : 92 ∷ a ∷ xs ≡ b ∷ ys = sym (ap (λ (q : List ℕ). q ++ xs) special.1) ∙ same ∙ ap (λ (q : List ℕ). q ++ ys) plain.2 in absurd (plain.1 (cc))
      ]
      | inr plain ↦ elim (quoted_cases b) [
        | inl special ↦ let e : a ∷ xs ≡ 92 ∷ b ∷ ys = sym (ap (λ (q : List ℕ). q ++ xs) plain.2) ∙ same ∙ ap (λ (q : List ℕ). q ++ ys) special.1 in absurd (plain.1 (cc))
        | inr also ↦ let e : a ∷ xs ≡ b ∷ ys = sym (ap (λ (q : List ℕ). q ++ xs) plain.2) ∙ same ∙ ap (λ (q : List ℕ). q ++ ys) also.2 in cc
      ]
    ]

-- the first byte of a text
pub same_byte : (a b : ℕ) (xs ys : List ℕ) → quoted_byte a ++ xs ≡ quoted_byte b ++ ys → a ≡ b
same_byte a b xs ys same =
    elim (quoted_cases a) [
      | inl special ↦ elim (quoted_cases b) [
        | inl also ↦ let e : 92 ∷ a ∷ xs ≡ 92 ∷ b ∷ ys = sym (ap (λ (q : List ℕ). q ++ xs) special.1) ∙ same ∙ ap (λ (q : List ℕ). q ++ ys) also.1 in cc
        | inr plain ↦ let e : 92 ∷ a ∷ xs ≡ b ∷ ys = sym (ap (λ (q : List ℕ). q ++ xs) special.1) ∙ same ∙ ap (λ (q : List ℕ). q ++ ys) plain.2 in absurd (plain.1 (cc))
      ]
      | inr plain ↦ elim (quoted_cases b) [
        | inl special ↦ let e : a ∷ xs ≡ 92 ∷ b ∷ ys = sym (ap (λ (q : List ℕ). q ++ xs) plain.2) ∙ same ∙ ap (λ (q : List ℕ). q ++ ys) special.1 in absurd (plain.1 (cc))
        | inr also ↦ let e : a ∷ xs ≡ b ∷ ys = sym (ap (λ (q : List ℕ). q ++ xs) plain.2) ∙ same ∙ ap (λ (q : List ℕ). q ++ ys) also.2 in cc
      ]
    ]

-- a text ends at the first quote that stands by itself
pub same_text : (s t xs ys : List ℕ) → flat_map quoted_byte s ++ 34 ∷ xs ≡ flat_map quoted_byte t ++ 34 ∷ ys → (s ≡ t) × (xs ≡ ys)
same_text [] [] xs ys same = (refl, cc)
same_text [] (c ∷ t) xs ys same = absurd (no_quote c (flat_map quoted_byte t ++ 34 ∷ ys) xs (same ∙ append_assoc (quoted_byte c) (flat_map quoted_byte t) (34 ∷ ys)))
same_text (b ∷ s) [] xs ys same = absurd (no_quote b (flat_map quoted_byte s ++ 34 ∷ xs) ys (sym same ∙ append_assoc (quoted_byte b) (flat_map quoted_byte s) (34 ∷ xs)))
same_text (b ∷ s) (c ∷ t) xs ys same =
    let e : quoted_byte b ++ (flat_map quoted_byte s ++ 34 ∷ xs) ≡ quoted_byte c ++ (flat_map quoted_byte t ++ 34 ∷ ys) = sym (append_assoc (quoted_byte b) (flat_map quoted_byte s) (34 ∷ xs)) ∙ same ∙ append_assoc (quoted_byte c) (flat_map quoted_byte t) (34 ∷ ys) in
    let first : b ≡ c = same_byte b c _ _ e in
    let rest = same_text s t xs ys (same_rest b c _ _ e) in
    (let behind : s ≡ t = rest.0 in cc, rest.1)

-- bytes that are no text quote none
pub not_text : (quoted bytes : List ℕ) → quoted ≡ flat_map quoted_byte bytes ++ 34 ∷ [] → ¬ IsText bytes → (text : List ℕ) → IsText text → quoted ≢ flat_map quoted_byte text ++ 34 ∷ []
not_text quoted bytes is none text fits spelled = none (subst IsText (sym (same_text bytes text [] [] (sym is ∙ spelled)).0) fits)

-- behind the bytes so far stands the rest of the text, the quote and what follows it
pub rest_is_closed : (bytes rest text behind : List ℕ) → flat_map quoted_byte bytes ++ rest ≡ flat_map quoted_byte text ++ 34 ∷ behind → (others : List ℕ) × (rest ≡ flat_map quoted_byte others ++ 34 ∷ behind)
rest_is_closed [] rest text behind same = (text, same)
rest_is_closed (b ∷ bytes) rest [] behind same = absurd (no_quote b (flat_map quoted_byte bytes ++ rest) behind (sym (sym (append_assoc (quoted_byte b) (flat_map quoted_byte bytes) rest) ∙ same)))
rest_is_closed (b ∷ bytes) rest (c ∷ text) behind same =
    rest_is_closed bytes rest text behind (same_rest b c _ _ (sym (append_assoc (quoted_byte b) (flat_map quoted_byte bytes) rest) ∙ same ∙ append_assoc (quoted_byte c) (flat_map quoted_byte text) (34 ∷ behind)))

-- where no byte stands and no closing quote, no text is quoted
pub none_quoted : (quoted bytes rest : List ℕ) → quoted ≡ flat_map quoted_byte bytes ++ rest → rest ≢ 34 ∷ [] → ((byte : ℕ) (behind : List ℕ) → rest ≢ quoted_byte byte ++ behind) → (text : List ℕ) → quoted ≢ flat_map quoted_byte text ++ 34 ∷ []
none_quoted quoted bytes rest so_far ended none text spelled =
    let left = rest_is_closed bytes rest text [] (sym so_far ∙ spelled) in
    not_left left.0 left.1
  where
    not_left : (behind : List ℕ) → rest ≡ flat_map quoted_byte behind ++ 34 ∷ [] → ⊥
    not_left [] is = ended is
    not_left (b ∷ bs) is = none b (flat_map quoted_byte bs ++ 34 ∷ []) (is ∙ append_assoc (quoted_byte b) (flat_map quoted_byte bs) (34 ∷ []))

-- ---- integers

-- no number begins with another byte than a digit
pub no_digit : (x n : ℕ) (rest : List ℕ) → n < 2 ^ 64 → begins_number (x ∷ rest) ≡ false → decimal n ≢ x ∷ rest
no_digit x n rest lt other same =
    let told : true ≡ false = sym (begins_decimal n lt) ∙ ap begins_number same ∙ other in
    absurd (cc)

pub heads_differ : (x y : ℕ) (xs ys : List ℕ) → eqb x y ≡ false → x ∷ xs ≢ y ∷ ys
heads_differ x y xs ys differ same = eqb-false x y differ (cc same)

pub no_negative : (digits : List ℕ) → ((m : ℕ) → m < 2 ^ 63 → digits ≢ decimal (suc m)) → (n : ℤ) → FitsSigned w64 n → 45 ∷ digits ≢ signed_decimal n
no_negative digits none (pos n) fits same = no_digit 45 n digits (omega (arith, fits)) refl (sym same)
no_negative digits none (negsuc n) fits same = none n (omega (arith, fits)) (cc)

pub no_positive : (word : List ℕ) → ((digits : List ℕ) → word ≢ 45 ∷ digits) → ((m : ℕ) → m < 2 ^ 63 → word ≢ decimal m) → (n : ℤ) → FitsSigned w64 n → word ≢ signed_decimal n
no_positive word plain none (pos n) fits same = none n (omega (arith, fits)) same
no_positive word plain none (negsuc n) fits same = plain (decimal (suc n)) same

-- ---- values

-- no number begins with a quote
pub no_digit_quote : (n : ℤ) (rest : List ℕ) → FitsSigned w64 n → 34 ∷ rest ≢ signed_decimal n
no_digit_quote (pos n) rest fits same = no_digit 34 n rest (omega (arith, fits)) refl (sym same)
no_digit_quote (negsuc n) rest fits same = heads_differ 34 45 rest (decimal (suc n)) refl same

pub no_value : (word : List ℕ) → ((b : Bool) → word ≢ value_text (value.Bool b)) → ((rest : List ℕ) → word ≢ 34 ∷ rest) → ((n : ℤ) → FitsSigned w64 n → word ≢ signed_decimal n) → ¬ IsSpelled a_value word
no_value word no_bool no_text no_int spelled = at spelled.0 spelled.1 spelled.2
  where
    at : (v : Value) → IsValue v → word ≡ value_text v → ⊥
    at (value.Int n) fits same = no_int n fits same
    at (value.Bool b) fits same = no_bool b same
    at (value.Text text) fits same = no_text (flat_map quoted_byte text ++ 34 ∷ []) same

pub no_quoted_value : (word quoted : List ℕ) → word ≡ 34 ∷ quoted → ((text : List ℕ) → IsText text → quoted ≢ flat_map quoted_byte text ++ 34 ∷ []) → ¬ IsSpelled a_value word
no_quoted_value word quoted is none spelled = at spelled.0 spelled.1 (sym is ∙ spelled.2)
  where
    at : (v : Value) → IsValue v → 34 ∷ quoted ≡ value_text v → ⊥
    at (value.Int n) fits same = no_digit_quote n quoted fits same
    at (value.Bool true) fits same = heads_differ 34 116 _ _ refl same
    at (value.Bool false) fits same = heads_differ 34 102 _ _ refl same
    at (value.Text text) fits same = none text fits (cc)

pub value_read : (word : List ℕ) (v : Value) → word ≡ value_text v → IsValue v → IsRead a_value word (constant v)
value_read word v is fits = record { text = is; fits = fits; spelled = (v, fits, is) }

-- an integer behind its sign
pub int_negative : (word digits : List ℕ) (r : Option ℤ) → word ≡ 45 ∷ digits → MatchOption r ((m : ℕ) → m < 2 ^ 63 → digits ≢ decimal (suc m)) (λ n. (45 ∷ digits ≡ signed_decimal n) × FitsSigned w64 n) → MatchOption r ((n : ℤ) → FitsSigned w64 n → word ≢ signed_decimal n) (λ n. (word ≡ signed_decimal n) × FitsSigned w64 n)
int_negative word digits None is told = λ n fits same. no_negative digits told n fits (sym is ∙ same)
int_negative word digits (Some n) is told = (is ∙ told.0, told.1)

pub int_positive : (word : List ℕ) (r : Option ℤ) → ((digits : List ℕ) → word ≢ 45 ∷ digits) → MatchOption r ((m : ℕ) → m < 2 ^ 63 → word ≢ decimal m) (λ n. (word ≡ signed_decimal n) × FitsSigned w64 n) → MatchOption r ((n : ℤ) → FitsSigned w64 n → word ≢ signed_decimal n) (λ n. (word ≡ signed_decimal n) × FitsSigned w64 n)
int_positive word None plain told = no_positive word plain told
int_positive word (Some n) plain told = told
