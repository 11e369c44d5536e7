-- What values, names and the fixed words are spelled by are words of a line, and UTF-8.
use Rattle.std.proofs.Common.{◌≡◌, ◌≢◌, ℕ, suc, ◌+◌, ◌/◌, ◌^◌, ◌<◌, ◌≤◌, Bool, true, false, not, cond, eqb, ltb, List, [], ◌∷◌, ◌++◌, refl, ap, subst, ◌∙◌, arith, inl, inr}
use Rattle.std.specs.Prelude.{codes, ◌&&◌, pos, negsuc, nat_le}
use Rattle.std.specs.List.{flat_map, list_all, AllByRecursion}
use Rattle.std.specs.Fmt.{decimal}
use Rattle.std.specs.Str.{IsUtf8, IsAscii}
use Rattle.std.specs.Str.Parse.{AllDigits}
use Rattle.std.proofs.lemmas.Bool.{cases_lt, false≢true}
use Rattle.std.proofs.lemmas.Bool.Decides.{nat_tests}
use Rattle.std.proofs.lemmas.Grind.{flat_map-append}
use Rattle.std.proofs.lemmas.Fmt.{decimal_is_IsNumeral}
use Rattle.std.proofs.lemmas.Str.{IsUtf8-append, IsUtf8-from_ascii, IsUtf8-encode, IsUtf8-nil, encode_ascii}
use Rattle.std.proofs.lemmas.Str.Ascii.{IsAscii-nil, IsAscii-cons}
use Rattle.std.proofs.lemmas.Str.Parse.{tells_digits}
use lib.Utf8.{encode, encodes, scalar, scalars, next}
use Rattle.gdi_kinds.specs.Names.{IsName, continues_name, begins_name}
use Rattle.gdi_kinds.specs.declared.value.Value.{Value}
use Rattle.gdi_kinds.specs.declared.value.Value.TheVariants as value
use Rattle.text_words.specs.Spelling.{quoted_byte, value_text, IsValue}
use Rattle.text_words.specs.Words.{HasNoSpace, IsUnquoted, IsLineWord}
use Rattle.text_words.proofs.ValueLemmas.{quoted_cases}
use Rattle.text_words.proofs.PrintLemmas.{both_true, parts_true}

-- an ASCII byte that is no control byte, no space and no quote
abbrev pub is_plain_byte : ℕ → Bool
is_plain_byte b = nat_le 33 b && nat_le b 126 && not (eqb b 34)

abbrev pub IsPlain : List ℕ → Type 0
IsPlain w = list_all is_plain_byte w ≡ true

-- ---- plain words

plain_parts : (b : ℕ) → is_plain_byte b ≡ true → (b ≢ 32) × (b ≢ 34) × (b < 128)
plain_parts b is = (grind (arith, nat_tests), grind (arith, nat_tests), grind (arith, nat_tests))

no_space_in : (w : List ℕ) → IsPlain w → HasNoSpace w
no_space_in [] plain = tt
no_space_in (b ∷ w) plain = let parts = parts_true (is_plain_byte b) _ plain in ((plain_parts b parts.0).0, no_space_in w parts.1)

pub plain_has_no_space : (w : List ℕ) → IsPlain w → HasNoSpace w
plain_has_no_space w plain = no_space_in w plain

plain_is_unquoted : (w : List ℕ) → IsPlain w → IsUnquoted w
plain_is_unquoted [] plain = tt
plain_is_unquoted (b ∷ w) plain = ((plain_parts b (parts_true (is_plain_byte b) _ plain).0).1, no_space_in (b ∷ w) plain)

pub plain_is_word : (w : List ℕ) → IsPlain w → IsLineWord w
plain_is_word w plain = inl (plain_is_unquoted w plain)

plain_is_ascii : (w : List ℕ) → IsPlain w → IsAscii w
plain_is_ascii [] plain = IsAscii-nil
plain_is_ascii (b ∷ w) plain = let parts = parts_true (is_plain_byte b) _ plain in IsAscii-cons b w (plain_parts b parts.0).2 (plain_is_ascii w parts.1)

pub plain_is_utf8 : (w : List ℕ) → IsPlain w → IsUtf8 w
plain_is_utf8 w plain = IsUtf8-from_ascii w (plain_is_ascii w plain)

digits_are_plain : (ds : List ℕ) → AllDigits 10 ds → IsPlain ds
digits_are_plain [] all = refl
digits_are_plain (c ∷ cs) all =
    let parts = tells_digits.parts c cs all in
    both_true (is_plain_byte c) _ (grind (arith, nat_tests, parts.0)) (digits_are_plain cs parts.1)

pub number_is_plain : (n : ℕ) → n < 2 ^ 64 → IsPlain (decimal n)
number_is_plain n lt = digits_are_plain (decimal n) (decimal_is_IsNumeral n lt).0.1

begins_plain : (b : ℕ) → begins_name b ≡ true → is_plain_byte b ≡ true
begins_plain b is = grind (arith, nat_tests)

goes_on_plain : (b : ℕ) → continues_name b ≡ true → is_plain_byte b ≡ true
goes_on_plain b is = grind (arith, nat_tests)

rest_is_plain : (bs : List ℕ) → list_all continues_name bs ≡ true → IsPlain bs
rest_is_plain [] all = refl
rest_is_plain (b ∷ bs) all =
    let parts = parts_true (continues_name b) _ all in
    both_true (is_plain_byte b) _ (goes_on_plain b parts.0) (rest_is_plain bs parts.1)

pub name_is_plain : (bs : List ℕ) → IsName bs → IsPlain bs
name_is_plain [] is = absurd (false≢true is)
name_is_plain (b ∷ bs) is =
    let first = parts_true (begins_name b && list_all continues_name bs) _ is in
    let parts = parts_true (begins_name b) _ first.0 in
    both_true (is_plain_byte b) _ (begins_plain b parts.0) (rest_is_plain bs parts.1)

-- ---- quoting keeps UTF-8

high_byte : (b : ℕ) → 128 ≤ b → quoted_byte b ≡ b ∷ []
high_byte b high =
    elim (quoted_cases b) [
      | inl special ↦ elim (special.0) [ inl quote ↦ absurd (omega arith) | inr slash ↦ absurd (omega arith) ]
      | inr plain ↦ plain.2
    ]

all_high : (bs : List ℕ) → AllByRecursion (λ (b : ℕ). 128 ≤ b) bs → flat_map quoted_byte bs ≡ bs
all_high [] high = refl
all_high (b ∷ bs) high = ap (λ (q : List ℕ). q ++ flat_map quoted_byte bs) (high_byte b high.0) ∙ ap (λ (q : List ℕ). b ∷ q) (all_high bs high.1)

high_bytes : (c : ℕ) → 128 ≤ c → AllByRecursion (λ (b : ℕ). 128 ≤ b) (encode c)
unfolding encode
high_bytes c high =
    let wide : ltb c 128 ≡ false = grind (arith, nat_tests) in
    rw wide (two (ltb c 2048) (ltb c 65536))
  where
    two : (x y : Bool) → AllByRecursion (λ (b : ℕ). 128 ≤ b) (cond x ((192 + c / 64) ∷ next c ∷ []) (cond y ((224 + c / 4096) ∷ next (c / 64) ∷ next c ∷ []) ((240 + c / 262144) ∷ next (c / 4096) ∷ next (c / 64) ∷ next c ∷ [])))
    two true y = (omega arith, (omega arith, tt))
    two false true = (omega arith, (omega arith, (omega arith, tt)))
    two false false = (omega arith, (omega arith, (omega arith, (omega arith, tt))))

quoted_char : (c : ℕ) → scalar c ≡ true → IsUtf8 (flat_map quoted_byte (encode c))
quoted_char c fits =
    elim (cases_lt c 128) [
      | inl low ↦ rw (encode_ascii c low) (IsUtf8-append (quoted_byte c) [] (one low) IsUtf8-nil)
      | inr high ↦ rw (all_high (encode c) (high_bytes c high)) (IsUtf8-encode c fits)
    ]
  where
    one : c < 128 → IsUtf8 (quoted_byte c)
    one low = elim (quoted_cases c) [
      | inl special ↦ rw (special.1) (IsUtf8-from_ascii (92 ∷ c ∷ []) (IsAscii-cons 92 (c ∷ []) (omega arith) (IsAscii-cons c [] low IsAscii-nil)))
      | inr plain ↦ rw (plain.2) (IsUtf8-from_ascii (c ∷ []) (IsAscii-cons c [] low IsAscii-nil))
    ]

quoted_chars : (cs : List ℕ) → scalars cs ≡ true → IsUtf8 (flat_map quoted_byte (encodes cs))
quoted_chars [] fit = IsUtf8-nil
quoted_chars (c ∷ cs) fit =
    let parts = parts_true (scalar c) _ fit in
    rw (flat_map-append quoted_byte (encode c) (encodes cs)) (IsUtf8-append (flat_map quoted_byte (encode c)) (flat_map quoted_byte (encodes cs)) (quoted_char c parts.0) (quoted_chars cs parts.1))

pub quoted_is_utf8 : (bytes : List ℕ) → IsUtf8 bytes → IsUtf8 (flat_map quoted_byte bytes)
quoted_is_utf8 bytes is = subst (λ (bs : List ℕ). IsUtf8 (flat_map quoted_byte bs)) is.1.1 (quoted_chars is.0 is.1.0)

-- ---- values

pub byte_is_utf8 : (b : ℕ) → b < 128 → IsUtf8 (b ∷ [])
byte_is_utf8 b low = IsUtf8-from_ascii (b ∷ []) (IsAscii-cons b [] low IsAscii-nil)

pub value_is_word : (v : Value) → IsValue v → IsLineWord (value_text v)
value_is_word (value.Int (pos n)) fits = plain_is_word (decimal n) (number_is_plain n (omega (arith, fits)))
value_is_word (value.Int (negsuc n)) fits = plain_is_word (45 ∷ decimal (suc n)) (both_true (is_plain_byte 45) _ refl (number_is_plain (suc n) (omega (arith, fits))))
value_is_word (value.Bool true) fits = plain_is_word (codes "true") refl
value_is_word (value.Bool false) fits = plain_is_word (codes "false") refl
value_is_word (value.Text bytes) fits = inr (bytes, refl)

pub value_is_utf8 : (v : Value) → IsValue v → IsUtf8 (value_text v)
value_is_utf8 (value.Int (pos n)) fits = plain_is_utf8 (decimal n) (number_is_plain n (omega (arith, fits)))
value_is_utf8 (value.Int (negsuc n)) fits = plain_is_utf8 (45 ∷ decimal (suc n)) (both_true (is_plain_byte 45) _ refl (number_is_plain (suc n) (omega (arith, fits))))
value_is_utf8 (value.Bool true) fits = plain_is_utf8 (codes "true") refl
value_is_utf8 (value.Bool false) fits = plain_is_utf8 (codes "false") refl
value_is_utf8 (value.Text bytes) fits = IsUtf8-append (34 ∷ flat_map quoted_byte bytes) (34 ∷ []) (IsUtf8-append (34 ∷ []) (flat_map quoted_byte bytes) (byte_is_utf8 34 (omega arith)) (quoted_is_utf8 bytes fits.0)) (byte_is_utf8 34 (omega arith))
