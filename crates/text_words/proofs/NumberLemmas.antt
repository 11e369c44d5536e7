-- How a number begins, and what parsing says of it.
use Rattle.std.proofs.Common.{◌≡◌, ◌≢◌, ℕ, zero, suc, ◌^◌, ◌<◌, ◌≤◌, true, List, [], ◌∷◌, length, get_or, Option, Some, None, Result, Ok, Err, MatchOption, MatchResult, Bor, sym, ap, subst, ◌∙◌, arith}
use Rattle.std.specs.Str.{IsUtf8}
use Rattle.std.specs.Str.Parse.{AllDigits, digits_value, ParsesUnsigned}
use Rattle.std.specs.Fmt.{decimal}
use Rattle.std.specs.Result.{result_ok}
use Rattle.std.specs.Option.{option_map_or}
use Rattle.std.proofs.lemmas.Bool.Decides.{nat_tests}
use Rattle.std.proofs.lemmas.Fmt.{decimal_is_IsNumeral, decimal_digit, parse-decimal, first_decimal, decimal-digits_value, IsAscii-decimal}
use Rattle.std.proofs.lemmas.Str.{IsUtf8-from_ascii}
use Rattle.std.proofs.lemmas.Str.Parse.{IsNumeralModel, numerals_by_value, tells_digits, parse_plain, digit_at}
use Rattle.text_words.specs.Numbers.{begins_number}

own : IsNumeralModel (AllDigits 10) (digits_value 10)
own = numerals_by_value (AllDigits 10) tells_digits

begins_by : (digits : List ℕ) → 0 < length digits → 48 < get_or digits 0 0 → get_or digits 0 0 ≤ 57 → begins_number digits ≡ true
begins_by [] some low high = absurd (omega arith)
begins_by (digit ∷ digits) some low high = grind (arith, nat_tests)

pub begins_decimal : (n : ℕ) → n < 2 ^ 64 → begins_number (decimal n) ≡ true
begins_decimal zero lt = ap begins_number (decimal_digit 0 (omega arith))
begins_decimal (suc n) lt =
    let numeral = (decimal_is_IsNumeral (suc n) lt).0 in
    begins_by (decimal (suc n)) numeral.0 (first_decimal (suc n) (omega arith) lt) (digit_at (decimal (suc n)) 0 numeral.1 numeral.0).1

first_plain : (digits : List ℕ) → begins_number digits ≡ true → get_or digits 0 0 ≢ 43
first_plain [] begins e = absurd cc
first_plain (digit ∷ digits) begins e = grind (arith, nat_tests)

zero_alone : (digits : List ℕ) → begins_number digits ≡ true → get_or digits 0 0 ≡ 48 → length digits ≡ 1
zero_alone [] begins e = absurd cc
zero_alone (digit ∷ digits) begins e = grind (arith, nat_tests)

pub is_decimal : {E : Type 0} (digits : List ℕ) (r : Result ℕ E) → begins_number digits ≡ true → ParsesUnsigned 64 10 digits r → MatchOption (result_ok r) ((n : ℕ) → n < 2 ^ 64 → digits ≢ decimal n) (λ n. digits ≡ decimal n)
is_decimal {E} digits (Ok m) begins parses =
    let told : (AllDigits 10 digits × (0 < length digits) × (digits_value 10 digits < 2 ^ 64)) × (m ≡ digits_value 10 digits) = parse_plain own {E = E} 64 digits (Ok m) parses (first_plain digits begins) in
    sym (decimal-digits_value own digits told.0.0 told.0.1 (zero_alone digits begins) told.0.2) ∙ ap decimal (sym told.1)
is_decimal {E} digits (Err e) begins parses = λ n lt spelled. let ok = parse-decimal {E = E} 64 n digits (Err e) lt lt spelled parses in cc

-- the text that bytes are, where they are one
pub text_is : {E : Type 0} (bytes : List ℕ) (r : Result (Bor (List ℕ)) E) (text : Bor (List ℕ)) (Q : E → Type 0) → result_ok r ≡ Some text → MatchResult r (λ s. (s.now ≡ bytes) × IsUtf8 bytes) Q → bytes ≡ text.now
text_is bytes (Ok s) text Q is told = sym told.0 ∙ ap (λ (o : Option (Bor (List ℕ))). option_map_or (λ t. t.now) o []) is
text_is bytes (Err e) text Q is told = absurd cc

pub no_decimal : {E : Type 0} (bytes : List ℕ) (r : Result (Bor (List ℕ)) E) (P : Bor (List ℕ) → Type 0) (Q : E → Type 0) → result_ok r ≡ None → MatchResult r P (λ e. (¬ IsUtf8 bytes) × Q e) → (n : ℕ) → n < 2 ^ 64 → bytes ≢ decimal n
no_decimal bytes (Ok s) P Q is told n lt spelled = absurd cc
no_decimal bytes (Err e) P Q is told n lt spelled = told.0 (subst IsUtf8 (sym spelled) (IsUtf8-from_ascii (decimal n) (IsAscii-decimal n lt)))
