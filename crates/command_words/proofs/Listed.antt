-- What is held of an option, or of the names, as a list.
use Rattle.std.proofs.Common.{◌≡◌, ◌≤◌, ℕ, List, [], ◌∷◌, length, map, Option, Some, None, option_map, option_and_then, slice_get, refl, sym, ap, ◌∙◌, arith}
use Rattle.std.specs.Prelude.{find, unwrap_or}
use Rattle.std.specs.Option.{option_to_list}
use Rattle.std.specs.Borrow.{Bor}
use Rattle.std.specs.Str.{bytes_eq}
use Rattle.clap.specs.Walk.{Row, all_of, first_of, rows_of}
use Rattle.clap.specs.Matches.{first_value, matched_of, raw_values}
use Rattle.clap.specs.declared.parser.matches.Found.{Found}
use Rattle.clap.proofs.WalkLemmas.{first_value-rows, raw_values-rows}
use Rattle.command_words.specs.Items.{Text}
use Rattle.command_words.specs.Matched.{some_of}

first_held : (id : Text) (rows : List Row) → first_of id rows ≡ option_and_then (λ ts. slice_get ts 0) (all_of id rows)
first_held id rows = go (find (λ r. bytes_eq r.id id) rows)
  where
    go : (o : Option Row) → option_and_then (λ r. slice_get r.values 0) o ≡ option_and_then (λ ts. slice_get ts 0) (option_map (λ r. r.values) o)
    go None = refl
    go (Some r) = refl

one_value : (ts : List Text) → length ts ≤ 1 → ts ≡ option_to_list (option_and_then (λ us. slice_get us 0) (some_of ts))
one_value [] le = refl
one_value (t ∷ []) le = refl
one_value (t ∷ u ∷ ts) le = absurd (omega arith)

pub value_listed : (f : Found) (id : Text) (ts : List Text) (o : Option (Bor Text)) → option_map (λ s. s.now) o ≡ first_value f id → all_of id (rows_of f) ≡ some_of ts → length ts ≤ 1
    → ts ≡ option_to_list (option_map (λ s. s.now) o)
value_listed f id ts o is held few =
    one_value ts few ∙ ap option_to_list (ap (option_and_then (λ us. slice_get us 0)) (sym held) ∙ sym (first_held id (rows_of f)) ∙ sym (first_value-rows f id) ∙ sym is)

same_value : {X : Type 0} (x y : X) → Some x ≡ Some y → x ≡ y
same_value x y e = ap (λ o. unwrap_or o x) e

none_listed : (ts : List Text) → some_of ts ≡ None → ts ≡ []
none_listed [] e = refl
none_listed (t ∷ ts) e = absurd cc

raw_of : (ts us : List Text) → Some us ≡ some_of ts → ts ≡ us
raw_of [] us e = absurd cc
raw_of (t ∷ ts) us e = sym (same_value us (t ∷ ts) e)

pub names_listed : (f : Found) (id : Text) (ts : List Text) (o : Option (Bor (List (Bor Text)))) (names : Bor (List (Bor Text))) → option_map (λ s. map (λ v. v.now) s.now) o ≡ option_map raw_values (matched_of f id)
    → all_of id (rows_of f) ≡ some_of ts → o ≡ Some names → ts ≡ map (λ v. v.now) names.now
names_listed f id ts o names is held some = raw_of ts (map (λ v. v.now) names.now) (ap (option_map (λ s. map (λ v. v.now) s.now)) (sym some) ∙ is ∙ raw_values-rows f id ∙ held)

pub no_names_listed : (f : Found) (id : Text) (ts : List Text) (o : Option (Bor (List (Bor Text)))) → option_map (λ s. map (λ v. v.now) s.now) o ≡ option_map raw_values (matched_of f id)
    → all_of id (rows_of f) ≡ some_of ts → o ≡ None → ts ≡ []
no_names_listed f id ts o is held none = none_listed ts (sym held ∙ sym (raw_values-rows f id) ∙ sym is ∙ ap (option_map (λ s. map (λ v. v.now) s.now)) none)
