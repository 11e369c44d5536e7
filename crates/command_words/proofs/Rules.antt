-- The command that a parse is given: options that take one value each, and names.
use Rattle.std.proofs.Common.{◌≡◌, ℕ, Bool, true, false, not, List, [], ◌∷◌, ◌++◌, map, Option, Some, None, if◌then◌else◌, refl, sym, ap, ◌∙◌, codes}
use Rattle.std.specs.Prelude.{◌||◌}
use Rattle.std.specs.Str.{bytes_eq}
use Rattle.clap.specs.Walk.{Rule, Text, arg_by_id, arg_by_index, arg_by_long}
use Rattle.clap.specs.Simple.{Shape, filled_from, new_rule, new_shape}
use Rattle.clap.specs.declared.builder.action.ArgAction.TheVariants.{Set, Append}
use Rattle.clap.specs.declared.builder.range.ValueRange.{ValueRange}
use Rattle.clap.specs.declared.builder.value_parser.ValueParser.TheVariants as vp
use Rattle.command_words.specs.Items.{is_among}
use Rattle.command_words.specs.Parsed.{new_option, new_names}
use Rattle.command_words.proofs.Rows.{same_bytes, bytes_same}

abbrev pub names_id : Text
names_id = codes "names"

abbrev pub one_value : Option ValueRange
one_value = Some (record { start_inclusive = 1; end_inclusive = 1 })

-- as they are built
abbrev pub option_rule : Text → Rule
option_rule name = record (new_rule name) { long = Some name; action = Some Set; range = one_value; parser = Some vp.String }

abbrev pub names_rule : Rule
names_rule = record (new_rule names_id) { action = Some Append; index = Some 1; range = one_value; parser = Some vp.String }

abbrev pub rules : List Text → List Rule
rules options = map option_rule options ++ names_rule ∷ []

pub are_filled : (options : List Text) → filled_from 1 (map new_option options ++ new_names ∷ []) ≡ rules options
are_filled [] = refl
are_filled (option ∷ options) = ap (λ rs. option_rule option ∷ rs) (are_filled options)

-- ---- which argument is found

long_first : (name option : Text) (options : List Text) (b : Bool) → bytes_eq option name ≡ b
    → arg_by_long (rules options) name ≡ (if is_among options name then Some (option_rule name) else None)
    → arg_by_long (rules (option ∷ options)) name ≡ (if is_among (option ∷ options) name then Some (option_rule name) else None)
long_first name option options true same h = rw same (ap (λ o. Some (option_rule o)) (bytes_same option name same))
long_first name option options false differs h = rw differs h

pub by_long : (options : List Text) (name : Text) → arg_by_long (rules options) name ≡ (if is_among options name then Some (option_rule name) else None)
by_long [] name = refl
by_long (option ∷ options) name = long_first name option options (bytes_eq option name) refl (by_long options name)

id_first : (id option : Text) (options : List Text) (b : Bool) → bytes_eq option id ≡ b → is_among (option ∷ options) id ≡ true
    → (is_among options id ≡ true → arg_by_id (rules options) id ≡ Some (option_rule id)) → arg_by_id (rules (option ∷ options)) id ≡ Some (option_rule id)
id_first id option options true same there h = rw same (ap (λ o. Some (option_rule o)) (bytes_same option id same))
id_first id option options false differs there h = rw differs (h (ap (λ b. b || is_among options id) (sym differs) ∙ there))

pub option_by_id : (options : List Text) (id : Text) → is_among options id ≡ true → arg_by_id (rules options) id ≡ Some (option_rule id)
option_by_id [] id there = absurd cc
option_by_id (option ∷ options) id there = id_first id option options (bytes_eq option id) refl there (option_by_id options id)

names_past : (option : Text) (options : List Text) (b : Bool) → bytes_eq option names_id ≡ b → is_among (option ∷ options) names_id ≡ false
    → (is_among options names_id ≡ false → arg_by_id (rules options) names_id ≡ Some names_rule) → arg_by_id (rules (option ∷ options)) names_id ≡ Some names_rule
names_past option options true same apart h = absurd (let no : true ≡ false = ap (λ b. b || is_among options names_id) (sym same) ∙ apart in cc)
names_past option options false differs apart h = rw differs (h (ap (λ b. b || is_among options names_id) (sym differs) ∙ apart))

pub names_by_id : (options : List Text) → is_among options names_id ≡ false → arg_by_id (rules options) names_id ≡ Some names_rule
names_by_id [] apart = refl
names_by_id (option ∷ options) apart = names_past option options (bytes_eq option names_id) refl apart (names_by_id options)

pub names_by_index : (options : List Text) → arg_by_index (rules options) 1 ≡ Some names_rule
names_by_index [] = refl
names_by_index (option ∷ options) = names_by_index options
