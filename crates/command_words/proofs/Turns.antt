-- What a parse makes of one word.
use Rattle.std.proofs.Common.{◌≡◌, ℕ, zero, suc, ◌+◌, Bool, true, false, not, List, [], ◌∷◌, ◌++◌, length, fold, Option, Some, None, if◌then◌else◌, inl, inr, refl, sym, ap, subst, ◌∙◌, arith}
use Rattle.std.specs.Prelude.{◌⊎◌, ◌&&◌, ◌||◌, ◌==◌}
use Rattle.std.specs.List.{before_first, list_any}
use Rattle.std.specs.Option.{option_map_or}
use Rattle.std.specs.Str.{bytes_eq}
use Rattle.clap.specs.Lexer.{long_of, short_of, name_and_value, strip_byte}
use Rattle.clap.specs.Walk.{Row, Rule, Text, Held, Walk, Waiting, idle, option, positional, Step, walked, settled_rows, used, arg_by_id, arg_by_index, arg_by_long, is_pending, takes_several, to_positional, word_met}
use Rattle.clap.specs.Simple.{Shape, new_shape}
use Rattle.clap.specs.Faults.{walk_fault, turn_fault, settle_fault, use_fault, stray_fault, word_fault, positional_fault}
use Rattle.clap.specs.Kinds.{Kinds, or_else}
use Rattle.clap.specs.declared.error.kind.ErrorKind.TheVariants as kind
use Rattle.command_words.specs.Items.{Item, Given, Named, is_among, begins_with_dash}
use Rattle.command_words.proofs.Rows.{same_bytes}
use Rattle.command_words.proofs.Rules.{option_rule, names_rule, names_id, rules, by_long, option_by_id, names_by_id, names_by_index}

pub both_none : (a b : Kinds) → or_else a b ≡ [] → (a ≡ []) × (b ≡ [])
both_none [] b none = (refl, none)
both_none (k ∷ ks) b none = absurd cc

pub none_both : (a b : Kinds) → a ≡ [] → b ≡ [] → or_else a b ≡ []
none_both [] b e f = f
none_both (k ∷ ks) b e f = absurd cc

and_false : (b : Bool) → (b && false) ≡ false
and_false true = refl
and_false false = refl

-- nothing waits for a value
abbrev pub IsFree : Waiting → Type 0
IsFree idle = Unit {0}
IsFree positional = Unit {0}
IsFree (option id) = ⊥

module _ (name : Text) (options : List Text) where
  abbrev pub shape : Shape
  shape = record (new_shape name) { rules = rules options; no_binary_name = true; disable_help_flag = true; disable_help_subcommand = true; is_built = true }

  abbrev pub hold : List Row → Option (Text × List Text) → Held
  hold rows pending = record { rows = rows; pending = pending; skip = 0 }

  abbrev pub stand : Held → Waiting → Bool → Walk
  stand held waiting is_trailing = record { held = held; waiting = waiting; position = 1; is_trailing = is_trailing; stopped = None }

  abbrev pub settle : List Row → Option (Text × List Text) → List Row
  settle rows pending = settled_rows (rules options) pending rows

  abbrev pub refusal : List Row → Option (Text × List Text) → Kinds
  refusal rows pending = settle_fault (rules options) false (hold rows pending)

  -- the parse takes the words, and settles what it then holds
  abbrev pub Clean : Walk → List Text → Type 0
  Clean w words = (walk_fault shape [] w words ≡ []) × (settle_fault (rules options) false (fold (walked (rules options) []) w words).held ≡ [])

  pub first_clean : (w : Walk) (word : Text) (words : List Text) → Clean w (word ∷ words) → (turn_fault shape [] w word ≡ []) × Clean (walked (rules options) [] w word) words
  unfolding walk_fault
  first_clean w word words clean = let both = both_none (turn_fault shape [] w word) _ clean.0 in (both.0, (both.1, clean.1))

  pub clean_first : (w : Walk) (word : Text) (words : List Text) → turn_fault shape [] w word ≡ [] → Clean (walked (rules options) [] w word) words → Clean w (word ∷ words)
  unfolding walk_fault
  clean_first w word words none clean = (none_both (turn_fault shape [] w word) _ none clean.0, clean.1)

  -- ---- `--`

  abbrev pub dashes : Text
  dashes = 45 ∷ 45 ∷ []

  pub dashes_pass : (rows : List Row) (pending : Option (Text × List Text)) (waiting : Waiting) → turn_fault shape [] (stand (hold rows pending) waiting false) dashes ≡ []
  dashes_pass rows pending idle = refl
  dashes_pass rows pending positional = refl
  dashes_pass rows pending (option id) = refl

  pub dashes_walk : (rows : List Row) (pending : Option (Text × List Text)) (waiting : Waiting)
      → walked (rules options) [] (stand (hold rows pending) waiting false) dashes ≡ stand (hold rows pending) waiting true
  unfolding walked
  dashes_walk rows pending idle = refl
  dashes_walk rows pending positional = refl
  dashes_walk rows pending (option id) = refl

  -- ---- names

  abbrev pub named : List Row → Option (Text × List Text) → Text → Bool → Walk
  named rows pending word is_trailing = stand (hold (settle rows pending) (Some (names_id, word ∷ []))) positional is_trailing

  positional_refuses : (rows : List Row) (pending : Option (Text × List Text)) → positional_fault (rules options) false names_rule (hold rows pending) ≡ refusal rows pending
  positional_refuses rows pending = rw (and_false (is_pending names_rule pending)) refl

  to_names : (rows : List Row) (pending : Option (Text × List Text)) → turn_fault shape [] (stand (hold rows pending) idle true) [] ≡ refusal rows pending
  to_names rows pending = ap (λ o. option_map_or (λ a. positional_fault (rules options) false a (hold rows pending)) o (stray_fault shape)) (names_by_index options) ∙ positional_refuses rows pending

  -- behind `--`
  pub rest_refuses : (rows : List Row) (pending : Option (Text × List Text)) (waiting : Waiting) (word : Text)
      → turn_fault shape [] (stand (hold rows pending) waiting true) word ≡ refusal rows pending
  rest_refuses rows pending waiting word =
      ap (λ o. option_map_or (λ a. positional_fault (rules options) false a (hold rows pending)) o (stray_fault shape)) (names_by_index options) ∙ positional_refuses rows pending

  to_named : (rows : List Row) (pending : Option (Text × List Text)) (waiting : Waiting) (word : Text) (is_trailing : Bool)
      → to_positional (rules options) (arg_by_index (rules options) 1) word (stand (hold rows pending) waiting is_trailing) (hold rows pending) ≡ named rows pending word (is_trailing || false)
  to_named rows pending waiting word is_trailing =
      ap (λ o. to_positional (rules options) o word (stand (hold rows pending) waiting is_trailing) (hold rows pending)) (names_by_index options)
      ∙ rw (and_false (is_pending names_rule pending)) refl

  pub rest_walk : (rows : List Row) (pending : Option (Text × List Text)) (waiting : Waiting) (word : Text)
      → walked (rules options) [] (stand (hold rows pending) waiting true) word ≡ named rows pending word true
  unfolding walked
  rest_walk rows pending waiting word = to_named rows pending waiting word true

  not_dashes : (word : Text) → begins_with_dash word ≡ false → bytes_eq word dashes ≡ false
  not_dashes [] plain = refl
  not_dashes (b ∷ bs) plain = rw plain refl

  no_long : (word : Text) → begins_with_dash word ≡ false → long_of word ≡ None
  no_long [] plain = refl
  no_long (b ∷ bs) plain = rw plain refl

  no_short : (word : Text) → begins_with_dash word ≡ false → short_of word ≡ None
  no_short [] plain = refl
  no_short (b ∷ bs) plain = rw plain refl

  pub name_refuses : (rows : List Row) (pending : Option (Text × List Text)) (waiting : Waiting) (word : Text) → IsFree waiting → begins_with_dash word ≡ false
      → turn_fault shape [] (stand (hold rows pending) waiting false) word ≡ refusal rows pending
  name_refuses rows pending idle word free plain = rw (not_dashes word plain, no_long word plain, no_short word plain) (rest_refuses rows pending idle word)
  name_refuses rows pending positional word free plain = rw (not_dashes word plain, no_long word plain, no_short word plain) (rest_refuses rows pending positional word)
  name_refuses rows pending (option id) word free plain = absurd free

  pub name_walk : (rows : List Row) (pending : Option (Text × List Text)) (waiting : Waiting) (word : Text) → IsFree waiting → begins_with_dash word ≡ false
      → walked (rules options) [] (stand (hold rows pending) waiting false) word ≡ named rows pending word false
  unfolding walked
  name_walk rows pending idle word free plain = rw (not_dashes word plain, no_long word plain, no_short word plain) (to_named rows pending idle word false)
  name_walk rows pending positional word free plain = rw (not_dashes word plain, no_long word plain, no_short word plain) (to_named rows pending positional word false)
  name_walk rows pending (option id) word free plain = absurd free

  -- ---- the value behind an option

  pub value_passes : (rows : List Row) (id word : Text) → begins_with_dash word ≡ false → turn_fault shape [] (stand (hold rows (Some (id, []))) (option id) false) word ≡ []
  value_passes rows id word plain = rw (not_dashes word plain, no_long word plain, no_short word plain) refl

  pub value_walk : (rows : List Row) (id word : Text) → is_among options id ≡ true → begins_with_dash word ≡ false
      → walked (rules options) [] (stand (hold rows (Some (id, []))) (option id) false) word ≡ stand (hold rows (Some (id, word ∷ []))) idle false
  unfolding walked
  value_walk rows id word there plain = rw (not_dashes word plain, no_long word plain, no_short word plain, option_by_id options id there, same_bytes id) refl

  -- an option without its value is refused
  pub open_refused : (rows : List Row) (id : Text) → is_among options id ≡ true → refusal rows (Some (id, [])) ≡ [] → ⊥
  open_refused rows id there none =
      let fault : refusal rows (Some (id, [])) ≡ kind.InvalidValue ∷ [] = rw (option_by_id options id there) refl in
      let no : kind.InvalidValue ∷ [] ≡ [] = sym fault ∙ none in cc

  -- ---- options

  abbrev pub IsLong : Text → Text → Option Text → Type 0
  IsLong word given value = (bytes_eq word dashes ≡ false) × (long_of word ≡ Some (given, value))

  unknown_fault : (held : Held) (waiting : Waiting) (word given : Text) (value : Option Text) → IsLong word given value → is_among options given ≡ false
      → word_fault shape [] false waiting word held ≡ kind.UnknownArgument ∷ []
  unknown_fault held waiting word given value long unknown = go waiting
    where
      found : arg_by_long (rules options) given ≡ None
      found = by_long options given ∙ rw unknown refl

      go : (waiting : Waiting) → word_fault shape [] false waiting word held ≡ kind.UnknownArgument ∷ []
      go idle = rw (long.0, long.1, found) refl
      go positional = rw (long.0, long.1, found) refl
      go (option id) = rw (long.0, long.1, found) refl

  pub unknown_refused : (rows : List Row) (pending : Option (Text × List Text)) (waiting : Waiting) (word given : Text) (value : Option Text) → IsLong word given value
      → is_among options given ≡ false → turn_fault shape [] (stand (hold rows pending) waiting false) word ≡ [] → ⊥
  unknown_refused rows pending waiting word given value long unknown none =
      let fault = unknown_fault (hold rows pending) waiting word given value long unknown in
      let first : word_fault shape [] false waiting word (hold rows pending) ≡ [] = (both_none _ _ none).0 in
      let no : kind.UnknownArgument ∷ [] ≡ [] = sym fault ∙ first in cc

  found_option : (given : Text) → is_among options given ≡ true → arg_by_long (rules options) given ≡ Some (option_rule given)
  found_option given there = by_long options given ∙ rw there refl

  -- with its value in the word
  pub joined_refuses : (rows : List Row) (pending : Option (Text × List Text)) (waiting : Waiting) (word given value : Text) → IsLong word given (Some value) → is_among options given ≡ true
      → turn_fault shape [] (stand (hold rows pending) waiting false) word
      ≡ or_else (or_else (refusal rows pending) (use_fault false (option_rule given) (value ∷ []) (settle rows pending))) []
  joined_refuses rows pending idle word given value long there = rw (long.0, long.1, found_option given there) refl
  joined_refuses rows pending positional word given value long there = rw (long.0, long.1, found_option given there) refl
  joined_refuses rows pending (option id) word given value long there = rw (long.0, long.1, found_option given there) refl

  pub joined_walk : (rows : List Row) (pending : Option (Text × List Text)) (waiting : Waiting) (word given value : Text) → IsLong word given (Some value) → is_among options given ≡ true
      → walked (rules options) [] (stand (hold rows pending) waiting false) word
      ≡ stand (hold (used (option_rule given) (value ∷ []) (settle rows pending)) None) idle false
  unfolding walked
  joined_walk rows pending idle word given value long there = rw (long.0, long.1, found_option given there) refl
  joined_walk rows pending positional word given value long there = rw (long.0, long.1, found_option given there) refl
  joined_walk rows pending (option id) word given value long there = rw (long.0, long.1, found_option given there) refl

  -- with its value behind it
  pub apart_refuses : (rows : List Row) (pending : Option (Text × List Text)) (waiting : Waiting) (word given : Text) → IsLong word given None → is_among options given ≡ true
      → turn_fault shape [] (stand (hold rows pending) waiting false) word ≡ or_else (refusal rows pending) []
  apart_refuses rows pending idle word given long there = rw (long.0, long.1, found_option given there) refl
  apart_refuses rows pending positional word given long there = rw (long.0, long.1, found_option given there) refl
  apart_refuses rows pending (option id) word given long there = rw (long.0, long.1, found_option given there) refl

  pub apart_walk : (rows : List Row) (pending : Option (Text × List Text)) (waiting : Waiting) (word given : Text) → IsLong word given None → is_among options given ≡ true
      → walked (rules options) [] (stand (hold rows pending) waiting false) word ≡ stand (hold (settle rows pending) (Some (given, []))) (option given) false
  unfolding walked
  apart_walk rows pending idle word given long there = rw (long.0, long.1, found_option given there) refl
  apart_walk rows pending positional word given long there = rw (long.0, long.1, found_option given there) refl
  apart_walk rows pending (option id) word given long there = rw (long.0, long.1, found_option given there) refl

pub dummy : Unit {0}
dummy = tt
