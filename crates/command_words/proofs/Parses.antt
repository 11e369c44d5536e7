-- What the parser's own account of a parse says of items.
use Rattle.std.proofs.Common.{◌≡◌, ℕ, ◌≤◌, Bool, true, false, not, List, [], ◌∷◌, ◌++◌, map, length, fold, Option, Some, None, if◌then◌else◌, inl, inr, refl, sym, ap, subst, ◌∙◌, codes, arith}
use Rattle.std.specs.Prelude.{◌⊎◌, ◌&&◌, ◌||◌}
use Rattle.std.specs.List.{list_any}
use Rattle.clap.specs.Walk.{Row, Rule, Text, Held, idle, walk, rows_after, nothing_held, has_row, with_default, finished, settled, settled_rows, is_empty}
use Rattle.clap.specs.Simple.{App, new_shape, built, is_simple, matches_of}
use Rattle.clap.specs.Takes.{is_given}
use Rattle.clap.specs.Kinds.{Kinds, or_else}
use Rattle.clap.specs.Faults.{fault_of, built_fault, level_fault, defaults_fault, default_fault, check_fault, walk_fault, settle_fault}
use Rattle.clap.proofs.FaultLemmas.{leaf_fault}
use Rattle.command_words.specs.Items.{Item, is_among, has_short, Spells}
use Rattle.command_words.specs.Parsed.{new_app}
use Rattle.command_words.proofs.Rules.{names_id, rules, option_rule, names_rule, are_filled}
use Rattle.command_words.proofs.Settling.{texts_under, some_of, Once, Settled}
use Rattle.command_words.proofs.Rows.{held}
use Rattle.command_words.proofs.Standing.{EachOnce}
use Rattle.command_words.proofs.Turns.{shape, hold, stand, Clean, both_none, none_both}
use Rattle.command_words.proofs.Understood.{understood, Reads, Mode, free, end_of}
use Rattle.command_words.proofs.Taken.{IsOptionName, taken}

abbrev as_built : List Rule → App
as_built rs = record { top = record (shape (codes "gdi") []) { rules = rs }; subs = [] }

built_is : (options : List Text) → built (new_app options) ≡ as_built (rules options)
built_is options = ap as_built (are_filled options)

or_true : (b : Bool) → (b || true) ≡ true
or_true true = refl
or_true false = refl

-- ---- no argument has a default, and none is required

defaults_none : (rows : List Row) (options : List Text) → defaults_fault rows (rules options) ≡ []
unfolding defaults_fault
defaults_none rows [] = rw (or_true (has_row names_id rows)) refl
defaults_none rows (option ∷ options) = rw (or_true (has_row option rows)) (go (has_row option rows) (defaults_none rows options))
  where
    go : (b : Bool) → defaults_fault rows (rules options) ≡ [] → defaults_fault (if b then rows else rows) (rules options) ≡ []
    go true e = e
    go false e = e

if_same : {A : Type 0} (b : Bool) (x : A) → (if b then x else x) ≡ x
if_same true x = refl
if_same false x = refl

pub finished_is : (rows : List Row) (options : List Text) → fold with_default rows (rules options) ≡ rows
finished_is rows [] = if_same (has_row names_id rows) rows
finished_is rows (option ∷ options) = ap (λ rs. fold with_default rs (rules options)) (if_same (has_row option rows) rows) ∙ finished_is rows options

none_required : (rows : List Row) (options : List Text) → list_any (λ a. a.required && not (is_given a.id rows)) (rules options) ≡ false
none_required rows [] = refl
none_required rows (option ∷ options) = none_required rows options

module _ (options : List Text) (no_names : is_among options names_id ≡ false) where
  abbrev command : Text
  command = codes "gdi"

  abbrev pub IsTaken : List Text → Type 0
  IsTaken words = Clean command options (stand command options (hold command options [] None) idle false) words

  abbrev level : List Text → Kinds
  level words = level_fault (shape command options) [] nothing_held words false []

  fault_is : (words : List Text) → fault_of (new_app options) words ≡ level words
  fault_is words = ap (λ a. built_fault a nothing_held words) (built_is options) ∙ leaf_fault (as_built (rules options)) nothing_held words refl

  pub taken_of : (words : List Text) → fault_of (new_app options) words ≡ [] → IsTaken words
  taken_of words none =
      let parts = both_none _ _ (sym (fault_is words) ∙ none) in
      (parts.0, (both_none _ _ parts.1).0)

  pub fault_none : (words : List Text) → IsTaken words → fault_of (new_app options) words ≡ []
  fault_none words clean =
      let end = end_of command options no_names (stand command options (hold command options [] None) idle false) words in
      let rows = settled_rows (rules options) end.pending end.rows in
      let checked : check_fault (shape command options) (finished (rules options) end) false ≡ [] = rw (none_required (finished (rules options) end) options) refl in
      fault_is words ∙ none_both _ _ clean.0 (none_both _ _ clean.1 (none_both _ _ (defaults_none rows options) checked))

  -- items that spell the words, each option once at the most, and what the parse holds under each id
  pub record IsRead (words : List Text) (rows : List Row) : Type 0 where
    pub items : List Item
    pub spelled : Spells options words items
    pub once : Once options no_names items
    pub holds : (id : Text) → held id rows ≡ some_of (texts_under id items)

  rows_are : (words : List Text) → matches_of (new_app options) words
      ≡ (let end = end_of command options no_names (stand command options (hold command options [] None) idle false) words in settled_rows (rules options) end.pending end.rows)
  rows_are words =
      let end = end_of command options no_names (stand command options (hold command options [] None) idle false) words in
      ap (λ a. rows_after a.top.rules [] words) (built_is options) ∙ finished_is (settled_rows (rules options) end.pending end.rows) options

  pub is_read : (words : List Text) → has_short words ≡ false → IsTaken words → IsRead words (matches_of (new_app options) words)
  is_read words long clean =
      let nothing : Settled options no_names [] [] = record { holds = λ id. refl; once = λ option there. omega arith } in
      let reads = understood command options no_names words long [] [] _ (free {pending = None} {waiting = idle} (inl (refl, nothing)) tt) clean in
      record {
        items = reads.items;
        spelled = reads.spelled;
        once = reads.held.once;
        holds = λ id. ap (held id) (rows_are words) ∙ reads.held.holds id;
      }

  pub is_taken : ((given : Text) → is_among options given ≡ true → IsOptionName given) → (words : List Text) (items : List Item) → Spells options words items → Once options no_names items
      → IsTaken words
  is_taken are_names words items spelled once =
      let nothing : Settled options no_names [] [] = record { holds = λ id. refl; once = λ option there. omega arith } in
      taken command options no_names are_names spelled [] [] None idle tt (inl (refl, nothing)) once

pub dummy : Unit {0}
dummy = tt
