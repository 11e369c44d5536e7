-- What a parse keeps of items: under the option's own name its value, and the names.
use Rattle.std.specs.Prelude.{◌≡◌, ◌≤◌, true, List, length, Option, Some, None, [], ◌∷◌, codes}
use Rattle.clap.specs.Walk.{all_of, rows_of}
use Rattle.clap.specs.Matches.{found_of}
use Rattle.clap.specs.declared.parser.matches.ArgMatches.{ArgMatches}
use Rattle.command_words.specs.Items.{Text, Item, is_among, Spells, values_of, names_of}

abbrev pub some_of : List Text → Option (List Text)
some_of [] = None
some_of (text ∷ texts) = Some (text ∷ texts)

-- the matches hold what these items say
pub record HoldsItems (options : List Text) (items : List Item) (matches : ArgMatches) : Type 0 where
  pub values : (option : Text) → is_among options option ≡ true → all_of option (rows_of (found_of matches)) ≡ some_of (values_of option items)
  pub names : all_of (codes "names") (rows_of (found_of matches)) ≡ some_of (names_of items)

-- items that spell the words, each option once at the most
pub record Understands (options : List Text) (words : List Text) (items : List Item) : Type 0 where
  pub spelled : Spells options words items
  pub once : (option : Text) → is_among options option ≡ true → length (values_of option items) ≤ 1

abbrev pub IsMatched : List Text → List Text → ArgMatches → Type 0
IsMatched options words matches = (items : List Item) × Understands options words items × HoldsItems options items matches

abbrev pub NobodyUnderstands : List Text → List Text → Type 0
NobodyUnderstands options words = (items : List Item) → ¬ Understands options words items
