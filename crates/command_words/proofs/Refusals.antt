-- What is proved of the commands that are asked for: items are understood, or nobody understands the words.
use Rattle.std.proofs.Common.{◌≡◌, ◌≢◌, ℕ, ◌≤◌, Bool, true, false, not, List, [], ◌∷◌, ◌++◌, length, flat_map, Option, Some, None, if◌then◌else◌, inl, inr, refl, sym, ap, subst, ◌∙◌, codes, map, arith}
use Rattle.std.specs.Prelude.{◌⊎◌, ◌&&◌, ◌||◌, ◌==◌}
use Rattle.std.specs.List.{list_any, AllByRecursion}
use Rattle.std.specs.Str.{bytes_eq}
use Rattle.clap.specs.Walk.{all_of, rows_of}
use Rattle.clap.specs.Simple.{App, HasMatchesOf, is_simple, matches_of}
use Rattle.clap.specs.Matches.{found_of}
use Rattle.clap.specs.Values.{kind_of}
use Rattle.clap.specs.Kinds.{HasKind, IsAmong}
use Rattle.clap.specs.Faults.{fault_of, is_simple_and_free}
use Rattle.clap.specs.declared.error.Error.{Error}
use Rattle.clap.specs.declared.error.kind.ErrorKind.{ErrorKind}
use Rattle.clap.specs.declared.error.kind.ErrorKind.TheVariants as kind
use Rattle.clap.specs.declared.parser.matches.ArgMatches.{ArgMatches}
use Rattle.clap.proofs.CutLemmas.{Lacks, list_any-at}
use Rattle.command_words.specs.Commands.{load_options}
use Rattle.command_words.specs.Items.{Text, Item, Given, Named, begins_with_dash, is_short, has_short, is_among, Spells, none, name, apart, joined, rest, value_at, values_of, name_at, names_of}
use Rattle.command_words.specs.Matched.{some_of, HoldsItems, Understands, IsMatched, NobodyUnderstands}
use Rattle.command_words.specs.Parsed.{new_app, refusal_for, OrMemory}
use Rattle.command_words.proofs.Cuts.{cut, Cut}
use Rattle.command_words.proofs.Rows.{bytes_same}
use Rattle.command_words.proofs.Rules.{names_id}
use Rattle.command_words.proofs.Settling.{texts_under, Once}
use Rattle.command_words.proofs.Taken.{IsOptionName}
use Rattle.command_words.proofs.Parses.{IsRead, taken_of, fault_none, is_read, is_taken}

-- ---- no spelled words have a short one

not_short : (word : Text) → begins_with_dash word ≡ false → is_short word ≡ false
not_short [] plain = refl
not_short (b ∷ []) plain = plain
not_short (b ∷ n ∷ bs) plain = rw plain refl

past_word : (word : Text) (words : List Text) (b : Bool) → bytes_eq word (45 ∷ 45 ∷ []) ≡ b → is_short word ≡ false → has_short words ≡ false → has_short (word ∷ words) ≡ false
past_word word words true same long more = rw same refl
past_word word words false differs long more = rw (differs, long) more

pub spelled_long : {options : List Text} {words : List Text} {items : List Item} → Spells options words items → has_short words ≡ false
spelled_long none = refl
spelled_long (name {word} {words} plain spelled) = past_word word words (bytes_eq word (45 ∷ 45 ∷ [])) refl (not_short word plain) (spelled_long spelled)
spelled_long (apart {option} {value} {words} there plain spelled) =
    past_word (45 ∷ 45 ∷ option) (value ∷ words) (bytes_eq (45 ∷ 45 ∷ option) (45 ∷ 45 ∷ [])) refl refl
    (past_word value words (bytes_eq value (45 ∷ 45 ∷ [])) refl (not_short value plain) (spelled_long spelled))
spelled_long (joined {option} {value} {words} there spelled) =
    past_word (45 ∷ 45 ∷ option ++ 61 ∷ value) words (bytes_eq (45 ∷ 45 ∷ option ++ 61 ∷ value) (45 ∷ 45 ∷ [])) refl refl (spelled_long spelled)
spelled_long rest = refl

-- ---- the texts under an option's name are its values, and those under that of names the names

module _ (options : List Text) (no_names : is_among options names_id ≡ false) where
  differs_from_names : (option : Text) (b : Bool) → bytes_eq names_id option ≡ b → is_among options option ≡ true → b ≡ false
  differs_from_names option true same there = let no : true ≡ false = sym there ∙ ap (is_among options) (sym (bytes_same names_id option same)) ∙ no_names in absurd cc
  differs_from_names option false differs there = refl

  pub values_are : (option : Text) (items : List Item) → is_among options option ≡ true → texts_under option items ≡ values_of option items
  values_are option [] there = refl
  values_are option (Given given value ∷ items) there = ap (λ ts. (if bytes_eq given option then value ∷ [] else []) ++ ts) (values_are option items there)
  values_are option (Named word ∷ items) there = rw (differs_from_names option (bytes_eq names_id option) refl there) (values_are option items there)

  names_differ : (given : Text) (b : Bool) → bytes_eq given names_id ≡ b → is_among options given ≡ true → b ≡ false
  names_differ given true same there = let no : true ≡ false = sym there ∙ ap (is_among options) (bytes_same given names_id same) ∙ no_names in absurd cc
  names_differ given false differs there = refl

  all_names : (words : List Text) → texts_under names_id (map Named words) ≡ names_of (map Named words)
  all_names [] = refl
  all_names (word ∷ words) = ap (λ ts. word ∷ ts) (all_names words)

  pub names_are : {words : List Text} {items : List Item} → Spells options words items → texts_under names_id items ≡ names_of items
  names_are none = refl
  names_are (name {word} plain spelled) = ap (λ ts. word ∷ ts) (names_are spelled)
  names_are (apart {option} there plain spelled) = rw (names_differ option (bytes_eq option names_id) refl there) (names_are spelled)
  names_are (joined {option} there spelled) = rw (names_differ option (bytes_eq option names_id) refl there) (names_are spelled)
  names_are (rest {words}) = all_names words

-- ---- options whose command the parser understands

pub record AreOptions (options : List Text) : Type 0 where
  pub no_names : is_among options names_id ≡ false
  pub are_names : (given : Text) → is_among options given ≡ true → IsOptionName given
  pub simple : is_simple (new_app options) ≡ true
  pub free : is_simple_and_free (new_app options) ≡ true

module _ (options : List Text) (are : AreOptions options) where
  pub matched : (words : List Text) (m : ArgMatches) → has_short words ≡ false → HasMatchesOf (new_app options) words m → fault_of (new_app options) words ≡ [] → IsMatched options words m
  matched words m long has none_wrong =
      let read = is_read options are.no_names words long (taken_of options are.no_names words none_wrong) in
      let rows : rows_of (found_of m) ≡ matches_of (new_app options) words = (has are.simple).0 in (
        read.items,
        record {
          spelled = read.spelled;
          once = λ option there. subst (λ ts. length ts ≤ 1) (values_are options are.no_names option read.items there) (read.once option there);
        },
        record {
          values = λ option there. ap (all_of option) rows ∙ read.holds option ∙ ap some_of (values_are options are.no_names option read.items there);
          names = ap (all_of names_id) rows ∙ read.holds names_id ∙ ap some_of (names_are options are.no_names read.spelled);
        },
      )

  understood_none : (words : List Text) (items : List Item) → Understands options words items → fault_of (new_app options) words ≡ []
  understood_none words items h =
      let once : Once options are.no_names items = λ option there. subst (λ ts. length ts ≤ 1) (sym (values_are options are.no_names option items there)) (h.once option there) in
      fault_none options are.no_names words (is_taken options are.no_names are.are_names words items h.spelled once)

  by_kind : (k : ErrorKind) (words : List Text) → NobodyUnderstands options words → OrMemory options words (refusal_for k)
  by_kind kind.OutOfMemory words nobody = tt
  by_kind other words nobody = nobody

  pub refused_words : (words : List Text) (e : Error) → HasKind (fault_of (new_app options) words) e → OrMemory options words (refusal_for (kind_of e))
  refused_words words e (inl memory) = subst (λ k. OrMemory options words (refusal_for k)) (sym memory) tt
  refused_words words e (inr among) = by_kind (kind_of e) words (λ items h. subst (λ kinds. IsAmong (kind_of e) kinds) (understood_none words items h) among)

  pub matched_by : (a : App) → a ≡ new_app options → (words : List Text) (m : ArgMatches) → has_short words ≡ false → HasMatchesOf a words m
      → (is_simple_and_free a ≡ true → fault_of a words ≡ []) → IsMatched options words m
  matched_by a is words m long has none_wrong =
      matched words m long (subst (λ b. HasMatchesOf b words m) is has) (ap (λ b. fault_of b words) (sym is) ∙ none_wrong (ap is_simple_and_free is ∙ are.free))

  pub refused_by : (a : App) → a ≡ new_app options → (words : List Text) (e : Error) → (is_simple_and_free a ≡ true → HasKind (fault_of a words) e) → OrMemory options words (refusal_for (kind_of e))
  refused_by a is words e wrong = refused_words words e (subst (λ b. HasKind (fault_of b words) e) is (wrong (ap is_simple_and_free is ∙ are.free)))

  pub short_words : (words : List Text) → has_short words ≡ true → NobodyUnderstands options words
  short_words words short items h = let no : true ≡ false = sym short ∙ spelled_long h.spelled in cc

-- ---- the options that there are

lacks_by : (c : ℕ) (xs : List ℕ) → list_any (λ x. x == c) xs ≡ false → Lacks c xs
lacks_by c xs none_there = go (cut c xs)
  where
    go : Cut c xs → Lacks c xs
    go (inl lacks) = lacks
    go (inr found) = let no : true ≡ false = sym (list_any-at c found.0 found.1) ∙ ap (list_any (λ x. x == c)) (sym found.2) ∙ none_there in absurd cc

option_name : (first : ℕ) (others : List ℕ) → list_any (λ x. x == 61) (first ∷ others) ≡ false → IsOptionName (first ∷ others)
option_name first others without = record { first = first; others = others; bytes = refl; lacks = lacks_by 61 (first ∷ others) without }

among : (options : List Text) (given : Text) → AllByRecursion IsOptionName options → is_among options given ≡ true → IsOptionName given
among [] given all there = absurd cc
among (option ∷ options) given all there = go (bytes_eq option given) refl there (among options given all.1)
  where
    go : (b : Bool) → bytes_eq option given ≡ b → (b || is_among options given) ≡ true → (is_among options given ≡ true → IsOptionName given) → IsOptionName given
    go true same t more = subst IsOptionName (bytes_same option given same) all.0
    go false differs t more = more t

pub load_are : AreOptions load_options
load_are = record {
  no_names = refl;
  are_names = λ given there. among load_options given (option_name _ _ refl, (option_name _ _ refl, (option_name _ _ refl, (option_name _ _ refl, (option_name _ _ refl, (option_name _ _ refl, (option_name _ _ refl, tt))))))) there;
  simple = refl;
  free = refl;
}

pub none_are : AreOptions []
none_are = record { no_names = refl; are_names = λ given there. among [] given tt there; simple = refl; free = refl }
