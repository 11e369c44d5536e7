-- Words have one meaning.
use Rattle.std.proofs.Common.{◌≡◌, ℕ, Bool, true, false, List, [], ◌∷◌, ◌++◌, map, Option, Some, None, if◌then◌else◌, refl, sym, ap, subst, ◌∙◌}
use Rattle.clap.specs.Lexer.{name_and_value}
use Rattle.clap.proofs.LexerLemmas.{name_and_value-at, name_and_value-without}
use Rattle.command_words.specs.Items.{Text, Item, Given, Named, begins_with_dash, is_among, Spells, none, name, apart, joined, rest}
use Rattle.command_words.proofs.Taken.{IsOptionName}

-- of an option's word, with what the words behind it mean, alone and as its value
abbrev of_option : Text × Option Text → List Item → (Text → List Item) → List Item
of_option (given, Some value) others with_value = Given given value ∷ others
of_option (given, None) others with_value = with_value given

abbrev of_dashed : List ℕ → List Text → List Item → (Text → List Item) → List Item
of_dashed [] words others with_value = map Named words
of_dashed (b ∷ bs) words others with_value = of_option (name_and_value (b ∷ bs)) others with_value

abbrev behind : List ℕ → List ℕ
behind [] = []
behind (a ∷ []) = []
behind (a ∷ b ∷ bs) = bs

meaning : Option Text → List Text → List Item
meaning (Some given) [] = []
meaning (Some given) (value ∷ words) = Given given value ∷ meaning None words
meaning None [] = []
meaning None (word ∷ words) = if begins_with_dash word then of_dashed (behind word) words (meaning None words) (λ given. meaning (Some given) words) else Named word ∷ meaning None words

module _ (options : List Text) (are_names : (given : Text) → is_among options given ≡ true → IsOptionName given) where
  joined_means : (given value : Text) (words : List Text) (others : List Item) (with_value : Text → List Item) → is_among options given ≡ true
      → of_dashed (given ++ 61 ∷ value) words others with_value ≡ Given given value ∷ others
  joined_means given value words others with_value there =
      let is = are_names given there in
      let parts = name_and_value-at given value is.lacks in
      subst (λ bytes. name_and_value (bytes ++ 61 ∷ value) ≡ (given, Some value) → of_dashed (bytes ++ 61 ∷ value) words others with_value ≡ Given given value ∷ others) (sym is.bytes)
      (λ e. ap (λ p. of_option p others with_value) e) parts

  apart_means : (given : Text) (words : List Text) (others : List Item) (with_value : Text → List Item) → is_among options given ≡ true
      → of_dashed given words others with_value ≡ with_value given
  apart_means given words others with_value there =
      let is = are_names given there in
      let parts = name_and_value-without given is.lacks in
      subst (λ bytes. name_and_value bytes ≡ (given, None) → of_dashed bytes words others with_value ≡ with_value given) (sym is.bytes) (λ e. ap (λ p. of_option p others with_value) e) parts

  means : {words : List Text} {items : List Item} → Spells options words items → items ≡ meaning None words
  unfolding meaning
  means none = refl
  means (name {word} {words} plain spelled) = rw plain (ap (λ items. Named word ∷ items) (means spelled))
  means (apart {option = given} {value} {words} there plain spelled) =
      ap (λ items. Given given value ∷ items) (means spelled) ∙ sym (apart_means given (value ∷ words) (meaning None (value ∷ words)) (λ o. meaning (Some o) (value ∷ words)) there)
  means (joined {option = given} {value} {words} there spelled) =
      ap (λ items. Given given value ∷ items) (means spelled) ∙ sym (joined_means given value words (meaning None words) (λ o. meaning (Some o) words) there)
  means (rest {words}) = refl

  pub same_items : {words : List Text} {items others : List Item} → Spells options words items → Spells options words others → items ≡ others
  same_items one other = means one ∙ sym (means other)
