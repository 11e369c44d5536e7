-- A parse takes the words of items.
use Rattle.std.proofs.Common.{◌≡◌, ℕ, Bool, true, false, List, [], ◌∷◌, ◌++◌, map, length, Option, Some, None, inl, inr, refl, sym, ap, subst, ◌∙◌, append_assoc}
use Rattle.std.specs.Prelude.{◌⊎◌}
use Rattle.clap.specs.Walk.{Row, Text, Waiting, idle, option, positional}
use Rattle.clap.specs.Lexer.{name_and_value}
use Rattle.clap.specs.Faults.{walk_fault}
use Rattle.clap.proofs.CutLemmas.{Lacks}
use Rattle.clap.proofs.LexerLemmas.{name_and_value-at, name_and_value-without}
use Rattle.command_words.specs.Items.{Item, Given, Named, is_among, Spells, none, name, apart, joined, rest}
use Rattle.command_words.proofs.Rules.{names_id, rules}
use Rattle.command_words.proofs.Settling.{item_settles, item_passes}
use Rattle.command_words.proofs.Standing.{AllSettled, EachOnce, Stands, settles, passes, now_pending, once_front}
use Rattle.command_words.proofs.Turns.{IsFree, hold, stand, settle, refusal, Clean, none_both, clean_first, dashes, dashes_pass, dashes_walk, named, rest_refuses, rest_walk, name_refuses, name_walk, value_passes, value_walk, IsLong, joined_refuses, joined_walk, apart_refuses, apart_walk}

-- what the name of an option is: not empty, and without `=`
pub record IsOptionName (given : Text) : Type 0 where
  pub first : ℕ
  pub others : List ℕ
  pub bytes : given ≡ first ∷ others
  pub lacks : Lacks 61 given

module _ (command : Text) (options : List Text) (no_names : is_among options names_id ≡ false) (are_names : (given : Text) → is_among options given ≡ true → IsOptionName given) where
  abbrev pub IsClean : List Row → Option (Text × List Text) → Waiting → Bool → List Text → Type 0
  IsClean rows pending waiting is_trailing words = Clean command options (stand command options (hold command options rows pending) waiting is_trailing) words

  rest_taken : (words : List Text) (done : List Item) (rows : List Row) (pending : Option (Text × List Text)) (waiting : Waiting)
      → Stands command options no_names done rows pending → EachOnce command options no_names (done ++ map Named words) → IsClean rows pending waiting true words
  unfolding walk_fault
  rest_taken [] done rows pending waiting stands once = (refl, passes command options no_names done rows pending stands (once_front command options no_names done [] once))
  rest_taken (word ∷ words) done rows pending waiting stands once =
      let none = passes command options no_names done rows pending stands (once_front command options no_names done (map Named (word ∷ words)) once) in
      let settled = settles command options no_names done rows pending stands none in
      let once_more = subst (λ items. EachOnce command options no_names items) (sym (append_assoc done (Named word ∷ []) (map Named words))) once in
      let more = rest_taken words (done ++ Named word ∷ []) (settle command options rows pending) (Some (names_id, word ∷ [])) positional
      (now_pending command options no_names done (Named word) (settle command options rows pending) tt settled) once_more in
      clean_first command options (stand command options (hold command options rows pending) waiting true) word words
      (rest_refuses command options rows pending waiting word ∙ none) (subst (λ w. Clean command options w words) (sym (rest_walk command options rows pending waiting word)) more)

  is_long : (given : Text) → is_among options given ≡ true → IsLong command options (45 ∷ 45 ∷ given) given None
  is_long given there =
      let is = are_names given there in
      let without = name_and_value-without given is.lacks in
      subst (λ bytes. name_and_value bytes ≡ (bytes, None) → IsLong command options (45 ∷ 45 ∷ bytes) bytes None) (sym is.bytes) (λ e. (refl, ap Some e)) without

  is_joined : (given value : Text) → is_among options given ≡ true → IsLong command options (45 ∷ 45 ∷ given ++ 61 ∷ value) given (Some value)
  is_joined given value there =
      let is = are_names given there in
      let with_value = name_and_value-at given value is.lacks in
      subst (λ bytes. name_and_value (bytes ++ 61 ∷ value) ≡ (bytes, Some value) → IsLong command options (45 ∷ 45 ∷ bytes ++ 61 ∷ value) bytes (Some value)) (sym is.bytes) (λ e. (refl, ap Some e)) with_value

  pub taken : {words : List Text} {items : List Item} → Spells options words items → (done : List Item) (rows : List Row) (pending : Option (Text × List Text)) (waiting : Waiting)
      → IsFree waiting → Stands command options no_names done rows pending → EachOnce command options no_names (done ++ items) → IsClean rows pending waiting false words
  unfolding walk_fault
  taken none done rows pending waiting is_free stands once = (refl, passes command options no_names done rows pending stands (once_front command options no_names done [] once))
  taken (name {word} {words} {items} plain spelled) done rows pending waiting is_free stands once =
      let no_fault = passes command options no_names done rows pending stands (once_front command options no_names done (Named word ∷ items) once) in
      let settled = settles command options no_names done rows pending stands no_fault in
      let once_more = subst (λ xs. EachOnce command options no_names xs) (sym (append_assoc done (Named word ∷ []) items)) once in
      let more = taken spelled (done ++ Named word ∷ []) (settle command options rows pending) (Some (names_id, word ∷ [])) positional tt
      (now_pending command options no_names done (Named word) (settle command options rows pending) tt settled) once_more in
      clean_first command options (stand command options (hold command options rows pending) waiting false) word words
      (name_refuses command options rows pending waiting word is_free plain ∙ no_fault) (subst (λ w. Clean command options w words) (sym (name_walk command options rows pending waiting word is_free plain)) more)
  taken (apart {option = given} {value} {words} {items} there plain spelled) done rows pending waiting is_free stands once =
      let no_fault = passes command options no_names done rows pending stands (once_front command options no_names done (Given given value ∷ items) once) in
      let settled = settles command options no_names done rows pending stands no_fault in
      let rows_then = settle command options rows pending in
      let once_more = subst (λ xs. EachOnce command options no_names xs) (sym (append_assoc done (Given given value ∷ []) items)) once in
      let more = taken spelled (done ++ Given given value ∷ []) rows_then (Some (given, value ∷ [])) idle tt
      (now_pending command options no_names done (Given given value) rows_then there settled) once_more in
      let behind = clean_first command options (stand command options (hold command options rows_then (Some (given, []))) (option given) false) value words
      (value_passes command options rows_then given value plain) (subst (λ w. Clean command options w words) (sym (value_walk command options rows_then given value there plain)) more) in
      clean_first command options (stand command options (hold command options rows pending) waiting false) (45 ∷ 45 ∷ given) (value ∷ words)
      (apart_refuses command options rows pending waiting (45 ∷ 45 ∷ given) given (is_long given there) there ∙ none_both _ [] no_fault refl)
      (subst (λ w. Clean command options w (value ∷ words)) (sym (apart_walk command options rows pending waiting (45 ∷ 45 ∷ given) given (is_long given there) there)) behind)
  taken (joined {option = given} {value} {words} {items} there spelled) done rows pending waiting is_free stands once =
      let no_fault = passes command options no_names done rows pending stands (once_front command options no_names done (Given given value ∷ items) once) in
      let settled = settles command options no_names done rows pending stands no_fault in
      let rows_then = settle command options rows pending in
      let once_more = subst (λ xs. EachOnce command options no_names xs) (sym (append_assoc done (Given given value ∷ []) items)) once in
      let used_once = item_passes options no_names done (Given given value) rows_then settled there (once_front command options no_names (done ++ Given given value ∷ []) items once_more) in
      let after = item_settles options no_names done (Given given value) rows_then settled used_once in
      let word = 45 ∷ 45 ∷ given ++ 61 ∷ value in
      let long = is_joined given value there in
      let more = taken spelled (done ++ Given given value ∷ []) _ None idle tt (inl (refl, after)) once_more in
      clean_first command options (stand command options (hold command options rows pending) waiting false) word words
      (joined_refuses command options rows pending waiting word given value long there ∙ none_both _ [] (none_both _ _ no_fault used_once) refl)
      (subst (λ w. Clean command options w words) (sym (joined_walk command options rows pending waiting word given value long there)) more)
  taken (rest {words}) done rows pending waiting is_free stands once =
      clean_first command options (stand command options (hold command options rows pending) waiting false) (dashes command options) words
      (dashes_pass command options rows pending waiting)
      (subst (λ w. Clean command options w words) (sym (dashes_walk command options rows pending waiting)) (rest_taken words done rows pending waiting stands once))
