-- Words that a parse takes are spelled by items.
use Rattle.std.proofs.Common.{◌≡◌, ℕ, Bool, true, false, List, [], ◌∷◌, ◌++◌, map, fold, Option, Some, None, if◌then◌else◌, inl, inr, refl, sym, ap, subst, ◌∙◌, append_assoc}
use Rattle.std.specs.Prelude.{◌⊎◌, ◌||◌}
use Rattle.std.specs.Str.{bytes_eq}
use Rattle.std.proofs.lemmas.List.{append-nil}
use Rattle.clap.specs.Walk.{Row, Text, Held, Walk, Waiting, idle, option, positional, walked, settled_rows, used}
use Rattle.clap.specs.Kinds.{or_else}
use Rattle.clap.specs.Lexer.{name_and_value}
use Rattle.clap.proofs.LexerLemmas.{name_and_value-at, name_and_value-without}
use Rattle.command_words.specs.Items.{Item, Given, Named, is_among, begins_with_dash, is_short, has_short, Spells, none, name, apart, joined, rest}
use Rattle.command_words.proofs.Cuts.{cut, Cut, begins, Begins}
use Rattle.command_words.proofs.Rows.{bytes_same}
use Rattle.command_words.proofs.Rules.{option_rule, names_id, rules}
use Rattle.command_words.proofs.Settling.{item_settles}
use Rattle.command_words.proofs.Standing.{AllSettled, Stands, settles, now_pending}
use Rattle.command_words.proofs.Turns.{IsFree, hold, stand, settle, refusal, Clean, both_none, first_clean, dashes, dashes_walk, named, rest_refuses, rest_walk, name_refuses, name_walk, value_walk, open_refused, IsLong, unknown_refused, joined_refuses, joined_walk, apart_refuses, apart_walk}

both_false : (a b : Bool) → (a || b) ≡ false → (a ≡ false) × (b ≡ false)
both_false true b e = absurd cc
both_false false b e = (refl, e)

module _ (command : Text) (options : List Text) (no_names : is_among options names_id ≡ false) where
  -- what is held behind the words
  abbrev pub end_of : Walk → List Text → Held
  end_of w words = (fold (walked (rules options) []) w words).held

  -- these items stand behind what was read
  abbrev pub IsHeld : List Item → Walk → List Text → Type 0
  IsHeld items w words = AllSettled command options no_names items (settled_rows (rules options) (end_of w words).pending (end_of w words).rows)

  abbrev pub IsClean : Walk → List Text → Type 0
  IsClean w words = Clean command options w words

  rest_held : (words : List Text) (done : List Item) (rows : List Row) (pending : Option (Text × List Text)) (waiting : Waiting)
      → Stands command options no_names done rows pending → IsClean (stand command options (hold command options rows pending) waiting true) words
      → IsHeld (done ++ map Named words) (stand command options (hold command options rows pending) waiting true) words
  rest_held [] done rows pending waiting stands clean =
      subst (λ items. AllSettled command options no_names items (settle command options rows pending)) (sym (append-nil done)) (settles command options no_names done rows pending stands clean.1)
  rest_held (word ∷ words) done rows pending waiting stands clean =
      let first = first_clean command options (stand command options (hold command options rows pending) waiting true) word words clean in
      let settled = settles command options no_names done rows pending stands (sym (rest_refuses command options rows pending waiting word) ∙ first.0) in
      let walk = rest_walk command options rows pending waiting word in
      let next = rest_held words (done ++ Named word ∷ []) (settle command options rows pending) (Some (names_id, word ∷ [])) positional
      (now_pending command options no_names done (Named word) (settle command options rows pending) tt settled) (subst (λ w. IsClean w words) walk first.1) in
      subst (λ w. IsHeld (done ++ Named word ∷ map Named words) w words) (sym walk) (subst (λ items. IsHeld items (named command options rows pending word true) words) (append_assoc done (Named word ∷ []) (map Named words)) next)

  -- between two words: nothing waits, or an option waits for its value, whose word was read
  pub data Mode (done : List Item) : List Text → Walk → Type 0 where
    free : {rows : List Row} {pending : Option (Text × List Text)} {waiting : Waiting} → Stands command options no_names done rows pending → IsFree waiting
        → Mode done [] (stand command options (hold command options rows pending) waiting false)
    waits : {rows : List Row} {given : Text} → AllSettled command options no_names done rows → is_among options given ≡ true
        → Mode done ((45 ∷ 45 ∷ given) ∷ []) (stand command options (hold command options rows (Some (given, []))) (option given) false)

  pub record Reads (done : List Item) (front : List Text) (w : Walk) (words : List Text) : Type 0 where
    pub items : List Item
    pub spelled : Spells options (front ++ words) items
    pub held : IsHeld (done ++ items) w words

  never_open : (words : List Text) (rows : List Row) (given : Text) → is_among options given ≡ true
      → IsClean (stand command options (hold command options rows (Some (given, []))) (option given) true) words → ⊥
  never_open [] rows given there clean = open_refused command options rows given there clean.1
  never_open (word ∷ words) rows given there clean =
      let first = first_clean command options (stand command options (hold command options rows (Some (given, []))) (option given) true) word words clean in
      open_refused command options rows given there (sym (rest_refuses command options rows (Some (given, [])) (option given) word) ∙ first.0)

  -- ---- one more word

  before_dashes : (words : List Text) (done : List Item) (front : List Text) (w : Walk) → Mode done front w → IsClean w (dashes command options ∷ words)
      → Reads done front w (dashes command options ∷ words)
  before_dashes words done front w (free {rows} {pending} {waiting} stands is_free) clean =
      let first = first_clean command options (stand command options (hold command options rows pending) waiting false) (dashes command options) words clean in
      let walk = dashes_walk command options rows pending waiting in
      record {
        items = map Named words;
        spelled = rest;
        held = subst (λ v. IsHeld (done ++ map Named words) v words) (sym walk) (rest_held words done rows pending waiting stands (subst (λ v. IsClean v words) walk first.1));
      }
  before_dashes words done front w (waits {rows} {given} settled there) clean =
      let first = first_clean command options (stand command options (hold command options rows (Some (given, []))) (option given) false) (dashes command options) words clean in
      absurd (never_open words rows given there (subst (λ v. IsClean v words) (dashes_walk command options rows (Some (given, [])) (option given)) first.1))

  -- what is understood of the words behind, from any mode
  abbrev pub Understands : List Text → Type 0
  Understands words = (done : List Item) (front : List Text) (w : Walk) → Mode done front w → IsClean w words → Reads done front w words

  joined_item : (done : List Item) (item : Item) (w v : Walk) (words : List Text) (word : Text) (more : Reads (done ++ item ∷ []) [] v words)
      → walked (rules options) [] w word ≡ v → IsHeld (done ++ item ∷ more.items) w (word ∷ words)
  joined_item done item w v words word more walk =
      subst (λ u. IsHeld (done ++ item ∷ more.items) u words) (sym walk) (subst (λ items. IsHeld items v words) (append_assoc done (item ∷ []) more.items) more.held)

  before_plain : (word : Text) (words : List Text) → Understands words → begins_with_dash word ≡ false → Understands (word ∷ words)
  before_plain word words understands plain done front w (free {rows} {pending} {waiting} stands is_free) clean =
      let first = first_clean command options (stand command options (hold command options rows pending) waiting false) word words clean in
      let settled = settles command options no_names done rows pending stands (sym (name_refuses command options rows pending waiting word is_free plain) ∙ first.0) in
      let walk = name_walk command options rows pending waiting word is_free plain in
      let more = understands (done ++ Named word ∷ []) [] _ (free {waiting = positional} (now_pending command options no_names done (Named word) (settle command options rows pending) tt settled) tt)
      (subst (λ v. IsClean v words) walk first.1) in
      record { items = Named word ∷ more.items; spelled = name plain more.spelled; held = joined_item done (Named word) _ _ words word more walk }
  before_plain word words understands plain done front w (waits {rows} {given} settled there) clean =
      let first = first_clean command options (stand command options (hold command options rows (Some (given, []))) (option given) false) word words clean in
      let walk = value_walk command options rows given word there plain in
      let more = understands (done ++ Given given word ∷ []) [] _ (free {waiting = idle} (now_pending command options no_names done (Given given word) rows there settled) tt)
      (subst (λ v. IsClean v words) walk first.1) in
      record { items = Given given word ∷ more.items; spelled = apart there plain more.spelled; held = joined_item done (Given given word) _ _ words word more walk }

  before_apart : (word given : Text) (words : List Text) → Understands words → word ≡ 45 ∷ 45 ∷ given → IsLong command options word given None → is_among options given ≡ true
      → Understands (word ∷ words)
  before_apart word given words understands spelled long there done front w (free {rows} {pending} {waiting} stands is_free) clean =
      let first = first_clean command options (stand command options (hold command options rows pending) waiting false) word words clean in
      let none_refused = (both_none _ _ (sym (apart_refuses command options rows pending waiting word given long there) ∙ first.0)).0 in
      let settled = settles command options no_names done rows pending stands none_refused in
      let walk = apart_walk command options rows pending waiting word given long there in
      let more = understands done ((45 ∷ 45 ∷ given) ∷ []) _ (waits settled there) (subst (λ v. IsClean v words) walk first.1) in
      record {
        items = more.items;
        spelled = subst (λ first_word. Spells options (first_word ∷ words) more.items) (sym spelled) more.spelled;
        held = subst (λ v. IsHeld (done ++ more.items) v words) (sym walk) more.held;
      }
  before_apart word given words understands spelled long there done front w (waits {rows} {given = other} settled is_other) clean =
      let first = first_clean command options (stand command options (hold command options rows (Some (other, []))) (option other) false) word words clean in
      let none_refused = (both_none _ _ (sym (apart_refuses command options rows (Some (other, [])) (option other) word given long there) ∙ first.0)).0 in
      absurd (open_refused command options rows other is_other none_refused)

  before_joined : (word given value : Text) (words : List Text) → Understands words → word ≡ 45 ∷ 45 ∷ given ++ 61 ∷ value → IsLong command options word given (Some value)
      → is_among options given ≡ true → Understands (word ∷ words)
  before_joined word given value words understands spelled long there done front w (free {rows} {pending} {waiting} stands is_free) clean =
      let first = first_clean command options (stand command options (hold command options rows pending) waiting false) word words clean in
      let parts = both_none _ _ (both_none _ _ (sym (joined_refuses command options rows pending waiting word given value long there) ∙ first.0)).0 in
      let settled = settles command options no_names done rows pending stands parts.0 in
      let after = item_settles options no_names done (Given given value) (settle command options rows pending) settled parts.1 in
      let walk = joined_walk command options rows pending waiting word given value long there in
      let more = understands (done ++ Given given value ∷ []) [] _ (free {pending = None} {waiting = idle} (inl (refl, after)) tt) (subst (λ v. IsClean v words) walk first.1) in
      record {
        items = Given given value ∷ more.items;
        spelled = subst (λ first_word. Spells options (first_word ∷ words) (Given given value ∷ more.items)) (sym spelled) (joined there more.spelled);
        held = joined_item done (Given given value) _ _ words word more walk;
      }
  before_joined word given value words understands spelled long there done front w (waits {rows} {given = other} settled is_other) clean =
      let first = first_clean command options (stand command options (hold command options rows (Some (other, []))) (option other) false) word words clean in
      let parts = both_none _ _ (both_none _ _ (sym (joined_refuses command options rows (Some (other, [])) (option other) word given value long there) ∙ first.0)).0 in
      absurd (open_refused command options rows other is_other parts.0)

  never_unknown : (word given : Text) (value : Option Text) (words : List Text) → IsLong command options word given value → is_among options given ≡ false → Understands (word ∷ words)
  never_unknown word given value words long unknown done front w (free {rows} {pending} {waiting} stands is_free) clean =
      let first = first_clean command options (stand command options (hold command options rows pending) waiting false) word words clean in
      absurd (unknown_refused command options rows pending waiting word given value long unknown first.0)
  never_unknown word given value words long unknown done front w (waits {rows} {given = other} settled is_other) clean =
      let first = first_clean command options (stand command options (hold command options rows (Some (other, []))) (option other) false) word words clean in
      absurd (unknown_refused command options rows (Some (other, [])) (option other) word given value long unknown first.0)

  told : (word given : Text) (words : List Text) → Understands words → (b : Bool) → is_among options given ≡ b → word ≡ 45 ∷ 45 ∷ given → IsLong command options word given None → Understands (word ∷ words)
  told word given words understands true there spelled long = before_apart word given words understands spelled long there
  told word given words understands false unknown spelled long = never_unknown word given None words long unknown

  told_both : (word given value : Text) (words : List Text) → Understands words → (b : Bool) → is_among options given ≡ b → word ≡ 45 ∷ 45 ∷ given ++ 61 ∷ value
      → IsLong command options word given (Some value) → Understands (word ∷ words)
  told_both word given value words understands true there spelled long = before_joined word given value words understands spelled long there
  told_both word given value words understands false unknown spelled long = never_unknown word given (Some value) words long unknown

  before_long : (first : ℕ) (others : List ℕ) (words : List Text) → Understands words → Cut 61 (first ∷ others) → Understands ((45 ∷ 45 ∷ first ∷ others) ∷ words)
  before_long first others words understands (inl lacks) =
      told (45 ∷ 45 ∷ first ∷ others) (first ∷ others) words understands (is_among options (first ∷ others)) refl refl (refl, ap Some (name_and_value-without (first ∷ others) lacks))
  before_long first others words understands (inr found) =
      let given = found.0 in
      let value = found.1 in
      told_both (45 ∷ 45 ∷ first ∷ others) given value words understands (is_among options given) refl (ap (λ bytes. 45 ∷ 45 ∷ bytes) found.2)
      (refl, ap (λ text. Some (name_and_value text)) found.2 ∙ ap Some (name_and_value-at given value found.3))

  one_more : (word : Text) (words : List Text) → Understands words → Begins word → Understands (word ∷ words)
  one_more word words understands (inl plain) = before_plain word words understands plain
  one_more word words understands (inr (inl is)) = subst (λ first. Understands (first ∷ words)) (sym is) (λ done front w mode clean. before_dashes words done front w mode clean)
  one_more word words understands (inr (inr long)) =
      subst (λ first. Understands (first ∷ words)) (sym long.2) (before_long long.0 long.1 words understands (cut 61 (long.0 ∷ long.1)))

  nothing_more : Understands []
  nothing_more done front w (free {rows} {pending} {waiting} stands is_free) clean = record {
    items = [];
    spelled = none;
    held = subst (λ items. AllSettled command options no_names items (settle command options rows pending)) (sym (append-nil done)) (settles command options no_names done rows pending stands clean.1);
  }
  nothing_more done front w (waits {rows} {given} settled there) clean = absurd (open_refused command options rows given there clean.1)

  parts : (word : Text) (words : List Text) (b : Bool) → bytes_eq word (dashes command options) ≡ b → has_short (word ∷ words) ≡ false
      → (word ≡ dashes command options) ⊎ ((is_short word ≡ false) × (has_short words ≡ false))
  parts word words true same long = inl (bytes_same word (dashes command options) same)
  parts word words false differs long = inr (both_false (is_short word) (has_short words) (sym (rw differs refl) ∙ long))

  pub understood : (words : List Text) → has_short words ≡ false → Understands words
  understood [] long = nothing_more
  understood (word ∷ words) long = go (parts word words (bytes_eq word (dashes command options)) refl long) (understood words)
    where
      go : (word ≡ dashes command options) ⊎ ((is_short word ≡ false) × (has_short words ≡ false)) → (has_short words ≡ false → Understands words) → Understands (word ∷ words)
      go (inl is) more = subst (λ first. Understands (first ∷ words)) (sym is) (λ done front w mode clean. before_dashes words done front w mode clean)
      go (inr h) more = one_more word words (more h.1) (begins word h.0)

pub dummy : Unit {0}
dummy = tt
