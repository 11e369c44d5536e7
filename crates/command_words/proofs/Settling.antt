-- What a parse holds of the items so far.
use Rattle.std.proofs.Common.{◌≡◌, ℕ, suc, ◌+◌, ◌≤◌, Bool, true, false, List, [], ◌∷◌, ◌++◌, length, flat_map, Option, Some, None, if◌then◌else◌, inl, inr, refl, sym, ap, subst, ◌∙◌, arith}
use Rattle.std.specs.Prelude.{◌⊎◌, ◌&&◌, not, unwrap_or}
use Rattle.std.specs.Str.{bytes_eq}
use Rattle.std.proofs.lemmas.List.{append-nil, length-append}
use Rattle.clap.specs.Walk.{Row, Rule, Text, Held, used, settled_rows, used_by_id, has_row, without, with_values}
use Rattle.clap.specs.Faults.{use_fault, settle_fault}
use Rattle.clap.specs.Kinds.{or_else}
use Rattle.clap.specs.declared.parser.matches.ValueSource.TheVariants.{CommandLine}
use Rattle.clap.specs.declared.builder.value_parser.Reading.TheVariants.{AsWritten}
use Rattle.clap.specs.declared.error.kind.ErrorKind.TheVariants as kind
use Rattle.command_words.specs.Items.{Item, Given, Named, is_among}
use Rattle.command_words.proofs.Rows.{same_bytes, bytes_same, held, no_row, no_held, without_none, with_more, held-with}
use Rattle.command_words.proofs.Rules.{option_rule, names_rule, names_id, rules, option_by_id, names_by_id}

abbrev pub id_of : Item → Text
id_of (Given option value) = option
id_of (Named word) = names_id

abbrev pub text_of : Item → Text
text_of (Given option value) = value
text_of (Named word) = word

abbrev pub rule_for : Item → Rule
rule_for (Given option value) = option_rule option
rule_for (Named word) = names_rule

-- the texts of the items under an id
abbrev pub text_under : Text → Item → List Text
text_under id item = if bytes_eq (id_of item) id then text_of item ∷ [] else []

abbrev pub texts_under : Text → List Item → List Text
texts_under id [] = []
texts_under id (item ∷ items) = text_under id item ++ texts_under id items

abbrev pub some_of : List Text → Option (List Text)
some_of [] = None
some_of (v ∷ vs) = Some (v ∷ vs)

pub texts_under-append : (id : Text) (xs ys : List Item) → texts_under id (xs ++ ys) ≡ texts_under id xs ++ texts_under id ys
texts_under-append id [] ys = refl
texts_under-append id (x ∷ xs) ys = go (bytes_eq (id_of x) id) (texts_under-append id xs ys)
  where
    go : (b : Bool) → texts_under id (xs ++ ys) ≡ texts_under id xs ++ texts_under id ys
        → (if b then text_of x ∷ [] else []) ++ texts_under id (xs ++ ys) ≡ ((if b then text_of x ∷ [] else []) ++ texts_under id xs) ++ texts_under id ys
    go true e = ap (λ ts. text_of x ∷ ts) e
    go false e = e

pub texts_under-push : (id : Text) (xs : List Item) (x : Item) → texts_under id (xs ++ x ∷ []) ≡ texts_under id xs ++ text_under id x
texts_under-push id xs x = texts_under-append id xs (x ∷ []) ∙ ap (λ ts. texts_under id xs ++ ts) (append-nil (text_under id x))

none_of : (ts : List Text) → some_of ts ≡ None → ts ≡ []
none_of [] e = refl
none_of (t ∷ ts) e = absurd cc

some_more : (ts : List Text) (t : Text) → some_of (ts ++ t ∷ []) ≡ Some (unwrap_or (some_of ts) [] ++ t ∷ [])
some_more [] t = refl
some_more (x ∷ ts) t = refl

short_list : (ts : List Text) → length ts ≤ 0 → ts ≡ []
short_list [] le = refl
short_list (t ∷ ts) le = absurd (omega arith)

module _ (options : List Text) (apart : is_among options names_id ≡ false) where
  -- each option stands once at the most
  abbrev pub Once : List Item → Type 0
  Once items = (option : Text) → is_among options option ≡ true → length (texts_under option items) ≤ 1

  abbrev pub IsKnown : Item → Type 0
  IsKnown (Given option value) = is_among options option ≡ true
  IsKnown (Named word) = Unit {0}

  pub record Settled (done : List Item) (rows : List Row) : Type 0 where
    pub holds : (id : Text) → held id rows ≡ some_of (texts_under id done)
    pub once : Once done

  -- the rows once the item was used
  abbrev pub with_item : Item → List Row → List Row
  with_item item rows = used (rule_for item) (text_of item ∷ []) rows

  holds_more : (done : List Item) (item : Item) (rows : List Row) → ((id : Text) → held id rows ≡ some_of (texts_under id done))
      → (id : Text) → held id (with_values (id_of item) AsWritten CommandLine (text_of item ∷ []) rows) ≡ some_of (texts_under id (done ++ item ∷ []))
  holds_more done item rows h id = held-with AsWritten (text_of item ∷ []) (id_of item) id rows ∙ go (bytes_eq (id_of item) id) refl ∙ sym (ap some_of (texts_under-push id done item))
    where
      go : (b : Bool) → bytes_eq (id_of item) id ≡ b → with_more (id_of item) (text_of item ∷ []) id rows ≡ some_of (texts_under id done ++ text_under id item)
      go true e =
          let same : id_of item ≡ id = bytes_same (id_of item) id e in
          rw e (ap (λ o. Some (unwrap_or o [] ++ text_of item ∷ [])) (ap (λ i. held i rows) same ∙ h id) ∙ sym (some_more (texts_under id done) (text_of item)))
      go false e = rw e (h id ∙ ap some_of (sym (append-nil (texts_under id done))))

  once_more : (done : List Item) (option value : Text) → texts_under option done ≡ [] → Once done → Once (done ++ Given option value ∷ [])
  once_more done option value none once other there =
      let push = ap length (texts_under-push other done (Given option value)) in go (bytes_eq option other) refl push
    where
      go : (b : Bool) → bytes_eq option other ≡ b → length (texts_under other (done ++ Given option value ∷ [])) ≡ length (texts_under other done ++ text_under other (Given option value))
          → length (texts_under other (done ++ Given option value ∷ [])) ≤ 1
      go true e push =
          let none_here : texts_under other done ≡ [] = ap (λ o. texts_under o done) (sym (bytes_same option other e)) ∙ none in
          let now : length (texts_under other done ++ text_under other (Given option value)) ≡ 1 = rw (none_here, e) refl in omega arith
      go false e push =
          let now : length (texts_under other done ++ text_under other (Given option value)) ≡ length (texts_under other done) = rw e (ap length (append-nil (texts_under other done))) in
          let le = once other there in omega arith

  once_named : (done : List Item) (word : Text) → Once done → Once (done ++ Named word ∷ [])
  once_named done word once other there = go (bytes_eq names_id other) refl (ap length (texts_under-push other done (Named word)))
    where
      go : (b : Bool) → bytes_eq names_id other ≡ b → length (texts_under other (done ++ Named word ∷ [])) ≡ length (texts_under other done ++ text_under other (Named word))
          → length (texts_under other (done ++ Named word ∷ [])) ≤ 1
      go true e push = let no : true ≡ false = sym there ∙ ap (is_among options) (sym (bytes_same names_id other e)) ∙ apart in absurd cc
      go false e push =
          let now : length (texts_under other done ++ text_under other (Named word)) ≡ length (texts_under other done) = rw e (ap length (append-nil (texts_under other done))) in
          let le = once other there in omega arith

  -- an option's use is refused exactly where it has a row

  fresh_use : (option value : Text) (rows : List Row) (b : Bool) → has_row option rows ≡ b → use_fault false (option_rule option) (value ∷ []) rows ≡ [] → has_row option rows ≡ false
  fresh_use option value rows true e none = absurd (let no : kind.ArgumentConflict ∷ [] ≡ [] = sym (rw e refl) ∙ none in cc)
  fresh_use option value rows false e none = e

  use_fresh : (option value : Text) (rows : List Row) → has_row option rows ≡ false → use_fault false (option_rule option) (value ∷ []) rows ≡ []
  use_fresh option value rows e = rw e refl

  pub item_settles : (done : List Item) (item : Item) (rows : List Row) → Settled done rows → use_fault false (rule_for item) (text_of item ∷ []) rows ≡ []
      → Settled (done ++ item ∷ []) (with_item item rows)
  item_settles done (Given option value) rows h none =
      let fresh = fresh_use option value rows (has_row option rows) refl none in
      let missing = none_of (texts_under option done) (sym (h.holds option) ∙ no_held option rows fresh) in
      record {
        holds = λ id. ap (λ rs. held id (with_values option AsWritten CommandLine (value ∷ []) rs)) (without_none option rows fresh) ∙ holds_more done (Given option value) rows h.holds id;
        once = once_more done option value missing h.once;
      }
  item_settles done (Named word) rows h none = record { holds = holds_more done (Named word) rows h.holds; once = once_named done word h.once }

  -- where it stands once, its use isn't refused
  pub item_passes : (done : List Item) (item : Item) (rows : List Row) → Settled done rows → IsKnown item → Once (done ++ item ∷ [])
      → use_fault false (rule_for item) (text_of item ∷ []) rows ≡ []
  item_passes done (Given option value) rows h known once =
      let push : texts_under option (done ++ Given option value ∷ []) ≡ texts_under option done ++ value ∷ []
      = texts_under-push option done (Given option value) ∙ rw (same_bytes option) refl in
      let few : length (texts_under option done ++ value ∷ []) ≤ 1 = subst (λ ts. length ts ≤ 1) push (once option known) in
      let none = short_list (texts_under option done) (omega (arith, length-append (texts_under option done) (value ∷ []))) in
      use_fresh option value rows (no_row option rows (h.holds option ∙ ap some_of none))
  item_passes done (Named word) rows h known once = refl
