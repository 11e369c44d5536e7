-- Where a parse stands after some items, and that it settles.
use Rattle.std.proofs.Common.{◌≡◌, ◌+◌, ◌≤◌, true, false, List, [], ◌∷◌, ◌++◌, length, Option, Some, None, inl, inr, refl, sym, ap, subst, ◌∙◌, arith}
use Rattle.std.specs.Prelude.{◌⊎◌}
use Rattle.std.specs.Option.{option_map_or}
use Rattle.std.proofs.lemmas.List.{length-append}
use Rattle.clap.specs.Walk.{Row, Text, arg_by_id, used_by_id}
use Rattle.clap.specs.Faults.{use_fault}
use Rattle.command_words.specs.Items.{Item, Given, Named, is_among}
use Rattle.command_words.proofs.Rules.{names_id, rules, option_by_id, names_by_id}
use Rattle.command_words.proofs.Settling.{id_of, text_of, rule_for, texts_under, texts_under-append, Once, IsKnown, Settled, item_settles, item_passes}
use Rattle.command_words.proofs.Turns.{settle, refusal}

module _ (name : Text) (options : List Text) (apart : is_among options names_id ≡ false) where
  abbrev pub AllSettled : List Item → List Row → Type 0
  AllSettled done rows = Settled options apart done rows

  abbrev pub EachOnce : List Item → Type 0
  EachOnce items = Once options apart items

  -- the last item may be pending
  pub record Pending (done : List Item) (rows : List Row) (pending : Option (Text × List Text)) : Type 0 where
    pub before : List Item
    pub item : Item
    pub last : done ≡ before ++ item ∷ []
    pub is : pending ≡ Some (id_of item, text_of item ∷ [])
    pub known : IsKnown options apart item
    pub settled : AllSettled before rows

  abbrev pub Stands : List Item → List Row → Option (Text × List Text) → Type 0
  Stands done rows pending = ((pending ≡ None) × AllSettled done rows) ⊎ Pending done rows pending

  found : (item : Item) → IsKnown options apart item → arg_by_id (rules options) (id_of item) ≡ Some (rule_for item)
  found (Given option value) known = option_by_id options option known
  found (Named word) known = names_by_id options apart

  fault_is : (item : Item) (rows : List Row) → IsKnown options apart item → refusal name options rows (Some (id_of item, text_of item ∷ [])) ≡ use_fault false (rule_for item) (text_of item ∷ []) rows
  fault_is item rows known = ap (λ o. option_map_or (λ a. use_fault false a (text_of item ∷ []) rows) o []) (found item known)

  pub settles : (done : List Item) (rows : List Row) (pending : Option (Text × List Text)) → Stands done rows pending → refusal name options rows pending ≡ []
      → AllSettled done (settle name options rows pending)
  settles done rows pending (inl h) none = subst (λ p. AllSettled done (settle name options rows p)) (sym h.0) h.1
  settles done rows pending (inr h) none =
      let used : use_fault false (rule_for h.item) (text_of h.item ∷ []) rows ≡ []
      = sym (fault_is h.item rows h.known) ∙ ap (refusal name options rows) (sym h.is) ∙ none in
      let after = item_settles options apart h.before h.item rows h.settled used in
      let rows_are : settle name options rows pending ≡ used_by_id (Some (rule_for h.item)) (text_of h.item ∷ []) rows
      = ap (settle name options rows) h.is ∙ ap (λ o. used_by_id o (text_of h.item ∷ []) rows) (found h.item h.known) in
      subst (λ rs. AllSettled done rs) (sym rows_are) (subst (λ items. AllSettled items (used_by_id (Some (rule_for h.item)) (text_of h.item ∷ []) rows)) (sym h.last) after)

  pub passes : (done : List Item) (rows : List Row) (pending : Option (Text × List Text)) → Stands done rows pending → EachOnce done → refusal name options rows pending ≡ []
  passes done rows pending (inl h) once = ap (refusal name options rows) h.0
  passes done rows pending (inr h) once =
      ap (refusal name options rows) h.is ∙ fault_is h.item rows h.known
      ∙ item_passes options apart h.before h.item rows h.settled h.known (subst (λ items. EachOnce items) h.last once)

  pub now_pending : (done : List Item) (item : Item) (rows : List Row) → IsKnown options apart item → AllSettled done rows
      → Stands (done ++ item ∷ []) rows (Some (id_of item, text_of item ∷ []))
  now_pending done item rows known settled = inr (record { before = done; item = item; last = refl; is = refl; known = known; settled = settled })

  pub once_front : (xs ys : List Item) → EachOnce (xs ++ ys) → EachOnce xs
  once_front xs ys once option there =
      let whole : length (texts_under option xs ++ texts_under option ys) ≤ 1 = subst (λ ts. length ts ≤ 1) (texts_under-append option xs ys) (once option there) in
      omega (arith, whole, length-append (texts_under option xs) (texts_under option ys))
