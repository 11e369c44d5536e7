-- From what was matched to what a command's words ask for, or why they are refused.
use Rattle.std.proofs.Common.{◌≡◌, ◌≢◌, ℕ, true, List, [], ◌∷◌, length, refl, sym, subst, arith}
use Rattle.std.specs.List.{AllByRecursion}
use Rattle.rma_layout.specs.Shape.{Shape}
use Rattle.command_words.specs.Items.{Text, Item, is_among, Spells, values_of, names_of}
use Rattle.command_words.specs.Commands.{load_options, options_of, name_count, ArePlain, ArePlainValues, HasForm, HasNumbers, HasBadNumber, IsRefused, TellsWhy}
use Rattle.command_words.specs.Matched.{Understands}
use Rattle.command_words.specs.Parsed.{OrMemory}
use Rattle.command_words.specs.Sources.{SourceRefused}
use Rattle.command_words.specs.declared.command.CommandName.{CommandName}
use Rattle.command_words.specs.declared.usage.UsageKind.{UsageKind}
use Rattle.command_words.specs.declared.usage.UsageKind.TheVariants as usage
use Rattle.command_words.specs.declared.usage.WordsRefused.{WordsRefused}
use Rattle.command_words.specs.declared.usage.WordsRefused.TheVariants as refused
use Rattle.command_words.proofs.Meanings.{same_items}
use Rattle.command_words.proofs.Refusals.{AreOptions}

module _ (command : CommandName) (are : AreOptions (options_of command)) where
  abbrev pub IsUnderstood : List Text → List Item → Type 0
  IsUnderstood words items = Understands (options_of command) words items

  -- where nobody understands the words, they have no form
  pub unmatched : (words : List Text) (r : WordsRefused) → OrMemory (options_of command) words r → TellsWhy command words r
  unmatched words (refused.Usage usage.Words) nobody = λ items form. nobody items (record { spelled = form.spelled; once = form.once })
  unmatched words (refused.Usage usage.Command) h = h
  unmatched words (refused.Usage usage.Number) h = absurd h
  unmatched words (refused.Usage (usage.Geometry bad)) h = absurd h
  unmatched words refused.NoMemory h = tt

  -- what isn't so of the items that were found is so of none
  pub formless : (words : List Text) (items : List Item) → IsUnderstood words items → (P : List Item → Type 0) → ¬ P items → ((others : List Item) → HasForm command words others → P others)
      → (others : List Item) → ¬ HasForm command words others
  formless words items understood P bad so others form =
      bad (subst P (sym (same_items (options_of command) are.are_names understood.spelled form.spelled)) (so others form))

  -- other names than the command wants
  pub misnamed : (words : List Text) (items : List Item) → IsUnderstood words items → (length (names_of items) ≡ name_count command → ArePlain command (names_of items) → ⊥)
      → (others : List Item) → ¬ HasForm command words others
  misnamed words items understood bad = formless words items understood (λ xs. (length (names_of xs) ≡ name_count command) × ArePlain command (names_of xs))
      (λ h. bad h.0 h.1) (λ others form. (form.count, form.names))

  pub formed : (words : List Text) (items : List Item) → IsUnderstood words items → ArePlainValues (options_of command) items → length (names_of items) ≡ name_count command
      → ArePlain command (names_of items) → HasForm command words items
  formed words items understood values count names = record { spelled = understood.spelled; once = understood.once; values = values; count = count; names = names }

module _ (command : CommandName) (are : AreOptions (options_of command)) (loads : load_options ≡ options_of command)
    (bad_numbers : (items : List Item) → ((shape : Shape) → ¬ HasNumbers items shape) → HasBadNumber command items) where
  pub plain : (items : List Item) → ArePlainValues load_options items → ArePlainValues (options_of command) items
  plain items = subst (λ options. ArePlainValues options items) loads

  pub source_refused : (words : List Text) (items : List Item) → Understands (options_of command) words items → length (names_of items) ≡ name_count command
      → ArePlain command (names_of items) → (kind : UsageKind) → SourceRefused items kind → IsRefused command words kind
  source_refused words items understood count names usage.Command h = h
  source_refused words items understood count names usage.Words bad =
      formless command are words items understood (ArePlainValues load_options) bad (λ others form. subst (λ options. ArePlainValues options others) (sym loads) form.values)
  source_refused words items understood count names usage.Number h =
      (items, formed command are words items understood (plain items h.0) count names, bad_numbers items h.1)
  source_refused words items understood count names (usage.Geometry bad) h =
      (items, formed command are words items understood (plain items h.0) count names, h.1)

pub nothing_there : (names : List Text) → length names ≡ 0 → names ≡ []
nothing_there [] none = refl
nothing_there (name ∷ names) none = absurd (omega arith)
