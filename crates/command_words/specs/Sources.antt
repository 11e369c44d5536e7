-- What the options of a command that loads give.
use Rattle.std.specs.Prelude.{◌≡◌, ◌≢◌, ℕ, false, List, [], Option, Some, option_map}
use Rattle.std.specs.Option.{option_to_list}
use Rattle.std.specs.Borrow.{Bor}
use Rattle.std.specs.List.{AllByRecursion}
use Rattle.rma_layout.specs.Shape.{Shape}
use Rattle.rma_layout.specs.Ranges.{refusal_of}
use Rattle.command_words.specs.Items.{Text, Item, begins_with_dash, values_of}
use Rattle.command_words.specs.Commands.{load_options, ArePlainValues, AreChosen, HasNumbers, HasSource}
use Rattle.command_words.specs.declared.source.Source.{Source}
use Rattle.command_words.specs.declared.sizes.Sizes.{Sizes}
use Rattle.command_words.specs.declared.usage.UsageKind.{UsageKind}
use Rattle.command_words.specs.declared.usage.UsageKind.TheVariants as usage

-- the one value of an option, if there is one
abbrev pub listed : Option (Bor Text) → List Text
listed value = option_to_list (option_map (λ text. text.now) value)

abbrev pub Sources : List Item → Source → Type 0
Sources items source = ArePlainValues load_options items × HasSource items source

abbrev pub SourceRefused : List Item → UsageKind → Type 0
SourceRefused items usage.Command = ⊥
SourceRefused items usage.Words = ¬ ArePlainValues load_options items
SourceRefused items usage.Number = ArePlainValues load_options items × ((shape : Shape) → ¬ HasNumbers items shape)
SourceRefused items (usage.Geometry bad) = ArePlainValues load_options items × ((shape : Shape) × HasNumbers items shape × (refusal_of shape ≡ Some bad))

-- the numbers that five options give, as they are held
abbrev pub AreSizes : Sizes → Shape → Type 0
AreSizes sizes shape = AreChosen (listed sizes.ranks) (listed sizes.blocks) (listed sizes.words) (listed sizes.buckets) (listed sizes.slots) shape

abbrev pub GeometryRefused : Sizes → UsageKind → Type 0
GeometryRefused sizes usage.Command = ⊥
GeometryRefused sizes usage.Words = ⊥
GeometryRefused sizes usage.Number = (shape : Shape) → ¬ AreSizes sizes shape
GeometryRefused sizes (usage.Geometry bad) = (shape : Shape) × AreSizes sizes shape × (refusal_of shape ≡ Some bad)

abbrev pub IsPlain : List ℕ → Type 0
IsPlain value = begins_with_dash value ≡ false

abbrev pub IsFile : List ℕ → Type 0
IsFile value = (begins_with_dash value ≡ false) × (value ≢ [])

abbrev pub ArePlainSizes : Sizes → Type 0
ArePlainSizes sizes =
    AllByRecursion IsPlain (listed sizes.ranks) × AllByRecursion IsPlain (listed sizes.blocks) × AllByRecursion IsPlain (listed sizes.words)
    × AllByRecursion IsPlain (listed sizes.buckets) × AllByRecursion IsPlain (listed sizes.slots)

abbrev pub AreValues : List Text → List Text → Sizes → Type 0
AreValues vertices edges sizes = AllByRecursion IsFile vertices × AllByRecursion IsFile edges × ArePlainSizes sizes
