-- Which words ask for which command, and why others are refused.
use Rattle.std.specs.Prelude.{◌≡◌, ◌≢◌, ◌⊎◌, ℕ, ◌<◌, ◌≤◌, ◌^◌, Bool, true, false, List, [], ◌∷◌, length, codes, Option, Some, None, option_map}
use Rattle.std.specs.List.{AllByRecursion}
use Rattle.std.specs.Option.{option_to_list}
use Rattle.std.specs.Fmt.{decimal}
use Rattle.rma_layout.specs.Shape.{Shape, standard_shape}
use Rattle.rma_layout.specs.Ranges.{refusal_of}
use Rattle.command_words.specs.Items.{Text, Item, is_among, begins_with_dash, Spells, values_of, names_of}
use Rattle.command_words.specs.declared.command.Command.{Command}
use Rattle.command_words.specs.declared.command.Command.TheVariants.{Run, Check, Report, Drill}
use Rattle.command_words.specs.declared.command.CommandName.{CommandName}
use Rattle.command_words.specs.declared.command.CommandName.TheVariants as named
use Rattle.command_words.specs.declared.source.Source.{Source}
use Rattle.command_words.specs.declared.usage.UsageKind.{UsageKind}
use Rattle.command_words.specs.declared.usage.UsageKind.TheVariants as usage
use Rattle.command_words.specs.declared.usage.WordsRefused.{WordsRefused}
use Rattle.command_words.specs.declared.usage.WordsRefused.TheVariants as refused

-- the options of a command that loads
abbrev pub load_options : List Text
load_options =
    codes "vertices" ∷ codes "edges" ∷ codes "ranks" ∷ codes "blocks" ∷ codes "words" ∷ codes "buckets" ∷ codes "slots" ∷ []

abbrev pub options_of : CommandName → List Text
options_of named.Run = load_options
options_of named.Check = load_options
options_of named.Report = load_options
options_of named.Drill = []

-- how many names follow
abbrev pub name_count : CommandName → ℕ
name_count named.Run = 1
name_count named.Check = 2
name_count named.Report = 0
name_count named.Drill = 2

-- the names are those of files, which aren't empty; those of a drill are numbers
abbrev pub ArePlain : CommandName → List Text → Type 0
ArePlain named.Drill names = Unit {0}
ArePlain command names = AllByRecursion (λ name. name ≢ []) names

-- the options whose values name files
abbrev pub file_options : List Text
file_options = codes "vertices" ∷ codes "edges" ∷ []

-- a value doesn't begin with `-`, and a file's name isn't empty
abbrev pub MayBeValue : Text → Text → Type 0
MayBeValue option value = (begins_with_dash value ≡ false) × (is_among file_options option ≡ true → value ≢ [])

abbrev pub ArePlainValues : List Text → List Item → Type 0
ArePlainValues options items = (option : Text) → is_among options option ≡ true → AllByRecursion (MayBeValue option) (values_of option items)

-- These items have the form of the command: each option once at the most, values as they may be, and as many names as
-- it wants, none of a file empty.
pub record HasForm (command : CommandName) (words : List Text) (items : List Item) : Type 0 where
  pub spelled : Spells (options_of command) words items
  pub once : (option : Text) → is_among (options_of command) option ≡ true → length (values_of option items) ≤ 1
  pub values : ArePlainValues (options_of command) items
  pub count : length (names_of items) ≡ name_count command
  pub names : ArePlain command (names_of items)

-- the text spells this number: decimal, with no sign and no leading zero, in 64 bits
abbrev pub IsNumber : Text → ℕ → Type 0
IsNumber text n = (text ≡ decimal n) × (n < 2 ^ 64)

-- an option's number, or the usual one where the option isn't given
abbrev pub IsChosen : List Text → ℕ → ℕ → Type 0
IsChosen [] usual n = n ≡ usual
IsChosen (text ∷ texts) usual n = IsNumber text n

-- the numbers that these texts give
pub record AreChosen (ranks blocks words buckets slots : List Text) (shape : Shape) : Type 0 where
  pub of_ranks : IsChosen ranks standard_shape.ranks shape.ranks
  pub of_blocks : IsChosen blocks standard_shape.blocks shape.blocks
  pub of_words : IsChosen words standard_shape.words shape.words
  pub of_buckets : IsChosen buckets standard_shape.buckets shape.buckets
  pub of_slots : IsChosen slots standard_shape.slots shape.slots

-- those of the options
abbrev pub HasNumbers : List Item → Shape → Type 0
HasNumbers items shape =
    AreChosen (values_of (codes "ranks") items) (values_of (codes "blocks") items) (values_of (codes "words") items) (values_of (codes "buckets") items)
    (values_of (codes "slots") items) shape

-- the load files and the geometry that the options give
pub record HasSource (items : List Item) (source : Source) : Type 0 where
  pub vertices : values_of (codes "vertices") items ≡ option_to_list (option_map (λ name. name.now) source.vertices)
  pub edges : values_of (codes "edges") items ≡ option_to_list (option_map (λ name. name.now) source.edges)
  pub numbers : HasNumbers items source.geometry
  pub fits : refusal_of source.geometry ≡ None

-- a drill's size is from 1 to 10,000
abbrev pub AreDrill : List Text → ℕ → ℕ → Type 0
AreDrill [] size seed = ⊥
AreDrill (first ∷ []) size seed = ⊥
AreDrill (first ∷ second ∷ []) size seed = IsNumber first size × IsNumber second seed × (1 ≤ size) × (size ≤ 10000)
AreDrill (first ∷ second ∷ more) size seed = ⊥

-- what the items ask for
abbrev pub IsAsked : CommandName → List Item → Command → Type 0
IsAsked named.Run items (Run source script) = HasSource items source × (names_of items ≡ script.now ∷ [])
IsAsked named.Check items (Check source script output) = HasSource items source × (names_of items ≡ script.now ∷ output.now ∷ [])
IsAsked named.Report items (Report source) = HasSource items source
IsAsked named.Drill items (Drill size seed) = AreDrill (names_of items) size seed
IsAsked command items other = ⊥

-- the words behind the command's own ask for this
abbrev pub Asks : CommandName → List Text → Command → Type 0
Asks command words asked = (items : List Item) × HasForm command words items × IsAsked command items asked

-- its numbers are none
abbrev pub HasBadNumber : CommandName → List Item → Type 0
HasBadNumber named.Drill items = (size seed : ℕ) → ¬ AreDrill (names_of items) size seed
HasBadNumber command items = (shape : Shape) → ¬ HasNumbers items shape

-- why the words are refused: they have no form; or they have, and a number is none; or the numbers make no geometry
abbrev pub IsRefused : CommandName → List Text → UsageKind → Type 0
IsRefused command words usage.Command = ⊥
IsRefused command words usage.Words = (items : List Item) → ¬ HasForm command words items
IsRefused command words usage.Number = (items : List Item) × HasForm command words items × HasBadNumber command items
IsRefused command words (usage.Geometry bad) =
    (items : List Item) × HasForm command words items × ((shape : Shape) × HasNumbers items shape × (refusal_of shape ≡ Some bad))

abbrev pub TellsWhy : CommandName → List Text → WordsRefused → Type 0
TellsWhy command words (refused.Usage kind) = IsRefused command words kind
TellsWhy command words refused.NoMemory = Unit {0}

-- the command that a word names
abbrev pub command_text : CommandName → Text
command_text named.Run = codes "run"
command_text named.Check = codes "check"
command_text named.Report = codes "report"
command_text named.Drill = codes "drill"
