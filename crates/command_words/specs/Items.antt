-- What stands on a command line behind its command: options with their values, and names.
use Rattle.std.specs.Prelude.{◌≡◌, ℕ, ◌==◌, ◌&&◌, ◌||◌, not, Bool, true, false, List, [], ◌∷◌, ◌++◌, map, flat_map, if◌then◌else◌}
use Rattle.std.specs.List.{list_any}
use Rattle.std.specs.Str.{bytes_eq}

abbrev pub Text : Type 0
Text = List ℕ

pub data Item : Type 0 where
  -- an option, and its value
  Given : Text → Text → Item
  Named : Text → Item

-- `-` is byte 45
abbrev pub begins_with_dash : Text → Bool
begins_with_dash [] = false
begins_with_dash (byte ∷ bytes) = byte == 45

-- it begins with one `-` alone
abbrev pub is_short : Text → Bool
is_short [] = false
is_short (byte ∷ []) = byte == 45
is_short (byte ∷ next ∷ bytes) = byte == 45 && not (next == 45)

abbrev pub is_among : List Text → Text → Bool
is_among options name = list_any (λ option. bytes_eq option name) options

-- The words of items, for a command that has these options. An option is `--NAME` and its value behind it, or both in one
-- word with `=` (byte 61) between them. Behind `--` every word is a name.
pub data Spells (options : List Text) : List Text → List Item → Type 0 where
  none : Spells options [] []
  name : {word : Text} {words : List Text} {items : List Item} → begins_with_dash word ≡ false → Spells options words items
      → Spells options (word ∷ words) (Named word ∷ items)
  apart : {option value : Text} {words : List Text} {items : List Item} → is_among options option ≡ true → begins_with_dash value ≡ false
      → Spells options words items → Spells options ((45 ∷ 45 ∷ option) ∷ value ∷ words) (Given option value ∷ items)
  joined : {option value : Text} {words : List Text} {items : List Item} → is_among options option ≡ true
      → Spells options words items → Spells options ((45 ∷ 45 ∷ option ++ 61 ∷ value) ∷ words) (Given option value ∷ items)
  rest : {words : List Text} → Spells options ((45 ∷ 45 ∷ []) ∷ words) (map Named words)

abbrev pub value_at : Text → Item → List Text
value_at option (Given given value) = if bytes_eq given option then value ∷ [] else []
value_at option (Named word) = []

-- the values of an option, in their order
abbrev pub values_of : Text → List Item → List Text
values_of option items = flat_map (value_at option) items

abbrev pub name_at : Item → List Text
name_at (Given option value) = []
name_at (Named word) = word ∷ []

abbrev pub names_of : List Item → List Text
names_of items = flat_map name_at items

-- a word before `--` begins with one `-`
abbrev pub has_short : List Text → Bool
has_short [] = false
has_short (word ∷ words) = if bytes_eq word (45 ∷ 45 ∷ []) then false else (is_short word || has_short words)
