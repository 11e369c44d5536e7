-- The words of a line.
use Rattle.std.specs.Prelude.{◌≡◌, ◌≢◌, ℕ, Bool, true, false, List, [], ◌∷◌, ◌++◌, ◌⊎◌, Option, Some, None}
use Rattle.std.specs.List.{flat_map, AllByRecursion}
use Rattle.text_words.specs.Spelling.{quoted_byte}

-- no space is in it
abbrev pub HasNoSpace : List ℕ → Type 0
HasNoSpace bytes = AllByRecursion (λ (b : ℕ). b ≢ 32) bytes

-- a word that isn't quoted has no space and doesn't begin with a quote
abbrev pub IsUnquoted : List ℕ → Type 0
IsUnquoted [] = Unit {0}
IsUnquoted (byte ∷ bytes) = (byte ≢ 34) × HasNoSpace (byte ∷ bytes)

-- bytes between quotes, a quote and a backslash behind a backslash
abbrev pub IsQuoted : List ℕ → Type 0
IsQuoted w = (bytes : List ℕ) × (w ≡ 34 ∷ flat_map quoted_byte bytes ++ 34 ∷ [])

abbrev pub IsLineWord : List ℕ → Type 0
IsLineWord w = IsUnquoted w ⊎ IsQuoted w

-- what follows a word: nothing, or a space and this
abbrev pub IsBehind : List ℕ → Option (List ℕ) → Type 0
IsBehind rest None = rest ≡ []
IsBehind rest (Some next) = rest ≡ 32 ∷ next

-- a text up to its closing quote, and what follows it
abbrev pub IsClosed : List ℕ → List ℕ → Type 0
IsClosed quoted rest = (bytes : List ℕ) × (quoted ≡ flat_map quoted_byte bytes ++ 34 ∷ rest)

-- a line begins with a word, and this follows the space behind it, or nothing does
abbrev pub HasFirst : List ℕ → List ℕ → Option (List ℕ) → Type 0
HasFirst line w None = IsLineWord w × (line ≡ w)
HasFirst line w (Some rest) = IsLineWord w × (line ≡ w ++ 32 ∷ rest)

-- the bytes of a line up to its first space, and what follows that, where it has one
abbrev pub IsOpening : List ℕ → List ℕ → Option (List ℕ) → Type 0
IsOpening line w None = HasNoSpace w × (line ≡ w)
IsOpening line w (Some rest) = HasNoSpace w × (line ≡ w ++ 32 ∷ rest)

-- the words of a line, from the left
abbrev pub IsCut : List ℕ → List (List ℕ) → Type 0
IsCut line [] = ⊥
IsCut line (w ∷ []) = HasFirst line w None
IsCut line (w ∷ next ∷ words) = (rest : List ℕ) × HasFirst line w (Some rest) × IsCut rest (next ∷ words)

-- the line has these words, or it has none
abbrev pub IsCutOrNone : Bool → List ℕ → List (List ℕ) → Type 0
IsCutOrNone true line words = IsCut line words
IsCutOrNone false line words = (others : List (List ℕ)) → ¬ IsCut line others

-- the words behind the first space, where there is one
abbrev pub AreBehind : Option (List ℕ) → List (List ℕ) → Type 0
AreBehind None words = words ≡ []
AreBehind (Some rest) words = IsCut rest words
