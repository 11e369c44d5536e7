-- The names of a command line, as far as a command may want them.
use Rattle.std.specs.Prelude.{◌≡◌, ◌≢◌, ◌<◌, ℕ, List, [], ◌∷◌, length}
use Rattle.std.specs.List.{AllByRecursion}
use Rattle.command_words.specs.Items.{Text}
use Rattle.command_words.specs.declared.values.Names.{Names}
use Rattle.command_words.specs.declared.values.Names.TheVariants.{Nothing, One, Two, More}

abbrev pub AreNames : List Text → Names → Type 0
AreNames names Nothing = names ≡ []
AreNames names (One name) = names ≡ name.now ∷ []
AreNames names (Two first second) = names ≡ first.now ∷ second.now ∷ []
AreNames names More = 2 < length names

-- so many names of files, none of them empty
abbrev pub AreFiles : ℕ → List Text → Type 0
AreFiles count names = (length names ≡ count) × AllByRecursion (λ name. name ≢ []) names
