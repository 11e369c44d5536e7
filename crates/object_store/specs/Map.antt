-- The map behind contents: its keys are the words that name the objects.
use Rattle.std.specs.Prelude.{ℕ, List, [], ◌∷◌}
use Rattle.object_words.specs.Chains.{place_of}
use Rattle.object_words.specs.Contents.{Contents}

abbrev pub contents_in : List (ℕ × List ℕ) → Contents
contents_in [] = []
contents_in (one ∷ more) = (place_of one.0, one.1) ∷ contents_in more
