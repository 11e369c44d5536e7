-- What is in the objects of a window: a map from objects to words, in which an object that is absent is empty.
use Rattle.std.specs.Prelude.{◌≡◌, ℕ, List, [], ◌∷◌, Option, Some, Bool, true, false}
use Rattle.std.specs.Option.{unwrap_or}
use Rattle.std.specs.Ordering.{ordering_then, nat_cmp}
use Rattle.std.specs.declared.cmp.Ordering.{Ordering}
use Rattle.std.specs.FinMap.{find, put, is_sorted}
use Rattle.rma_layout.specs.Placement.{Place}

-- by rank, and then by block
abbrev pub place_cmp : Place → Place → Ordering
place_cmp p q = ordering_then (nat_cmp p.rank q.rank) (nat_cmp p.block q.block)

-- objects with their words, by rising object
abbrev pub Contents : Type 0
Contents = List (Place × List ℕ)

-- the words that stand at an object, if any do
abbrev pub words_at : Contents → Place → Option (List ℕ)
words_at contents object = find place_cmp object contents

-- the words of an object; one that is absent is empty
abbrev pub content_of : Contents → Place → List ℕ
content_of contents object = unwrap_or (words_at contents object) []

abbrev pub with_words : Contents → Place → List ℕ → Contents
with_words contents object words = put place_cmp object words contents

-- these contents with those put over them
abbrev pub overlay : Contents → Contents → Contents
overlay contents [] = contents
overlay contents (one ∷ more) = overlay (with_words contents one.0 one.1) more

abbrev pub is_empty : List ℕ → Bool
is_empty [] = true
is_empty (w ∷ ws) = false

-- every object that was read has in these contents the words that were read
abbrev pub Agrees : Contents → Contents → Type 0
Agrees reads contents = (object : Place) (words : List ℕ) → words_at reads object ≡ Some words → content_of contents object ≡ words

-- each object has the same words in both, also where one lists an empty object that the other leaves out
abbrev pub IsSameContents : Contents → Contents → Type 0
IsSameContents one other = (object : Place) → content_of one object ≡ content_of other object

-- the objects rise, so that each stands once
abbrev pub IsByRisingObject : Contents → Type 0
IsByRisingObject contents = is_sorted place_cmp contents ≡ true
