-- How a constraint is read, word by word and atom by atom.
use Rattle.std.specs.Prelude.{◌≡◌, ◌≢◌, ℕ, List, [], ◌∷◌, ◌++◌, map, codes}
use Rattle.std.specs.List.{AllByRecursion}
use Rattle.gdi_kinds.specs.declared.constraint.Atom.{Atom}
use Rattle.text_words.specs.declared.wrong.Wrong.{Wrong}
use Rattle.text_words.specs.declared.test_reader.Awaited.{Awaited}
use Rattle.text_words.specs.declared.test_reader.Awaited.TheVariants as awaited
use Rattle.text_words.specs.declared.test_reader.Opener.{Opener}
use Rattle.text_words.specs.declared.test_reader.Opener.TheVariants as opener
use Rattle.text_words.specs.Spelling.{text_of, atom_parts, IsPart}
use Rattle.text_words.specs.Forms.{Form, atoms, joint, then, a_name, an_op, a_value, HasForm, FirstWrong}

-- what follows where a word is awaited
abbrev pub form_at : Awaited → Form
form_at awaited.Atom = atoms
form_at awaited.Label = then a_name joint
form_at awaited.Prop = then a_name (then an_op (then a_value joint))
form_at awaited.Op = then an_op (then a_value joint)
form_at awaited.Value = then a_value joint
form_at awaited.Joint = joint

abbrev pub opener_text : Opener → List ℕ
opener_text opener.Has = codes "has"
opener_text opener.Lacks = codes "lacks"
opener_text opener.Prop = codes "prop"

-- the words begin with an atom, and these words follow it
pub record IsAtomRead (words : List (List ℕ)) (atom : Atom) (rest : List (List ℕ)) : Type 0 where
  pub texts : words ≡ map text_of (atom_parts atom) ++ rest
  pub fit : AllByRecursion IsPart (atom_parts atom)
  pub form : HasForm joint rest
  pub wrong : (told : Wrong) → FirstWrong joint rest told → FirstWrong atoms words told

-- behind an `or` the next alternative begins, and behind any other word the last one goes on
pub record AddsAtom (w : List ℕ) (atom : Atom) (test : List (List Atom)) (alternative : List Atom) (test_after : List (List Atom)) (alternative_after : List Atom) : Type 0 where
  pub next : w ≡ codes "or" → (test_after ≡ test ++ alternative ∷ []) × (alternative_after ≡ atom ∷ [])
  pub same : w ≢ codes "or" → (test_after ≡ test) × (alternative_after ≡ alternative ++ atom ∷ [])
