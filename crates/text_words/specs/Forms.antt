-- What stands behind a line's first word, and where a word is wrong there.
use Rattle.std.specs.Prelude.{◌≡◌, ◌≢◌, ℕ, ◌^◌, ◌<◌, List, [], ◌∷◌, map, codes, ◌⊎◌}
use Rattle.std.specs.List.{AllByRecursion}
use Rattle.std.specs.Fmt.{decimal}
use Rattle.std.specs.Borrow.{Bor}
use Rattle.gdi_kinds.specs.Names.{IsName}
use Rattle.gdi_kinds.specs.declared.value.Value.{Value}
use Rattle.gdi_kinds.specs.declared.value.Kind.{Kind}
use Rattle.gdi_kinds.specs.declared.call.Dir.{Dir}
use Rattle.gdi_kinds.specs.declared.constraint.Op.{Op}
use Rattle.text_words.specs.declared.wrong.Wrong.{Wrong}
use Rattle.text_words.specs.declared.wrong.Wrong.TheVariants as wrong
use Rattle.text_words.specs.Spelling.{Part, text_of, IsPart, value_text, IsValue, kind_text, dir_text, op_text}

-- the words that bytes lie behind
abbrev pub texts : List (Bor (List ℕ)) → List (List ℕ)
texts words = map (λ w. w.now) words

-- what a word stands for
pub data Sort : Type 0 where
  an_id : Sort
  a_name : Sort
  a_value : Sort
  a_kind : Sort
  a_dir : Sort
  an_op : Sort
  a_scope : Sort

-- What follows in a line. `atoms` is an atom of a constraint and what follows it, and `joint` what may follow an atom.
pub data Form : Type 0 where
  ends : Form
  may_mark : Form
  may_label : Form
  may_test : Form
  atoms : Form
  joint : Form
  then : Sort → Form → Form

-- whether a word may stand for something of a sort, spelled well or not
abbrev pub MayStand : Sort → List ℕ → Type 0
MayStand a_kind w = (k : Kind) × (w ≡ kind_text k)
MayStand a_dir w = (d : Dir) × (w ≡ dir_text d)
MayStand an_op w = (o : Op) × (w ≡ op_text o)
MayStand sort w = w ≢ []

-- whether words are of a form, spelled well or not
abbrev pub HasForm : Form → List (List ℕ) → Type 0
HasForm ends words = words ≡ []
HasForm may_mark words = (words ≡ []) ⊎ (words ≡ codes "many" ∷ [])
HasForm may_label [] = Unit {0}
HasForm may_label (w ∷ words) = (w ≢ []) × (words ≡ [])
HasForm may_test [] = Unit {0}
HasForm may_test (w ∷ words) = (w ≡ codes "where") × HasForm atoms words
HasForm atoms [] = ⊥
HasForm atoms (w ∷ words) =
    (((w ≡ codes "has") ⊎ (w ≡ codes "lacks")) × HasForm (then a_name joint) words)
    ⊎ ((w ≡ codes "prop") × HasForm (then a_name (then an_op (then a_value joint))) words)
HasForm joint [] = Unit {0}
HasForm joint (w ∷ words) = ((w ≡ codes "and") ⊎ (w ≡ codes "or")) × HasForm atoms words
HasForm (then sort form) [] = ⊥
HasForm (then sort form) (w ∷ words) = MayStand sort w × HasForm form words

-- whether a word is spelled well
abbrev pub IsSpelled : Sort → List ℕ → Type 0
IsSpelled an_id w = (n : ℕ) × (n < 2 ^ 64) × (w ≡ decimal n)
IsSpelled a_name w = IsName w
IsSpelled a_value w = (v : Value) × IsValue v × (w ≡ value_text v)
IsSpelled a_scope w = (w ≡ codes "*") ⊎ IsName w
IsSpelled sort w = Unit {0}

abbrev pub wrong_at : Sort → Wrong
wrong_at an_id = wrong.Number
wrong_at a_value = wrong.Value
wrong_at sort = wrong.Name

-- the word is misspelled, and this is told of it
pub record IsMisspelled (sort : Sort) (w : List ℕ) (told : Wrong) : Type 0 where
  pub misspelled : ¬ IsSpelled sort w
  pub is : told ≡ wrong_at sort

-- what is told holds, unless it is want of memory
abbrev pub OrMemory : (Wrong → Type 0) → Wrong → Type 0
OrMemory P wrong.NoMemory = Unit {0}
OrMemory P told = P told

-- what is wrong with the leftmost word that is misspelled, where the words are of the form
abbrev pub FirstWrong : Form → List (List ℕ) → Wrong → Type 0
FirstWrong ends words told = ⊥
FirstWrong may_mark words told = ⊥
FirstWrong may_label [] told = ⊥
FirstWrong may_label (w ∷ words) told = IsMisspelled a_name w told
FirstWrong may_test [] told = ⊥
FirstWrong may_test (w ∷ words) told = FirstWrong atoms words told
FirstWrong atoms [] told = ⊥
FirstWrong atoms (w ∷ words) told =
    ((w ≢ codes "prop") × FirstWrong (then a_name joint) words told)
    ⊎ ((w ≡ codes "prop") × FirstWrong (then a_name (then an_op (then a_value joint))) words told)
FirstWrong joint [] told = ⊥
FirstWrong joint (w ∷ words) told = FirstWrong atoms words told
FirstWrong (then sort form) [] told = ⊥
FirstWrong (then sort form) (w ∷ words) told = IsMisspelled sort w told ⊎ (IsSpelled sort w × FirstWrong form words told)

-- what is wrong with the words behind a call's word
abbrev pub IsWrong : Form → List (List ℕ) → Wrong → Type 0
IsWrong form words told = ((told ≡ wrong.Form) × (¬ HasForm form words)) ⊎ (HasForm form words × FirstWrong form words told)

-- the word is the spelling of the part, which is of the sort
pub record IsRead (sort : Sort) (w : List ℕ) (part : Part) : Type 0 where
  pub text : w ≡ text_of part
  pub fits : IsPart part
  pub spelled : IsSpelled sort w

-- the words are the spelling of the parts
pub record AreSpelled (words : List (List ℕ)) (parts : List Part) : Type 0 where
  pub texts : words ≡ map text_of parts
  pub fit : AllByRecursion IsPart parts
