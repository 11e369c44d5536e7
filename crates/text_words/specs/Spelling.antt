-- How values and constraints are spelled.
use Rattle.std.specs.Prelude.{ℕ, ◌^◌, ◌<◌, Bool, true, false, List, [], ◌∷◌, ◌++◌, length, sum_by, codes, Option, Some, None, FitsSigned, ◌||◌, ◌==◌, if◌then◌else◌}
use Rattle.std.specs.List.{flat_map, AllByRecursion}
use Rattle.std.specs.Int.{w64}
use Rattle.std.specs.Fmt.{decimal, signed_decimal}
use Rattle.gdi_kinds.specs.Names.{IsName}
use Rattle.gdi_kinds.specs.Texts.{IsText}
use Rattle.gdi_kinds.specs.declared.value.Value.{Value}
use Rattle.gdi_kinds.specs.declared.value.Value.TheVariants as value
use Rattle.gdi_kinds.specs.declared.value.Kind.{Kind}
use Rattle.gdi_kinds.specs.declared.value.Kind.TheVariants as kind
use Rattle.gdi_kinds.specs.declared.call.Dir.{Dir}
use Rattle.gdi_kinds.specs.declared.call.Dir.TheVariants.{Outward, Inward, Undirected, Either}
use Rattle.gdi_kinds.specs.declared.constraint.Op.{Op}
use Rattle.gdi_kinds.specs.declared.constraint.Op.TheVariants.{Eq, Ne, Lt, Le, Gt, Ge}
use Rattle.gdi_kinds.specs.declared.constraint.Atom.{Atom}
use Rattle.gdi_kinds.specs.declared.constraint.Atom.TheVariants as atom

-- a quote and a backslash are written behind a backslash
abbrev pub quoted_byte : ℕ → List ℕ
quoted_byte byte = if byte == 34 || byte == 92 then 92 ∷ byte ∷ [] else byte ∷ []

abbrev pub value_text : Value → List ℕ
value_text (value.Int n) = signed_decimal n
value_text (value.Bool true) = codes "true"
value_text (value.Bool false) = codes "false"
value_text (value.Text bytes) = 34 ∷ flat_map quoted_byte bytes ++ 34 ∷ []

abbrev pub IsValue : Value → Type 0
IsValue (value.Int n) = FitsSigned w64 n
IsValue (value.Bool b) = Unit {0}
IsValue (value.Text bytes) = IsText bytes

abbrev pub kind_text : Kind → List ℕ
kind_text kind.Int = codes "int"
kind_text kind.Bool = codes "bool"
kind_text kind.Text = codes "text"

abbrev pub dir_text : Dir → List ℕ
dir_text Outward = codes "out"
dir_text Inward = codes "in"
dir_text Undirected = codes "und"
dir_text Either = codes "any"

abbrev pub op_text : Op → List ℕ
op_text Eq = codes "="
op_text Ne = codes "<>"
op_text Lt = codes "<"
op_text Le = codes "<="
op_text Gt = codes ">"
op_text Ge = codes ">="

-- a word of a line, by what it stands for
pub data Part : Type 0 where
  word : List ℕ → Part
  number : ℕ → Part
  name : List ℕ → Part
  constant : Value → Part

abbrev pub text_of : Part → List ℕ
text_of (word bytes) = bytes
text_of (number n) = decimal n
text_of (name bytes) = bytes
text_of (constant v) = value_text v

-- whether a part is one that a line can have
abbrev pub IsPart : Part → Type 0
IsPart (word bytes) = Unit {0}
IsPart (number n) = n < 2 ^ 64
IsPart (name bytes) = IsName bytes
IsPart (constant v) = IsValue v

-- a label that may be left out
abbrev pub label_parts : Option (List ℕ) → List Part
label_parts None = []
label_parts (Some label) = name label ∷ []

-- a label, or `*` for every vertex
abbrev pub scope_part : Option (List ℕ) → Part
scope_part None = word (codes "*")
scope_part (Some label) = name label

abbrev pub atom_parts : Atom → List Part
atom_parts (atom.Has label) = word (codes "has") ∷ name label ∷ []
atom_parts (atom.Lacks label) = word (codes "lacks") ∷ name label ∷ []
atom_parts (atom.Prop prop op v) = word (codes "prop") ∷ name prop ∷ word (op_text op) ∷ constant v ∷ []

-- the rest of a list behind its first item: each item behind a word
abbrev pub behind : {A : Type 0} → List ℕ → (A → List Part) → List A → List Part
behind joint parts xs = flat_map (λ x. word joint ∷ parts x) xs

-- items with a word between each two
abbrev pub between : {A : Type 0} → List ℕ → (A → List Part) → List A → List Part
between joint parts [] = []
between joint parts (x ∷ xs) = parts x ++ behind joint parts xs

abbrev pub alternative_parts : List Atom → List Part
alternative_parts atoms = between (codes "and") atom_parts atoms

-- a constraint that may be left out
abbrev pub test_parts : Option (List (List Atom)) → List Part
test_parts None = []
test_parts (Some test) = word (codes "where") ∷ between (codes "or") alternative_parts test

abbrev pub many_parts : Bool → List Part
many_parts true = word (codes "many") ∷ []
many_parts false = []

-- a word behind a space
abbrev pub spaced : Part → List ℕ
spaced part = 32 ∷ text_of part

-- words with one space between each two
abbrev pub line_of_parts : List Part → List ℕ
line_of_parts [] = []
line_of_parts (first ∷ rest) = text_of first ++ flat_map spaced rest

abbrev pub atoms_in : Option (List (List Atom)) → ℕ
atoms_in None = 0
atoms_in (Some test) = sum_by length test

-- a constraint has an alternative, and each alternative an atom
abbrev pub HasAtoms : Option (List (List Atom)) → Type 0
HasAtoms None = Unit {0}
HasAtoms (Some test) = (0 < length test) × AllByRecursion (λ (atoms : List Atom). 0 < length atoms) test
