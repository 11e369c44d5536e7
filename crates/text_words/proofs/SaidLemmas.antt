-- What the parts of a line say: the way back from the parts to what they are spelled from.
use Rattle.std.proofs.Common.{◌≡◌, ℕ, Bool, true, false, cond, List, [], ◌∷◌, ◌++◌, Option, Some, None, refl, ap, ◌∙◌, append_assoc, arith}
use Rattle.std.specs.Prelude.{codes}
use Rattle.std.specs.Str.{bytes_eq}
use Rattle.std.proofs.lemmas.List.{append-nil}
use Rattle.gdi_kinds.specs.declared.value.Value.{Value}
use Rattle.gdi_kinds.specs.declared.value.Value.TheVariants as value
use Rattle.gdi_kinds.specs.declared.value.Kind.{Kind}
use Rattle.gdi_kinds.specs.declared.value.Kind.TheVariants as kind
use Rattle.gdi_kinds.specs.declared.call.Dir.{Dir}
use Rattle.gdi_kinds.specs.declared.call.Dir.TheVariants as dir
use Rattle.gdi_kinds.specs.declared.constraint.Op.{Op}
use Rattle.gdi_kinds.specs.declared.constraint.Op.TheVariants as op
use Rattle.gdi_kinds.specs.declared.constraint.Atom.{Atom}
use Rattle.gdi_kinds.specs.declared.constraint.Atom.TheVariants as atom
use Rattle.text_words.specs.Spelling.{kind_text, dir_text, Part, word, number, name, constant, label_parts, scope_part, atom_parts, alternative_parts, behind, test_parts, many_parts, HasAtoms}

-- ---- one part

abbrev pub number_in : Part → ℕ
number_in (number n) = n
number_in part = 0

abbrev pub name_in : Part → List ℕ
name_in (name bytes) = bytes
name_in part = []

abbrev pub value_in : Part → Value
value_in (constant v) = v
value_in part = value.Bool true

abbrev pub bytes_in : Part → List ℕ
bytes_in (word bytes) = bytes
bytes_in part = []

abbrev pub kind_in : Part → Kind
kind_in part = cond (bytes_eq (bytes_in part) (codes "int")) kind.Int (cond (bytes_eq (bytes_in part) (codes "bool")) kind.Bool kind.Text)

abbrev pub dir_in : Part → Dir
dir_in part = cond (bytes_eq (bytes_in part) (codes "out")) dir.Outward (cond (bytes_eq (bytes_in part) (codes "in")) dir.Inward (cond (bytes_eq (bytes_in part) (codes "und")) dir.Undirected dir.Either))

abbrev pub scope_in : Part → Option (List ℕ)
scope_in (name bytes) = Some bytes
scope_in part = None

abbrev pub label_in : List Part → Option (List ℕ)
label_in [] = None
label_in (part ∷ parts) = Some (name_in part)

abbrev pub mark_in : List Part → Bool
mark_in [] = false
mark_in (part ∷ parts) = true

pub kind_said : (k : Kind) → kind_in (word (kind_text k)) ≡ k
kind_said kind.Int = refl
kind_said kind.Bool = refl
kind_said kind.Text = refl

pub dir_said : (d : Dir) → dir_in (word (dir_text d)) ≡ d
dir_said dir.Outward = refl
dir_said dir.Inward = refl
dir_said dir.Undirected = refl
dir_said dir.Either = refl

pub scope_said : (label : Option (List ℕ)) → scope_in (scope_part label) ≡ label
scope_said None = refl
scope_said (Some label) = refl

pub label_said : (label : Option (List ℕ)) → label_in (label_parts label) ≡ label
label_said None = refl
label_said (Some label) = refl

pub mark_said : (many : Bool) → mark_in (many_parts many) ≡ many
mark_said true = refl
mark_said false = refl

-- ---- a constraint, from its last word on

abbrev op_in : List ℕ → Op
op_in w = cond (bytes_eq w (codes "=")) op.Eq (cond (bytes_eq w (codes "<>")) op.Ne (cond (bytes_eq w (codes "<")) op.Lt (cond (bytes_eq w (codes "<=")) op.Le (cond (bytes_eq w (codes ">")) op.Gt op.Ge))))

-- what words say that stand behind: the last name, comparison and value, the atoms up to the next `or`, and the alternatives behind it
record Said : Type 0 where
  label : List ℕ
  op : Op
  constant : Value
  atoms : List Atom
  others : List (List Atom)

abbrev with_word : List ℕ → Said → Said
with_word w said =
    cond (bytes_eq w (codes "has")) (record said { atoms = atom.Has said.label ∷ said.atoms })
    (cond (bytes_eq w (codes "lacks")) (record said { atoms = atom.Lacks said.label ∷ said.atoms })
    (cond (bytes_eq w (codes "prop")) (record said { atoms = atom.Prop said.label said.op said.constant ∷ said.atoms })
    (cond (bytes_eq w (codes "or")) (record said { atoms = []; others = said.atoms ∷ said.others })
    (cond (bytes_eq w (codes "and")) said (record said { op = op_in w })))))

abbrev with_part : Part → Said → Said
with_part (word w) said = with_word w said
with_part (number n) said = said
with_part (name bytes) said = record said { label = bytes }
with_part (constant v) said = record said { constant = v }

abbrev said_by : List Part → Said
said_by [] = record { label = []; op = op.Eq; constant = value.Bool true; atoms = []; others = [] }
said_by (part ∷ parts) = with_part part (said_by parts)

-- atoms in front of what is said behind
record Says (parts : List Part) (front : List Atom) (others : List (List Atom)) : Type 0 where
  atoms : (said_by parts).atoms ≡ front
  rest : (said_by parts).others ≡ others

atom_said : (a : Atom) (rest : List Part) (front : List Atom) (others : List (List Atom)) → Says rest front others → Says (atom_parts a ++ rest) (a ∷ front) others
atom_said (atom.Has label) rest front others says = record { atoms = ap (λ (xs : List Atom). atom.Has label ∷ xs) says.atoms; rest = says.rest }
atom_said (atom.Lacks label) rest front others says = record { atoms = ap (λ (xs : List Atom). atom.Lacks label ∷ xs) says.atoms; rest = says.rest }
atom_said (atom.Prop prop op.Eq v) rest front others says = record { atoms = ap (λ (xs : List Atom). atom.Prop prop op.Eq v ∷ xs) says.atoms; rest = says.rest }
atom_said (atom.Prop prop op.Ne v) rest front others says = record { atoms = ap (λ (xs : List Atom). atom.Prop prop op.Ne v ∷ xs) says.atoms; rest = says.rest }
atom_said (atom.Prop prop op.Lt v) rest front others says = record { atoms = ap (λ (xs : List Atom). atom.Prop prop op.Lt v ∷ xs) says.atoms; rest = says.rest }
atom_said (atom.Prop prop op.Le v) rest front others says = record { atoms = ap (λ (xs : List Atom). atom.Prop prop op.Le v ∷ xs) says.atoms; rest = says.rest }
atom_said (atom.Prop prop op.Gt v) rest front others says = record { atoms = ap (λ (xs : List Atom). atom.Prop prop op.Gt v ∷ xs) says.atoms; rest = says.rest }
atom_said (atom.Prop prop op.Ge v) rest front others says = record { atoms = ap (λ (xs : List Atom). atom.Prop prop op.Ge v ∷ xs) says.atoms; rest = says.rest }

says_along : (parts more : List Part) (front : List Atom) (others : List (List Atom)) → parts ≡ more → Says more front others → Says parts front others
says_along parts more front others same says = record { atoms = ap (λ (ps : List Part). (said_by ps).atoms) same ∙ says.atoms; rest = ap (λ (ps : List Part). (said_by ps).others) same ∙ says.rest }

and_said : (xs : List Atom) (rest : List Part) (front : List Atom) (others : List (List Atom)) → Says rest front others → Says (behind (codes "and") atom_parts xs ++ rest) (xs ++ front) others
and_said [] rest front others says = says
and_said (a ∷ xs) rest front others says =
    let more = atom_said a (behind (codes "and") atom_parts xs ++ rest) (xs ++ front) others (and_said xs rest front others says) in
    let here = says_along _ _ (a ∷ xs ++ front) others (append_assoc (atom_parts a) (behind (codes "and") atom_parts xs) rest) more in
    record { atoms = here.atoms; rest = here.rest }

alternative_said : (xs : List Atom) (rest : List Part) (others : List (List Atom)) → Says rest [] others → Says (alternative_parts xs ++ rest) xs others
alternative_said [] rest others says = says
alternative_said (a ∷ xs) rest others says =
    let more = atom_said a (behind (codes "and") atom_parts xs ++ rest) (xs ++ []) others (and_said xs rest [] others says) in
    let here = says_along _ _ (a ∷ xs ++ []) others (append_assoc (atom_parts a) (behind (codes "and") atom_parts xs) rest) more in
    record { atoms = here.atoms ∙ ap (λ (ys : List Atom). a ∷ ys) (append-nil xs); rest = here.rest }

or_said : (test : List (List Atom)) → Says (behind (codes "or") alternative_parts test) [] test
or_said [] = record { atoms = refl; rest = refl }
or_said (xs ∷ test) =
    let more = alternative_said xs (behind (codes "or") alternative_parts test) test (or_said test) in
    record { atoms = refl; rest = ap (λ (ys : List Atom). ys ∷ (said_by (alternative_parts xs ++ behind (codes "or") alternative_parts test)).others) more.atoms ∙ ap (λ (ts : List (List Atom)). xs ∷ ts) more.rest }

abbrev pub test_in : List Part → Option (List (List Atom))
test_in [] = None
test_in (part ∷ parts) = Some ((said_by parts).atoms ∷ (said_by parts).others)

pub test_said : (test : Option (List (List Atom))) → HasAtoms test → test_in (test_parts test) ≡ test
test_said None has = refl
test_said (Some []) has = absurd (omega arith)
test_said (Some (xs ∷ test)) has =
    let says = alternative_said xs (behind (codes "or") alternative_parts test) test (or_said test) in
    ap (λ (ys : List Atom). Some (ys ∷ (said_by (alternative_parts xs ++ behind (codes "or") alternative_parts test)).others)) says.atoms
    ∙ ap (λ (ts : List (List Atom)). Some (xs ∷ ts)) says.rest
