-- Words of a form of which none is misspelled are the texts of parts, and these parts are of something.
use Rattle.std.proofs.Common.{◌≡◌, ◌≢◌, ℕ, zero, suc, ◌≤◌, ◌<◌, Bool, true, false, List, [], ◌∷◌, ◌++◌, map, length, Option, Some, None, refl, sym, ap, subst, ◌∙◌, ◌⊎◌, inl, inr, append_assoc, arith}
use Rattle.std.specs.Prelude.{codes}
use Rattle.std.specs.List.{AllByRecursion}
use Rattle.gdi_kinds.specs.declared.value.Value.{Value}
use Rattle.gdi_kinds.specs.declared.value.Kind.{Kind}
use Rattle.gdi_kinds.specs.declared.call.Dir.{Dir}
use Rattle.gdi_kinds.specs.declared.constraint.Op.{Op}
use Rattle.gdi_kinds.specs.declared.constraint.Atom.{Atom}
use Rattle.gdi_kinds.specs.declared.constraint.Atom.TheVariants as atom
use Rattle.text_words.specs.declared.wrong.Wrong.{Wrong}
use Rattle.text_words.specs.declared.wrong.Wrong.TheVariants as wrong
use Rattle.text_words.specs.Spelling.{kind_text, dir_text, op_text, Part, word, number, name, constant, text_of, IsPart, label_parts, scope_part, atom_parts, alternative_parts, behind, test_parts, many_parts, HasAtoms}
use Rattle.text_words.specs.Forms.{Sort, an_id, a_name, a_value, a_kind, a_dir, an_op, a_scope, Form, ends, may_mark, may_label, may_test, atoms, joint, then, MayStand, HasForm, IsSpelled, FirstWrong, wrong_at}
use Rattle.text_words.proofs.ValueLemmas.{heads_differ}
use Rattle.text_words.proofs.ShapeLemmas.{IsOfSort, HasShape}

-- ---- from words to parts

-- the part whose text a well spelled word is
record IsPartOf (sort : Sort) (w : List ℕ) : Type 0 where
  part : Part
  sorted : IsOfSort sort part
  fits : IsPart part
  text : w ≡ text_of part

part_of : (sort : Sort) (w : List ℕ) → MayStand sort w → IsSpelled sort w → IsPartOf sort w
part_of an_id w may is = record { part = number is.0; sorted = tt; fits = is.1; text = is.2 }
part_of a_name w may is = record { part = name w; sorted = tt; fits = is; text = refl }
part_of a_value w may is = record { part = constant is.0; sorted = tt; fits = is.1; text = is.2 }
part_of a_kind w may is = record { part = word w; sorted = may; fits = tt; text = refl }
part_of a_dir w may is = record { part = word w; sorted = may; fits = tt; text = refl }
part_of an_op w may is = record { part = word w; sorted = may; fits = tt; text = refl }
part_of a_scope w may (inl star) = record { part = word w; sorted = star; fits = tt; text = refl }
part_of a_scope w may (inr is) = record { part = name w; sorted = tt; fits = is; text = refl }

-- the parts whose texts words of a form are
pub record AreParts (form : Form) (words : List (List ℕ)) : Type 0 where
  pub parts : List Part
  pub shape : HasShape form parts
  pub fit : AllByRecursion IsPart parts
  pub texts : words ≡ map text_of parts

-- a fixed word in front
word_first : (form more : Form) (w : List ℕ) (words : List (List ℕ)) (are : AreParts more words) → HasShape form (word w ∷ are.parts) → AreParts form (w ∷ words)
word_first form more w words are shape = record { parts = word w ∷ are.parts; shape = shape; fit = (tt, are.fit); texts = ap (λ (x : List (List ℕ)). w ∷ x) are.texts }

no_prop : (w : List ℕ) → (w ≡ codes "has") ⊎ (w ≡ codes "lacks") → w ≢ codes "prop"
no_prop w (inl has) prop = heads_differ 104 112 _ _ refl (sym has ∙ prop)
no_prop w (inr lacks) prop = heads_differ 108 112 _ _ refl (sym lacks ∙ prop)

opener_part : (w : List ℕ) → (w ≡ codes "has") ⊎ (w ≡ codes "lacks") → (word w ≡ word (codes "has")) ⊎ (word w ≡ word (codes "lacks"))
opener_part w (inl has) = inl (ap word has)
opener_part w (inr lacks) = inr (ap word lacks)

joint_part : (w : List ℕ) → (w ≡ codes "and") ⊎ (w ≡ codes "or") → (word w ≡ word (codes "and")) ⊎ (word w ≡ word (codes "or"))
joint_part w (inl has) = inl (ap word has)
joint_part w (inr lacks) = inr (ap word lacks)

-- where words have a form and none is misspelled, it isn't so that they are the texts of no parts
pub found : (form : Form) (words : List (List ℕ)) → HasForm form words → ((told : Wrong) → ¬ FirstWrong form words told) → (AreParts form words → ⊥) → ⊥
found ends words has right none = none (record { parts = []; shape = refl; fit = tt; texts = has })
found may_mark [] has right none = none (record { parts = []; shape = tt; fit = tt; texts = refl })
found may_mark (w ∷ words) (inl is) right none = let e : w ∷ words ≡ [] = is in absurd (cc)
found may_mark (w ∷ words) (inr is) right none = none (record { parts = word (codes "many") ∷ []; shape = (refl, refl); fit = (tt, tt); texts = is })
found may_label [] has right none = none (record { parts = []; shape = tt; fit = tt; texts = refl })
found may_label (w ∷ words) has right none =
    right wrong.Name (record { misspelled = λ is. none (record { parts = name w ∷ []; shape = (tt, refl); fit = (is, tt); texts = ap (λ (x : List (List ℕ)). w ∷ x) has.1 }); is = refl })
found may_test [] has right none = none (record { parts = []; shape = tt; fit = tt; texts = refl })
found may_test (w ∷ words) has right none = found atoms words has.1 right (λ are. none (word_first may_test atoms w words are (ap word has.0, are.shape)))
found atoms [] has right none = has
found atoms (w ∷ words) (inl a) right none =
    found (then a_name joint) words a.1 (λ told first. right told (inl (no_prop w a.0, first))) (λ are. none (word_first atoms (then a_name joint) w words are (inl (opener_part w a.0, are.shape))))
found atoms (w ∷ words) (inr a) right none =
    found (then a_name (then an_op (then a_value joint))) words a.1 (λ told first. right told (inr (a.0, first)))
    (λ are. none (word_first atoms (then a_name (then an_op (then a_value joint))) w words are (inr (ap word a.0, are.shape))))
found joint [] has right none = none (record { parts = []; shape = tt; fit = tt; texts = refl })
found joint (w ∷ words) has right none = found atoms words has.1 right (λ are. none (word_first joint atoms w words are (joint_part w has.0, are.shape)))
found (then sort form) [] has right none = has
found (then sort form) (w ∷ words) has right none =
    right (wrong_at sort) (inl (record {
      misspelled = λ spelled. found form words has.1 (λ told first. right told (inr (spelled, first))) (λ are.
          let p = part_of sort w has.0 spelled in
          none (record {
            parts = p.part ∷ are.parts;
            shape = (p.sorted, are.shape);
            fit = (p.fits, are.fit);
            texts = ap (λ (x : List ℕ). x ∷ words) p.text ∙ ap (λ (x : List (List ℕ)). text_of p.part ∷ x) are.texts;
          }));
      is = refl;
    }))

-- ---- from parts to what they are of

pub with_end : (P : List Part → Type 0) → P [] → (parts : List Part) → HasShape ends parts → P parts
with_end P here parts shape = subst P (sym shape) here

pub with_id : (form : Form) (P : List Part → Type 0) → ((n : ℕ) (rest : List Part) → HasShape form rest → P (number n ∷ rest)) → (parts : List Part) → HasShape (then an_id form) parts → P parts
with_id form P to [] shape = absurd shape
with_id form P to (number n ∷ rest) shape = to n rest shape.1
with_id form P to (word w ∷ rest) shape = absurd shape.0
with_id form P to (name w ∷ rest) shape = absurd shape.0
with_id form P to (constant v ∷ rest) shape = absurd shape.0

pub with_name : (form : Form) (P : List Part → Type 0) → ((n : List ℕ) (rest : List Part) → HasShape form rest → P (name n ∷ rest)) → (parts : List Part) → HasShape (then a_name form) parts → P parts
with_name form P to [] shape = absurd shape
with_name form P to (name n ∷ rest) shape = to n rest shape.1
with_name form P to (word w ∷ rest) shape = absurd shape.0
with_name form P to (number n ∷ rest) shape = absurd shape.0
with_name form P to (constant v ∷ rest) shape = absurd shape.0

pub with_value : (form : Form) (P : List Part → Type 0) → ((v : Value) (rest : List Part) → HasShape form rest → P (constant v ∷ rest)) → (parts : List Part) → HasShape (then a_value form) parts → P parts
with_value form P to [] shape = absurd shape
with_value form P to (constant v ∷ rest) shape = to v rest shape.1
with_value form P to (word w ∷ rest) shape = absurd shape.0
with_value form P to (number n ∷ rest) shape = absurd shape.0
with_value form P to (name n ∷ rest) shape = absurd shape.0

pub with_kind : (form : Form) (P : List Part → Type 0) → ((k : Kind) (rest : List Part) → HasShape form rest → P (word (kind_text k) ∷ rest)) → (parts : List Part) → HasShape (then a_kind form) parts → P parts
with_kind form P to [] shape = absurd shape
with_kind form P to (word w ∷ rest) shape = subst (λ (x : List ℕ). P (word x ∷ rest)) (sym shape.0.1) (to shape.0.0 rest shape.1)
with_kind form P to (constant v ∷ rest) shape = absurd shape.0
with_kind form P to (number n ∷ rest) shape = absurd shape.0
with_kind form P to (name n ∷ rest) shape = absurd shape.0

pub with_dir : (form : Form) (P : List Part → Type 0) → ((d : Dir) (rest : List Part) → HasShape form rest → P (word (dir_text d) ∷ rest)) → (parts : List Part) → HasShape (then a_dir form) parts → P parts
with_dir form P to [] shape = absurd shape
with_dir form P to (word w ∷ rest) shape = subst (λ (x : List ℕ). P (word x ∷ rest)) (sym shape.0.1) (to shape.0.0 rest shape.1)
with_dir form P to (constant v ∷ rest) shape = absurd shape.0
with_dir form P to (number n ∷ rest) shape = absurd shape.0
with_dir form P to (name n ∷ rest) shape = absurd shape.0

pub with_op : (form : Form) (P : List Part → Type 0) → ((o : Op) (rest : List Part) → HasShape form rest → P (word (op_text o) ∷ rest)) → (parts : List Part) → HasShape (then an_op form) parts → P parts
with_op form P to [] shape = absurd shape
with_op form P to (word w ∷ rest) shape = subst (λ (x : List ℕ). P (word x ∷ rest)) (sym shape.0.1) (to shape.0.0 rest shape.1)
with_op form P to (constant v ∷ rest) shape = absurd shape.0
with_op form P to (number n ∷ rest) shape = absurd shape.0
with_op form P to (name n ∷ rest) shape = absurd shape.0

pub with_scope : (form : Form) (P : List Part → Type 0) → ((label : Option (List ℕ)) (rest : List Part) → HasShape form rest → P (scope_part label ∷ rest)) → (parts : List Part) → HasShape (then a_scope form) parts → P parts
with_scope form P to [] shape = absurd shape
with_scope form P to (word w ∷ rest) shape = subst (λ (x : List ℕ). P (word x ∷ rest)) (sym shape.0) (to None rest shape.1)
with_scope form P to (name n ∷ rest) shape = to (Some n) rest shape.1
with_scope form P to (constant v ∷ rest) shape = absurd shape.0
with_scope form P to (number n ∷ rest) shape = absurd shape.0

pub with_mark : (P : List Part → Type 0) → ((many : Bool) → P (many_parts many)) → (parts : List Part) → HasShape may_mark parts → P parts
with_mark P to [] shape = to false
with_mark P to (p ∷ parts) shape =
    let e : word (codes "many") ∷ [] ≡ p ∷ parts = ap (λ (x : Part). x ∷ []) (sym shape.0) ∙ ap (λ (x : List Part). p ∷ x) (sym shape.1) in
    subst P e (to true)

pub with_label : (P : List Part → Type 0) → ((label : Option (List ℕ)) → P (label_parts label)) → (parts : List Part) → HasShape may_label parts → P parts
with_label P to [] shape = to None
with_label P to (name n ∷ parts) shape = subst (λ (x : List Part). P (name n ∷ x)) (sym shape.1) (to (Some n))
with_label P to (word w ∷ parts) shape = absurd shape.0
with_label P to (number n ∷ parts) shape = absurd shape.0
with_label P to (constant v ∷ parts) shape = absurd shape.0

-- ---- constraints

abbrev HasSome : List Atom → Type 0
HasSome xs = 0 < length xs

-- the parts are an atom, those that follow it, and further alternatives
record AreAtoms (parts : List Part) : Type 0 where
  first : Atom
  more : List Atom
  test : List (List Atom)
  is : parts ≡ atom_parts first ++ (behind (codes "and") atom_parts more ++ behind (codes "or") alternative_parts test)
  some : AllByRecursion HasSome test

-- the parts go on with atoms and further alternatives
record AreJoined (parts : List Part) : Type 0 where
  more : List Atom
  test : List (List Atom)
  is : parts ≡ behind (codes "and") atom_parts more ++ behind (codes "or") alternative_parts test
  some : AllByRecursion HasSome test

with_and : (parts : List Part) → AreAtoms parts → AreJoined (word (codes "and") ∷ parts)
with_and parts a = record {
  more = a.first ∷ a.more;
  test = a.test;
  is = ap (λ (x : List Part). word (codes "and") ∷ x) (a.is ∙ sym (append_assoc (atom_parts a.first) (behind (codes "and") atom_parts a.more) (behind (codes "or") alternative_parts a.test)));
  some = a.some;
}

with_or : (parts : List Part) → AreAtoms parts → AreJoined (word (codes "or") ∷ parts)
with_or parts a = record {
  more = [];
  test = (a.first ∷ a.more) ∷ a.test;
  is = ap (λ (x : List Part). word (codes "or") ∷ x) (a.is ∙ sym (append_assoc (atom_parts a.first) (behind (codes "and") atom_parts a.more) (behind (codes "or") alternative_parts a.test)));
  some = (omega arith, a.some);
}

-- what may follow an atom, where atoms behind it are found
joined_from : (parts : List Part) → HasShape joint parts → ((more : List Part) → length more < length parts → HasShape atoms more → AreAtoms more) → AreJoined parts
joined_from [] shape atoms_in = record { more = []; test = []; is = refl; some = tt }
joined_from (p ∷ parts) shape atoms_in =
    let a = atoms_in parts (omega arith) shape.1 in
    elim (shape.0) [
      | inl is ↦ subst (λ (x : Part). AreJoined (x ∷ parts)) (sym is) (with_and parts a)
      | inr is ↦ subst (λ (x : Part). AreJoined (x ∷ parts)) (sym is) (with_or parts a)
    ]

with_atom : (a : Atom) (parts : List Part) → AreJoined parts → AreAtoms (atom_parts a ++ parts)
with_atom a parts j = record { first = a; more = j.more; test = j.test; is = ap (λ (x : List Part). atom_parts a ++ x) j.is; some = j.some }

-- parts of a known length
abbrev Short : ℕ → (List Part → Type 0) → List Part → Type 0
Short fuel P parts = length parts ≤ fuel → P parts

atoms_from : (fuel : ℕ) (parts : List Part) → length parts ≤ fuel → HasShape atoms parts → AreAtoms parts
atoms_from fuel [] le shape = absurd shape
atoms_from zero (p ∷ parts) le shape = absurd (omega arith)
atoms_from (suc fuel) (p ∷ parts) le (inl a) =
    with_name joint (λ (x : List Part). Short fuel (λ (y : List Part). AreAtoms (p ∷ y)) x) (λ n rest shape short.
    let j = joined_from rest shape (λ more less s. atoms_from fuel more (omega arith) s) in
    opened n rest j (a.0)) parts a.1 (omega arith)
  where
    opened : (n : List ℕ) (rest : List Part) → AreJoined rest → (p ≡ word (codes "has")) ⊎ (p ≡ word (codes "lacks")) → AreAtoms (p ∷ name n ∷ rest)
    opened n rest j (inl is) = subst (λ (x : Part). AreAtoms (x ∷ name n ∷ rest)) (sym is) (with_atom (atom.Has n) rest j)
    opened n rest j (inr is) = subst (λ (x : Part). AreAtoms (x ∷ name n ∷ rest)) (sym is) (with_atom (atom.Lacks n) rest j)
atoms_from (suc fuel) (p ∷ parts) le (inr a) =
    with_name (then an_op (then a_value joint)) (λ (x : List Part). Short fuel (λ (y : List Part). AreAtoms (p ∷ y)) x) (λ n behind_name s.
    with_op (then a_value joint) (λ (x : List Part). Short fuel (λ (y : List Part). AreAtoms (p ∷ y)) (name n ∷ x)) (λ o behind_op t.
    with_value joint (λ (x : List Part). Short fuel (λ (y : List Part). AreAtoms (p ∷ y)) (name n ∷ word (op_text o) ∷ x)) (λ v rest shape short.
    let j = joined_from rest shape (λ more less u. atoms_from fuel more (omega arith) u) in
    subst (λ (x : Part). AreAtoms (x ∷ name n ∷ word (op_text o) ∷ constant v ∷ rest)) (sym a.0) (with_atom (atom.Prop n o v) rest j)) behind_op t) behind_name s) parts a.1 (omega arith)

pub with_test : (P : List Part → Type 0) → ((test : Option (List (List Atom))) → HasAtoms test → P (test_parts test)) → (parts : List Part) → HasShape may_test parts → P parts
with_test P to [] shape = to None tt
with_test P to (p ∷ parts) shape =
    let a = atoms_from (length parts) parts (omega arith) shape.1 in
    let e : word (codes "where") ∷ ((atom_parts a.first ++ behind (codes "and") atom_parts a.more) ++ behind (codes "or") alternative_parts a.test) ≡ p ∷ parts =
    ap (λ (x : List Part). word (codes "where") ∷ x) (append_assoc (atom_parts a.first) (behind (codes "and") atom_parts a.more) (behind (codes "or") alternative_parts a.test) ∙ sym a.is)
    ∙ ap (λ (x : Part). x ∷ parts) (sym shape.0) in
    subst P e (to (Some ((a.first ∷ a.more) ∷ a.test)) (omega arith, (omega arith, a.some)))
