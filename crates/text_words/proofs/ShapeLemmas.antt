-- The parts of a line that is well formed: their texts are words of the line's form, none is misspelled, and they are no other's.
use Rattle.std.proofs.Common.{◌≡◌, ◌≢◌, ℕ, suc, ◌^◌, ◌<◌, Bool, true, false, List, [], ◌∷◌, ◌++◌, map, length, Option, Some, None, refl, sym, ap, subst, ◌∙◌, ◌⊎◌, inl, inr, append_assoc, arith}
use Rattle.std.specs.Prelude.{codes, pos, negsuc}
use Rattle.std.specs.List.{AllByRecursion}
use Rattle.std.specs.Fmt.{decimal}
use Rattle.std.specs.Str.{IsUtf8}
use Rattle.std.proofs.lemmas.Bool.{false≢true}
use Rattle.std.proofs.lemmas.Fmt.{decimal_injective, decimal_nonempty}
use Rattle.gdi_kinds.specs.Names.{IsName}
use Rattle.gdi_kinds.specs.declared.value.Value.{Value}
use Rattle.gdi_kinds.specs.declared.value.Value.TheVariants as value
use Rattle.gdi_kinds.specs.declared.value.Kind.{Kind}
use Rattle.gdi_kinds.specs.declared.value.Kind.TheVariants as kind
use Rattle.gdi_kinds.specs.declared.call.Dir.{Dir}
use Rattle.gdi_kinds.specs.declared.call.Dir.TheVariants as dir
use Rattle.gdi_kinds.specs.declared.constraint.Op.{Op}
use Rattle.gdi_kinds.specs.declared.constraint.Op.TheVariants as op
use Rattle.gdi_kinds.specs.declared.constraint.Atom.{Atom}
use Rattle.gdi_kinds.specs.declared.constraint.Atom.TheVariants as atom
use Rattle.text_words.specs.declared.wrong.Wrong.{Wrong}
use Rattle.text_words.specs.Spelling.{value_text, IsValue, kind_text, dir_text, op_text, Part, word, number, name, constant, text_of, IsPart, label_parts, scope_part, atom_parts, alternative_parts, behind, test_parts, many_parts, HasAtoms}
use Rattle.text_words.specs.Words.{IsLineWord}
use Rattle.text_words.specs.Forms.{Sort, an_id, a_name, a_value, a_kind, a_dir, an_op, a_scope, Form, ends, may_mark, may_label, may_test, atoms, joint, then, MayStand, HasForm, IsSpelled, FirstWrong}
use Rattle.text_words.proofs.ValueLemmas.{no_digit, no_digit_quote, heads_differ, same_text}
use Rattle.text_words.proofs.PlainLemmas.{IsPlain, plain_is_word, plain_is_utf8, number_is_plain, name_is_plain, value_is_word, value_is_utf8}

-- the part is of the sort
abbrev pub IsOfSort : Sort → Part → Type 0
IsOfSort an_id (number n) = Unit {0}
IsOfSort a_name (name bytes) = Unit {0}
IsOfSort a_value (constant v) = Unit {0}
IsOfSort a_kind (word w) = (k : Kind) × (w ≡ kind_text k)
IsOfSort a_dir (word w) = (d : Dir) × (w ≡ dir_text d)
IsOfSort an_op (word w) = (o : Op) × (w ≡ op_text o)
IsOfSort a_scope (word w) = w ≡ codes "*"
IsOfSort a_scope (name bytes) = Unit {0}
IsOfSort sort part = ⊥

-- the parts are of the form, as words are
abbrev pub HasShape : Form → List Part → Type 0
HasShape ends parts = parts ≡ []
HasShape may_mark [] = Unit {0}
HasShape may_mark (p ∷ parts) = (p ≡ word (codes "many")) × (parts ≡ [])
HasShape may_label [] = Unit {0}
HasShape may_label (p ∷ parts) = IsOfSort a_name p × (parts ≡ [])
HasShape may_test [] = Unit {0}
HasShape may_test (p ∷ parts) = (p ≡ word (codes "where")) × HasShape atoms parts
HasShape atoms [] = ⊥
HasShape atoms (p ∷ parts) =
    (((p ≡ word (codes "has")) ⊎ (p ≡ word (codes "lacks"))) × HasShape (then a_name joint) parts)
    ⊎ ((p ≡ word (codes "prop")) × HasShape (then a_name (then an_op (then a_value joint))) parts)
HasShape joint [] = Unit {0}
HasShape joint (p ∷ parts) = ((p ≡ word (codes "and")) ⊎ (p ≡ word (codes "or"))) × HasShape atoms parts
HasShape (then sort form) [] = ⊥
HasShape (then sort form) (p ∷ parts) = IsOfSort sort p × HasShape form parts

-- ---- one part

pub value_same : (u v : Value) → IsValue u → IsValue v → value_text u ≡ value_text v → u ≡ v
value_same (value.Int (pos m)) (value.Int (pos n)) a b same = ap (λ (k : ℕ). value.Int (pos k)) (decimal_injective m n (omega (arith, a)) (omega (arith, b)) same)
value_same (value.Int (pos m)) (value.Int (negsuc n)) a b same = absurd (no_digit 45 m (decimal (suc n)) (omega (arith, a)) refl same)
value_same (value.Int (negsuc m)) (value.Int (pos n)) a b same = absurd (no_digit 45 n (decimal (suc m)) (omega (arith, b)) refl (sym same))
value_same (value.Int (negsuc m)) (value.Int (negsuc n)) a b same =
    let e : decimal (suc m) ≡ decimal (suc n) = cc in
    let k : suc m ≡ suc n = decimal_injective (suc m) (suc n) (omega (arith, a)) (omega (arith, b)) e in
    let l : m ≡ n = omega arith in
    ap (λ (i : ℕ). value.Int (negsuc i)) l
value_same (value.Int (pos m)) (value.Bool true) a b same = absurd (no_digit 116 m _ (omega (arith, a)) refl same)
value_same (value.Int (pos m)) (value.Bool false) a b same = absurd (no_digit 102 m _ (omega (arith, a)) refl same)
value_same (value.Int (negsuc m)) (value.Bool true) a b same = absurd (heads_differ 45 116 _ _ refl same)
value_same (value.Int (negsuc m)) (value.Bool false) a b same = absurd (heads_differ 45 102 _ _ refl same)
value_same (value.Int n) (value.Text t) a b same = absurd (no_digit_quote n _ a (sym same))
value_same (value.Bool true) (value.Int (pos n)) a b same = absurd (no_digit 116 n _ (omega (arith, b)) refl (sym same))
value_same (value.Bool false) (value.Int (pos n)) a b same = absurd (no_digit 102 n _ (omega (arith, b)) refl (sym same))
value_same (value.Bool true) (value.Int (negsuc n)) a b same = absurd (heads_differ 116 45 _ _ refl same)
value_same (value.Bool false) (value.Int (negsuc n)) a b same = absurd (heads_differ 102 45 _ _ refl same)
value_same (value.Bool true) (value.Bool true) a b same = refl
value_same (value.Bool true) (value.Bool false) a b same = absurd (heads_differ 116 102 _ _ refl same)
value_same (value.Bool false) (value.Bool true) a b same = absurd (heads_differ 102 116 _ _ refl same)
value_same (value.Bool false) (value.Bool false) a b same = refl
value_same (value.Bool true) (value.Text t) a b same = absurd (heads_differ 116 34 _ _ refl same)
value_same (value.Bool false) (value.Text t) a b same = absurd (heads_differ 102 34 _ _ refl same)
value_same (value.Text s) (value.Int n) a b same = absurd (no_digit_quote n _ b same)
value_same (value.Text s) (value.Bool true) a b same = absurd (heads_differ 34 116 _ _ refl same)
value_same (value.Text s) (value.Bool false) a b same = absurd (heads_differ 34 102 _ _ refl same)
value_same (value.Text s) (value.Text t) a b same = ap value.Text (same_text s t [] [] (cc)).0

-- `*` is no name
not_star : (w bytes : List ℕ) → w ≡ codes "*" → IsName bytes → w ≢ bytes
not_star w bytes star is same = false≢true (subst IsName (sym same ∙ star) is)

-- one text is no other part's
part_same : (sort : Sort) (p q : Part) → IsOfSort sort p → IsOfSort sort q → IsPart p → IsPart q → text_of p ≡ text_of q → p ≡ q
part_same an_id (number m) (number n) a b fits also same = ap number (decimal_injective m n fits also same)
part_same a_name (name v) (name w) a b fits also same = ap name same
part_same a_value (constant u) (constant v) a b fits also same = ap constant (value_same u v fits also same)
part_same a_kind (word v) (word w) a b fits also same = ap word same
part_same a_dir (word v) (word w) a b fits also same = ap word same
part_same an_op (word v) (word w) a b fits also same = ap word same
part_same a_scope (word v) (word w) a b fits also same = ap word same
part_same a_scope (name v) (name w) a b fits also same = ap name same
part_same a_scope (word v) (name w) a b fits also same = absurd (not_star v w a also same)
part_same a_scope (name v) (word w) a b fits also same = absurd (not_star w v b fits (sym same))
part_same an_id (number m) (word w) a b fits also same = absurd b
part_same an_id (number m) (name w) a b fits also same = absurd b
part_same an_id (number m) (constant w) a b fits also same = absurd b
part_same a_name (name m) (word w) a b fits also same = absurd b
part_same a_name (name m) (number w) a b fits also same = absurd b
part_same a_name (name m) (constant w) a b fits also same = absurd b
part_same a_value (constant m) (word w) a b fits also same = absurd b
part_same a_value (constant m) (number w) a b fits also same = absurd b
part_same a_value (constant m) (name w) a b fits also same = absurd b
part_same a_kind (word m) (number w) a b fits also same = absurd b
part_same a_kind (word m) (name w) a b fits also same = absurd b
part_same a_kind (word m) (constant w) a b fits also same = absurd b
part_same a_dir (word m) (number w) a b fits also same = absurd b
part_same a_dir (word m) (name w) a b fits also same = absurd b
part_same a_dir (word m) (constant w) a b fits also same = absurd b
part_same an_op (word m) (number w) a b fits also same = absurd b
part_same an_op (word m) (name w) a b fits also same = absurd b
part_same an_op (word m) (constant w) a b fits also same = absurd b
part_same a_scope (word m) (number w) a b fits also same = absurd b
part_same a_scope (word m) (constant w) a b fits also same = absurd b
part_same a_scope (name m) (number w) a b fits also same = absurd b
part_same a_scope (name m) (constant w) a b fits also same = absurd b
part_same sort p q a b fits also same = absurd a

-- a part is a word of a line
pub record IsGoodWord (w : List ℕ) : Type 0 where
  pub is : IsLineWord w
  pub some : w ≢ []
  pub utf8 : IsUtf8 w

plain_is_good : (b : ℕ) (w : List ℕ) → IsPlain (b ∷ w) → IsGoodWord (b ∷ w)
plain_is_good b w plain = record { is = plain_is_word (b ∷ w) plain; some = λ none. absurd (cc); utf8 = plain_is_utf8 (b ∷ w) plain }

number_some : (n : ℕ) → n < 2 ^ 64 → decimal n ≢ []
number_some n lt none = let some = decimal_nonempty n lt in absurd (omega (arith, ap length none))

value_some : (v : Value) → IsValue v → value_text v ≢ []
value_some (value.Int (pos n)) fits none = number_some n (omega (arith, fits)) none
value_some (value.Int (negsuc n)) fits none = absurd (cc)
value_some (value.Bool true) fits none = absurd (cc)
value_some (value.Bool false) fits none = absurd (cc)
value_some (value.Text t) fits none = absurd (cc)

name_some : (w : List ℕ) → IsName w → w ≢ []
name_some [] is none = false≢true is
name_some (b ∷ w) is none = absurd (cc)

kind_is_good : (k : Kind) → IsGoodWord (kind_text k)
kind_is_good kind.Int = plain_is_good _ _ refl
kind_is_good kind.Bool = plain_is_good _ _ refl
kind_is_good kind.Text = plain_is_good _ _ refl

dir_is_good : (d : Dir) → IsGoodWord (dir_text d)
dir_is_good dir.Outward = plain_is_good _ _ refl
dir_is_good dir.Inward = plain_is_good _ _ refl
dir_is_good dir.Undirected = plain_is_good _ _ refl
dir_is_good dir.Either = plain_is_good _ _ refl

op_is_good : (o : Op) → IsGoodWord (op_text o)
op_is_good op.Eq = plain_is_good _ _ refl
op_is_good op.Ne = plain_is_good _ _ refl
op_is_good op.Lt = plain_is_good _ _ refl
op_is_good op.Le = plain_is_good _ _ refl
op_is_good op.Gt = plain_is_good _ _ refl
op_is_good op.Ge = plain_is_good _ _ refl

number_is_good : (n : ℕ) → n < 2 ^ 64 → IsGoodWord (decimal n)
number_is_good n lt = record { is = plain_is_word (decimal n) (number_is_plain n lt); some = number_some n lt; utf8 = plain_is_utf8 (decimal n) (number_is_plain n lt) }

name_is_good : (w : List ℕ) → IsName w → IsGoodWord w
name_is_good w is = record { is = plain_is_word w (name_is_plain w is); some = name_some w is; utf8 = plain_is_utf8 w (name_is_plain w is) }

value_is_good : (v : Value) → IsValue v → IsGoodWord (value_text v)
value_is_good v is = record { is = value_is_word v is; some = value_some v is; utf8 = value_is_utf8 v is }

part_is_good : (sort : Sort) (p : Part) → IsOfSort sort p → IsPart p → IsGoodWord (text_of p)
part_is_good an_id (number n) of fits = number_is_good n fits
part_is_good a_name (name w) of fits = name_is_good w fits
part_is_good a_value (constant v) of fits = value_is_good v fits
part_is_good a_kind (word w) of fits = subst IsGoodWord (sym of.1) (kind_is_good of.0)
part_is_good a_dir (word w) of fits = subst IsGoodWord (sym of.1) (dir_is_good of.0)
part_is_good an_op (word w) of fits = subst IsGoodWord (sym of.1) (op_is_good of.0)
part_is_good a_scope (word w) of fits = subst IsGoodWord (sym of) (plain_is_good _ _ refl)
part_is_good a_scope (name w) of fits = name_is_good w fits
part_is_good sort p of fits = absurd of

part_may_stand : (sort : Sort) (p : Part) → IsOfSort sort p → IsPart p → MayStand sort (text_of p)
part_may_stand an_id (number n) of fits = number_some n fits
part_may_stand a_name (name w) of fits = name_some w fits
part_may_stand a_value (constant v) of fits = value_some v fits
part_may_stand a_kind (word w) of fits = of
part_may_stand a_dir (word w) of fits = of
part_may_stand an_op (word w) of fits = of
part_may_stand a_scope (word w) of fits = λ none. let e : codes "*" ≡ [] = sym of ∙ none in absurd (cc)
part_may_stand a_scope (name w) of fits = name_some w fits
part_may_stand sort p of fits = absurd of

part_is_spelled : (sort : Sort) (p : Part) → IsOfSort sort p → IsPart p → IsSpelled sort (text_of p)
part_is_spelled an_id (number n) of fits = (n, fits, refl)
part_is_spelled a_name (name w) of fits = fits
part_is_spelled a_value (constant v) of fits = (v, fits, refl)
part_is_spelled a_kind (word w) of fits = tt
part_is_spelled a_dir (word w) of fits = tt
part_is_spelled an_op (word w) of fits = tt
part_is_spelled a_scope (word w) of fits = inl of
part_is_spelled a_scope (name w) of fits = inr fits
part_is_spelled sort p of fits = absurd of

-- ---- all parts of a line

abbrev words_of : List Part → List (List ℕ)
words_of parts = map text_of parts

nothing : {A : Type 0} (x : A) (xs : List A) → x ∷ xs ≢ []
nothing x xs same = absurd (cc)

-- the words that a constraint begins and goes on with
fixed : (p : Part) (w : List ℕ) → p ≡ word w → text_of p ≡ w
fixed p w is = ap text_of is

no_prop : (p q : Part) → (p ≡ word (codes "has")) ⊎ (p ≡ word (codes "lacks")) → q ≡ word (codes "prop") → text_of p ≢ text_of q
no_prop p q (inl x) y t = heads_differ 104 112 _ _ refl (sym (fixed p _ x) ∙ t ∙ fixed q _ y)
no_prop p q (inr x) y t = heads_differ 108 112 _ _ refl (sym (fixed p _ x) ∙ t ∙ fixed q _ y)

-- where the words are of two lines of the form, the parts are the same
pub shape_same : (form : Form) (ps qs : List Part) → HasShape form ps → HasShape form qs → AllByRecursion IsPart ps → AllByRecursion IsPart qs → words_of ps ≡ words_of qs → ps ≡ qs
shape_same form [] [] a b fit also same = refl
shape_same form [] (q ∷ qs) a b fit also same = absurd (cc)
shape_same form (p ∷ ps) [] a b fit also same = absurd (cc)
shape_same ends (p ∷ ps) (q ∷ qs) a b fit also same = absurd (nothing p ps a)
shape_same may_mark (p ∷ ps) (q ∷ qs) a b fit also same = let e : p ≡ q = a.0 ∙ sym b.0 in let r : ps ≡ qs = a.1 ∙ sym b.1 in cc
shape_same may_label (p ∷ ps) (q ∷ qs) a b fit also same =
    let e : p ≡ q = part_same a_name p q a.0 b.0 fit.0 also.0 (cc) in
    let r : ps ≡ qs = a.1 ∙ sym b.1 in
    cc
shape_same may_test (p ∷ ps) (q ∷ qs) a b fit also same =
    let e : p ≡ q = a.0 ∙ sym b.0 in
    let r : ps ≡ qs = shape_same atoms ps qs a.1 b.1 fit.1 also.1 (cc) in
    cc
shape_same joint (p ∷ ps) (q ∷ qs) a b fit also same =
    let e : p ≡ q = joints_same (a.0) (b.0) (cc) in
    let r : ps ≡ qs = shape_same atoms ps qs a.1 b.1 fit.1 also.1 (cc) in
    cc
  where
    joints_same : (p ≡ word (codes "and")) ⊎ (p ≡ word (codes "or")) → (q ≡ word (codes "and")) ⊎ (q ≡ word (codes "or")) → text_of p ≡ text_of q → p ≡ q
    joints_same (inl x) (inl y) t = x ∙ sym y
    joints_same (inr x) (inr y) t = x ∙ sym y
    joints_same (inl x) (inr y) t = absurd (heads_differ 97 111 _ _ refl (sym (fixed p _ x) ∙ t ∙ fixed q _ y))
    joints_same (inr x) (inl y) t = absurd (heads_differ 111 97 _ _ refl (sym (fixed p _ x) ∙ t ∙ fixed q _ y))
shape_same atoms (p ∷ ps) (q ∷ qs) (inl a) (inl b) fit also same =
    let e : p ≡ q = openers_same (a.0) (b.0) (cc) in
    let r : ps ≡ qs = shape_same (then a_name joint) ps qs a.1 b.1 fit.1 also.1 (cc) in
    cc
  where
    openers_same : (p ≡ word (codes "has")) ⊎ (p ≡ word (codes "lacks")) → (q ≡ word (codes "has")) ⊎ (q ≡ word (codes "lacks")) → text_of p ≡ text_of q → p ≡ q
    openers_same (inl x) (inl y) t = x ∙ sym y
    openers_same (inr x) (inr y) t = x ∙ sym y
    openers_same (inl x) (inr y) t = absurd (heads_differ 104 108 _ _ refl (sym (fixed p _ x) ∙ t ∙ fixed q _ y))
    openers_same (inr x) (inl y) t = absurd (heads_differ 108 104 _ _ refl (sym (fixed p _ x) ∙ t ∙ fixed q _ y))
shape_same atoms (p ∷ ps) (q ∷ qs) (inr a) (inr b) fit also same =
    let e : p ≡ q = a.0 ∙ sym b.0 in
    let r : ps ≡ qs = shape_same (then a_name (then an_op (then a_value joint))) ps qs a.1 b.1 fit.1 also.1 (cc) in
    cc
shape_same atoms (p ∷ ps) (q ∷ qs) (inl a) (inr b) fit also same = absurd (no_prop p q (a.0) b.0 (cc))
shape_same atoms (p ∷ ps) (q ∷ qs) (inr a) (inl b) fit also same = absurd (no_prop q p (b.0) a.0 (sym (cc)))
shape_same (then sort form) (p ∷ ps) (q ∷ qs) a b fit also same =
    let e : p ≡ q = part_same sort p q a.0 b.0 fit.0 also.0 (cc) in
    let r : ps ≡ qs = shape_same form ps qs a.1 b.1 fit.1 also.1 (cc) in
    cc

-- the words are of the form
pub shape_has_form : (form : Form) (ps : List Part) → HasShape form ps → AllByRecursion IsPart ps → HasForm form (words_of ps)
shape_has_form ends [] shape fit = refl
shape_has_form ends (p ∷ ps) shape fit = absurd (nothing p ps shape)
shape_has_form may_mark [] shape fit = inl refl
shape_has_form may_mark (p ∷ ps) shape fit =
    let first = fixed p _ shape.0 in
    let rest : words_of ps ≡ [] = ap words_of shape.1 in
    inr (cc)
shape_has_form may_label [] shape fit = tt
shape_has_form may_label (p ∷ ps) shape fit = (part_may_stand a_name p shape.0 fit.0, ap words_of shape.1)
shape_has_form may_test [] shape fit = tt
shape_has_form may_test (p ∷ ps) shape fit = (fixed p _ shape.0, shape_has_form atoms ps shape.1 fit.1)
shape_has_form joint [] shape fit = tt
shape_has_form joint (p ∷ ps) shape fit = (elim (shape.0) [ inl x ↦ inl (fixed p _ x) | inr x ↦ inr (fixed p _ x) ], shape_has_form atoms ps shape.1 fit.1)
shape_has_form atoms [] shape fit = absurd shape
shape_has_form atoms (p ∷ ps) (inl a) fit = inl (elim (a.0) [ inl x ↦ inl (fixed p _ x) | inr x ↦ inr (fixed p _ x) ], shape_has_form (then a_name joint) ps a.1 fit.1)
shape_has_form atoms (p ∷ ps) (inr a) fit = inr (fixed p _ a.0, shape_has_form (then a_name (then an_op (then a_value joint))) ps a.1 fit.1)
shape_has_form (then sort form) [] shape fit = absurd shape
shape_has_form (then sort form) (p ∷ ps) shape fit = (part_may_stand sort p shape.0 fit.0, shape_has_form form ps shape.1 fit.1)

-- no word is misspelled
pub shape_is_right : (form : Form) (ps : List Part) (told : Wrong) → HasShape form ps → AllByRecursion IsPart ps → ¬ FirstWrong form (words_of ps) told
shape_is_right ends ps told shape fit wrong = wrong
shape_is_right may_mark ps told shape fit wrong = wrong
shape_is_right may_label [] told shape fit wrong = wrong
shape_is_right may_label (p ∷ ps) told shape fit wrong = wrong.misspelled (part_is_spelled a_name p shape.0 fit.0)
shape_is_right may_test [] told shape fit wrong = wrong
shape_is_right may_test (p ∷ ps) told shape fit wrong = shape_is_right atoms ps told shape.1 fit.1 wrong
shape_is_right joint [] told shape fit wrong = wrong
shape_is_right joint (p ∷ ps) told shape fit wrong = shape_is_right atoms ps told shape.1 fit.1 wrong
shape_is_right atoms [] told shape fit wrong = wrong
shape_is_right atoms (p ∷ ps) told (inl a) fit (inl wrong) = shape_is_right (then a_name joint) ps told a.1 fit.1 wrong.1
shape_is_right atoms (p ∷ ps) told (inl a) fit (inr wrong) = no_prop p (word (codes "prop")) (a.0) refl wrong.0
shape_is_right atoms (p ∷ ps) told (inr a) fit (inl wrong) = wrong.0 (fixed p _ a.0)
shape_is_right atoms (p ∷ ps) told (inr a) fit (inr wrong) = shape_is_right (then a_name (then an_op (then a_value joint))) ps told a.1 fit.1 wrong.1
shape_is_right (then sort form) [] told shape fit wrong = wrong
shape_is_right (then sort form) (p ∷ ps) told shape fit (inl wrong) = wrong.misspelled (part_is_spelled sort p shape.0 fit.0)
shape_is_right (then sort form) (p ∷ ps) told shape fit (inr wrong) = shape_is_right form ps told shape.1 fit.1 wrong.1

fixed_is_good : (p : Part) (w : List ℕ) → p ≡ word w → IsGoodWord w → IsGoodWord (text_of p)
fixed_is_good p w is good = subst IsGoodWord (sym (fixed p w is)) good

none_is_good : (ps : List Part) → ps ≡ [] → AllByRecursion IsGoodWord (words_of ps)
none_is_good ps none = subst (λ (qs : List Part). AllByRecursion IsGoodWord (words_of qs)) (sym none) tt

-- each is a word of a line
pub shape_is_good : (form : Form) (ps : List Part) → HasShape form ps → AllByRecursion IsPart ps → AllByRecursion IsGoodWord (words_of ps)
shape_is_good form [] shape fit = tt
shape_is_good ends (p ∷ ps) shape fit = absurd (nothing p ps shape)
shape_is_good may_mark (p ∷ ps) shape fit = (fixed_is_good p _ shape.0 (plain_is_good _ _ refl), none_is_good ps shape.1)
shape_is_good may_label (p ∷ ps) shape fit = (part_is_good a_name p shape.0 fit.0, none_is_good ps shape.1)
shape_is_good may_test (p ∷ ps) shape fit = (fixed_is_good p _ shape.0 (plain_is_good _ _ refl), shape_is_good atoms ps shape.1 fit.1)
shape_is_good joint (p ∷ ps) shape fit = (
  elim (shape.0) [ inl x ↦ fixed_is_good p _ x (plain_is_good _ _ refl) | inr x ↦ fixed_is_good p _ x (plain_is_good _ _ refl) ],
  shape_is_good atoms ps shape.1 fit.1,
)
shape_is_good atoms (p ∷ ps) (inl a) fit = (
  elim (a.0) [ inl x ↦ fixed_is_good p _ x (plain_is_good _ _ refl) | inr x ↦ fixed_is_good p _ x (plain_is_good _ _ refl) ],
  shape_is_good (then a_name joint) ps a.1 fit.1,
)
shape_is_good atoms (p ∷ ps) (inr a) fit = (fixed_is_good p _ a.0 (plain_is_good _ _ refl), shape_is_good (then a_name (then an_op (then a_value joint))) ps a.1 fit.1)
shape_is_good (then sort form) (p ∷ ps) shape fit = (part_is_good sort p shape.0 fit.0, shape_is_good form ps shape.1 fit.1)

-- ---- what may be left out

pub mark_shape : (many : Bool) → HasShape may_mark (many_parts many)
mark_shape true = (refl, refl)
mark_shape false = tt

pub label_shape : (label : Option (List ℕ)) → HasShape may_label (label_parts label)
label_shape None = tt
label_shape (Some label) = (tt, refl)

pub scope_sort : (label : Option (List ℕ)) → IsOfSort a_scope (scope_part label)
scope_sort None = refl
scope_sort (Some label) = tt

atom_shape : (a : Atom) (rest : List Part) → HasShape joint rest → HasShape atoms (atom_parts a ++ rest)
atom_shape (atom.Has label) rest shape = inl (inl refl, (tt, shape))
atom_shape (atom.Lacks label) rest shape = inl (inr refl, (tt, shape))
atom_shape (atom.Prop prop o v) rest shape = inr (refl, (tt, ((o, refl), (tt, shape))))

behind_atoms : (xs : List Atom) (rest : List Part) → HasShape joint rest → HasShape joint (behind (codes "and") atom_parts xs ++ rest)
behind_atoms [] rest shape = shape
behind_atoms (a ∷ xs) rest shape = (
  inl refl,
  subst (HasShape atoms) (sym (append_assoc (atom_parts a) (behind (codes "and") atom_parts xs) rest)) (atom_shape a (behind (codes "and") atom_parts xs ++ rest) (behind_atoms xs rest shape)),
)

alternative_shape : (xs : List Atom) (rest : List Part) → 0 < length xs → HasShape joint rest → HasShape atoms (alternative_parts xs ++ rest)
alternative_shape [] rest some shape = absurd (omega arith)
alternative_shape (a ∷ xs) rest some shape =
    subst (HasShape atoms) (sym (append_assoc (atom_parts a) (behind (codes "and") atom_parts xs) rest)) (atom_shape a (behind (codes "and") atom_parts xs ++ rest) (behind_atoms xs rest shape))

behind_alternatives : (test : List (List Atom)) → AllByRecursion (λ (xs : List Atom). 0 < length xs) test → HasShape joint (behind (codes "or") alternative_parts test)
behind_alternatives [] all = tt
behind_alternatives (xs ∷ test) all = (inr refl, alternative_shape xs (behind (codes "or") alternative_parts test) all.0 (behind_alternatives test all.1))

pub test_shape : (test : Option (List (List Atom))) → HasAtoms test → HasShape may_test (test_parts test)
test_shape None has = tt
test_shape (Some []) has = absurd (omega arith)
test_shape (Some (xs ∷ test)) has = (refl, alternative_shape xs (behind (codes "or") alternative_parts test) has.1.0 (behind_alternatives test has.1.1))
