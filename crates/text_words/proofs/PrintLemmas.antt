-- Values and words are printed without control bytes, and so a line ends at the LF behind it.
use Rattle.std.proofs.Common.{◌≡◌, ◌≢◌, ℕ, suc, ◌^◌, ◌<◌, Bool, true, false, eqb, List, [], ◌∷◌, ◌++◌, Option, Some, None, refl, sym, ap, subst, ◌∙◌, arith, inl, inr}
use Rattle.std.specs.Prelude.{codes, ◌&&◌, pos, negsuc}
use Rattle.std.specs.List.{flat_map, list_all, AllByRecursion}
use Rattle.std.specs.Fmt.{decimal}
use Rattle.std.specs.Str.Parse.{AllDigits}
use Rattle.std.proofs.lemmas.Bool.{false≢true, cond-false, ne_eqb}
use Rattle.std.proofs.lemmas.Bool.Decides.{nat_tests}
use Rattle.std.proofs.lemmas.List.Folds.{list_all-append}
use Rattle.std.proofs.lemmas.Fmt.{decimal_is_IsNumeral}
use Rattle.std.proofs.lemmas.Str.Parse.{tells_digits}
use Rattle.gdi_kinds.specs.Names.{IsName, continues_name, begins_name}
use Rattle.gdi_kinds.specs.Texts.{is_printable}
use Rattle.gdi_kinds.specs.declared.value.Value.{Value}
use Rattle.gdi_kinds.specs.declared.value.Value.TheVariants as value
use Rattle.gdi_kinds.specs.declared.value.Kind.{Kind}
use Rattle.gdi_kinds.specs.declared.value.Kind.TheVariants as kind
use Rattle.gdi_kinds.specs.declared.call.Dir.{Dir}
use Rattle.gdi_kinds.specs.declared.call.Dir.TheVariants as dir
use Rattle.gdi_kinds.specs.declared.constraint.Op.{Op}
use Rattle.gdi_kinds.specs.declared.constraint.Op.TheVariants as op
use Rattle.gdi_kinds.specs.declared.constraint.Atom.{Atom}
use Rattle.gdi_kinds.specs.declared.constraint.Atom.TheVariants as atom
use Rattle.text_words.specs.Lines.{lines_of, before_first}
use Rattle.text_words.specs.Spelling.{quoted_byte, value_text, IsValue, kind_text, dir_text, op_text, Part, word, number, name, constant, text_of, IsPart, label_parts, scope_part, atom_parts, alternative_parts, behind, between, test_parts, many_parts, spaced, line_of_parts}
use Rattle.text_words.proofs.ValueLemmas.{quoted_cases}

-- no byte is a control byte
abbrev pub Prints : List ℕ → Type 0
Prints bytes = list_all is_printable bytes ≡ true

pub both_true : (a b : Bool) → a ≡ true → b ≡ true → a && b ≡ true
both_true true true p q = refl
both_true true false p q = q
both_true false b p q = absurd (false≢true p)

pub parts_true : (a b : Bool) → a && b ≡ true → (a ≡ true) × (b ≡ true)
parts_true true b is = (refl, is)
parts_true false b is = absurd (false≢true is)

pub prints-append : (xs ys : List ℕ) → Prints xs → Prints ys → Prints (xs ++ ys)
prints-append xs ys first rest = list_all-append is_printable xs ys ∙ both_true _ _ first rest

pub digits_print : (ds : List ℕ) → AllDigits 10 ds → Prints ds
digits_print [] all = refl
digits_print (c ∷ cs) all =
    let parts = tells_digits.parts c cs all in
    both_true (is_printable c) _ (grind (arith, nat_tests, parts.0)) (digits_print cs parts.1)

pub number_prints : (n : ℕ) → n < 2 ^ 64 → Prints (decimal n)
number_prints n lt = digits_print (decimal n) (decimal_is_IsNumeral n lt).0.1

pub continues_print : (bs : List ℕ) → list_all continues_name bs ≡ true → Prints bs
continues_print [] all = refl
continues_print (b ∷ bs) all =
    let parts = parts_true (continues_name b) _ all in
    both_true (is_printable b) _ (grind (arith, nat_tests, parts.0)) (continues_print bs parts.1)

pub name_prints : (bs : List ℕ) → IsName bs → Prints bs
name_prints [] is = absurd (false≢true is)
name_prints (b ∷ bs) is =
    let first = parts_true (begins_name b && list_all continues_name bs) _ is in
    let parts = parts_true (begins_name b) _ first.0 in
    both_true (is_printable b) _ (grind (arith, nat_tests, parts.0)) (continues_print bs parts.1)

pub quoted_prints : (bs : List ℕ) → Prints bs → Prints (flat_map quoted_byte bs)
quoted_prints [] all = refl
quoted_prints (b ∷ bs) all =
    let parts = parts_true (is_printable b) _ all in
    let one : Prints (quoted_byte b) =
    elim (quoted_cases b) [
      | inl special ↦ subst Prints (sym special.1) (both_true (is_printable 92) _ refl (both_true (is_printable b) true parts.0 refl))
      | inr plain ↦ subst Prints (sym plain.2) (both_true (is_printable b) true parts.0 refl)
    ]
    in
    prints-append (quoted_byte b) (flat_map quoted_byte bs) one (quoted_prints bs parts.1)

pub value_prints : (v : Value) → IsValue v → Prints (value_text v)
value_prints (value.Int (pos n)) fits = number_prints n (omega (arith, fits))
value_prints (value.Int (negsuc n)) fits = both_true (is_printable 45) _ refl (number_prints (suc n) (omega (arith, fits)))
value_prints (value.Bool true) fits = refl
value_prints (value.Bool false) fits = refl
value_prints (value.Text bytes) fits = both_true (is_printable 34) _ refl (prints-append (flat_map quoted_byte bytes) (34 ∷ []) (quoted_prints bytes fits.1) refl)

-- ---- the fixed words of lines

abbrev pub IsPlainPart : Part → Type 0
IsPlainPart (word bytes) = Prints bytes
IsPlainPart part = Unit {0}

abbrev pub ArePlain : List Part → Type 0
ArePlain parts = AllByRecursion IsPlainPart parts

pub kind_plain : (k : Kind) → Prints (kind_text k)
kind_plain kind.Int = refl
kind_plain kind.Bool = refl
kind_plain kind.Text = refl

pub dir_plain : (d : Dir) → Prints (dir_text d)
dir_plain dir.Outward = refl
dir_plain dir.Inward = refl
dir_plain dir.Undirected = refl
dir_plain dir.Either = refl

pub op_plain : (o : Op) → Prints (op_text o)
op_plain op.Eq = refl
op_plain op.Ne = refl
op_plain op.Lt = refl
op_plain op.Le = refl
op_plain op.Gt = refl
op_plain op.Ge = refl

pub many_plain : (many : Bool) → ArePlain (many_parts many)
many_plain true = (refl, tt)
many_plain false = tt

pub label_plain : (label : Option (List ℕ)) → ArePlain (label_parts label)
label_plain None = tt
label_plain (Some label) = (tt, tt)

pub scope_plain : (label : Option (List ℕ)) → IsPlainPart (scope_part label)
scope_plain None = refl
scope_plain (Some label) = tt

pub all_append : {X : Type 0} (P : X → Type 0) (xs ys : List X) → AllByRecursion P xs → AllByRecursion P ys → AllByRecursion P (xs ++ ys)
all_append P [] ys all more = more
all_append P (x ∷ xs) ys all more = (all.0, all_append P xs ys all.1 more)

pub behind_plain : {A : Type 0} (j : List ℕ) (p : A → List Part) (xs : List A) → Prints j → ((x : A) → ArePlain (p x)) → ArePlain (behind j p xs)
behind_plain j p [] fixed plain = tt
behind_plain j p (x ∷ xs) fixed plain = (fixed, all_append IsPlainPart (p x) (behind j p xs) (plain x) (behind_plain j p xs fixed plain))

pub between_plain : {A : Type 0} (j : List ℕ) (p : A → List Part) (xs : List A) → Prints j → ((x : A) → ArePlain (p x)) → ArePlain (between j p xs)
between_plain j p [] fixed plain = tt
between_plain j p (x ∷ xs) fixed plain = all_append IsPlainPart (p x) (behind j p xs) (plain x) (behind_plain j p xs fixed plain)

pub atom_plain : (a : Atom) → ArePlain (atom_parts a)
atom_plain (atom.Has label) = (refl, (tt, tt))
atom_plain (atom.Lacks label) = (refl, (tt, tt))
atom_plain (atom.Prop prop o v) = (refl, (tt, (op_plain o, (tt, tt))))

pub test_plain : (test : Option (List (List Atom))) → ArePlain (test_parts test)
test_plain None = tt
test_plain (Some test) = (refl, between_plain (codes "or") alternative_parts test refl (λ atoms. between_plain (codes "and") atom_parts atoms refl atom_plain))

-- ---- lines

pub part_prints : (p : Part) → IsPart p → IsPlainPart p → Prints (text_of p)
part_prints (word bytes) fits plain = plain
part_prints (number n) fits plain = number_prints n fits
part_prints (name bytes) fits plain = name_prints bytes fits
part_prints (constant v) fits plain = value_prints v fits

pub spaced_print : (parts : List Part) → AllByRecursion IsPart parts → ArePlain parts → Prints (flat_map spaced parts)
spaced_print [] fit plain = refl
spaced_print (p ∷ parts) fit plain =
    both_true (is_printable 32) _ refl (prints-append (text_of p) (flat_map spaced parts) (part_prints p fit.0 plain.0) (spaced_print parts fit.1 plain.1))

pub parts_print : (parts : List Part) → AllByRecursion IsPart parts → ArePlain parts → Prints (line_of_parts parts)
parts_print [] fit plain = refl
parts_print (p ∷ parts) fit plain = prints-append (text_of p) (flat_map spaced parts) (part_prints p fit.0 plain.0) (spaced_print parts fit.1 plain.1)

-- a line without control bytes ends at the LF behind it
pub line_ends : (line rest : List ℕ) → Prints line → lines_of (line ++ 10 ∷ rest) ≡ line ∷ lines_of rest
line_ends [] rest prints = refl
line_ends (b ∷ line) rest prints =
    let parts = parts_true (is_printable b) _ prints in
    let other : b ≢ 10 = λ same. not_lf (sym parts.0 ∙ ap is_printable same) in
    cond-false (eqb b 10) _ _ (ne_eqb b 10 other) ∙ ap (before_first b) (line_ends line rest parts.1)
  where
    not_lf : true ≡ false → ⊥
    not_lf same = false≢true (sym same)
