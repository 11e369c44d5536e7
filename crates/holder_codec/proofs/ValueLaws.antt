-- Texts, values and properties that are read are spelled so, and those that are spelled so are read.
use Rattle.std.proofs.Common.{◌≡◌, ℕ, zero, suc, ◌+◌, ◌*◌, ◌/◌, ◌%◌, ◌^◌, ◌<◌, Bool, true, false, cond, eqb, ltb, leb, ◌&&◌, List, [], ◌∷◌, ◌++◌, length, Option, Some, None, Result, Err, ◌↔◌, Fits, refl, sym, ap, subst, ◌∙◌, arith, inl, inr}
use Rattle.std.specs.Prelude.{IsUtf8}
use Rattle.std.specs.List.{list_all, AllByRecursion}
use Rattle.std.specs.Int.{w64, cast_signed, from_bool}
use Rattle.std.specs.Str.{is_utf8}
use Rattle.std.proofs.Math.Facts.{sfits_to_z, of_z-to_z}
use Rattle.std.proofs.lemmas.Int.{to_z-of_z}
use Rattle.std.proofs.lemmas.Str.{is_utf8-from_IsUtf8, IsUtf8-from_is_utf8}
use Rattle.std.proofs.lemmas.Bool.{eqb-true, and_parts, and_from, leb-true, leb-false, le-leb, ltb-true, lt-ltb, false_from_ne_true, cond_both}
use lib.Utf8.{encode, encodes, scalar, scalars, scalar_cases}
use Rattle.gdi_kinds.specs.Texts.{IsText, is_printable}
use Rattle.gdi_kinds.specs.declared.text.Unfit.{Unfit}
use Rattle.gdi_kinds.specs.declared.text.Unfit.TheVariants as unfits
use Rattle.gdi_kinds.specs.declared.value.Value.{Value}
use Rattle.gdi_kinds.specs.declared.value.Value.TheVariants as value
use Rattle.gdi_kinds.specs.declared.value.Kind.{Kind}
use Rattle.gdi_kinds.specs.declared.value.Kind.TheVariants as kind
use Rattle.gdi_kinds.specs.Constraint.{kind_of}
use Rattle.graph_model.specs.WellFormed.{IsValue}
use Rattle.holder_codec.specs.declared.held_prop.HeldProp.{HeldProp}
use Rattle.holder_codec.specs.Reading.{IsWords, Fails, unread_of, ◌>>=◌, number_at, bytes_at, is_text, text_at, kind_of_code, bool_of, bool_at, value_at, narrow, prop_at}
use Rattle.holder_codec.specs.Texts.{byte_words}
use Rattle.holder_codec.specs.Values.{kind_code, byte_length, value_words, type_word, prop_words, PropFits}
use Rattle.holder_codec.proofs.ReadLaws.{IsWords-rest, bind_some, bind_then, guard_some, some_is, Reads, one_word, numbers}
use Rattle.holder_codec.proofs.TextLaws.{IsBytes, bytes_takes, bytes_again}

-- ---- the bytes of a text

abbrev pub AreBytes : List ℕ → Type 0
AreBytes bytes = AllByRecursion (λ b. b < 256) bytes

AreBytes-append : (xs ys : List ℕ) → AreBytes xs → AreBytes ys → AreBytes (xs ++ ys)
AreBytes-append [] ys a b = b
AreBytes-append (x ∷ xs) ys a b = (a.0, AreBytes-append xs ys a.1 b)

pub AreBytes-at : (xs : List ℕ) → AreBytes xs → IsBytes xs
AreBytes-at [] all i = omega arith
AreBytes-at (x ∷ xs) all zero = all.0
AreBytes-at (x ∷ xs) all (suc i) = AreBytes-at xs all.1 i

below_all : (c : ℕ) → scalar c ≡ true → c < 1114112
below_all c h = elim (scalar_cases c h) [ inl low ↦ omega arith | inr high ↦ high.1 ]

AreBytes-encode : (c : ℕ) → scalar c ≡ true → AreBytes (encode c)
unfolding encode
AreBytes-encode c h =
    let lt = below_all c h in
    cond_both (ltb c 128) _ _ AreBytes (λ e. (omega (arith, ltb-true c 128 e), tt)) (λ _.
    cond_both (ltb c 2048) _ _ AreBytes (λ e. (omega (arith, ltb-true c 2048 e), (omega arith, tt))) (λ _.
    cond_both (ltb c 65536) _ _ AreBytes (λ e. (omega (arith, ltb-true c 65536 e), (omega arith, (omega arith, tt)))) (λ _. (omega (arith, lt), (omega arith, (omega arith, (omega arith, tt)))))))

AreBytes-encodes : (cs : List ℕ) → scalars cs ≡ true → AreBytes (encodes cs)
AreBytes-encodes [] h = tt
AreBytes-encodes (c ∷ cs) h =
    let both = and_parts (scalar c) (scalars cs) h in
    AreBytes-append (encode c) (encodes cs) (AreBytes-encode c both.0) (AreBytes-encodes cs both.1)

IsBytes-utf8 : (bytes : List ℕ) → IsUtf8 bytes → IsBytes bytes
IsBytes-utf8 bytes utf8 = AreBytes-at bytes (subst AreBytes utf8.1.1 (AreBytes-encodes utf8.0 utf8.1.0))

-- ---- texts

pub is_text-from : (bytes : List ℕ) → IsText bytes → is_text bytes ≡ true
unfolding is_text
is_text-from bytes text = and_from (is_utf8 bytes && list_all is_printable bytes) (leb (length bytes) 255) (and_from (is_utf8 bytes) (list_all is_printable bytes) (is_utf8-from_IsUtf8 bytes text.0) text.1) (le-leb _ _ text.2)

pub IsText-from : (bytes : List ℕ) → is_text bytes ≡ true → IsText bytes
unfolding is_text
IsText-from bytes e =
    let a = and_parts (is_utf8 bytes && list_all is_printable bytes) (leb (length bytes) 255) e in
    let b = and_parts (is_utf8 bytes) (list_all is_printable bytes) a.0 in
    (IsUtf8-from_is_utf8 bytes b.0, b.1, leb-true _ _ a.1)

pub is_text-none : (bytes : List ℕ) → (IsText bytes → ⊥) → is_text bytes ≡ false
is_text-none bytes none = false_from_ne_true (is_text bytes) (λ e. none (IsText-from bytes e))

-- bytes that are a text, and bytes that are refused as one
pub gives_text : (n : ℕ) (words bytes rest text now : List ℕ) → bytes_at n words ≡ Some (bytes, rest) → now ≡ bytes → (text ≡ now) × IsText now → text_at n words ≡ Some (text, rest)
unfolding text_at
gives_text n words bytes rest text now read same is =
    let test : is_text bytes ≡ true = rw (← same) (is_text-from now is.1) in
    rw (read, test, is.0, same) refl

pub fails_text : (unfit : Unfit) (n : ℕ) (words bytes rest now : List ℕ) → bytes_at n words ≡ Some (bytes, rest) → now ≡ bytes
    → (◌≡◌ {A = Result (List ℕ) Unfit} (Err unfit) (Err unfits.NotText)) ↔ (IsText now → ⊥) → Fails (unread_of unfit) (text_at n words)
unfolding text_at
fails_text unfits.NotText n words bytes rest now read same told =
    let test : is_text bytes ≡ false = rw (← same) (is_text-none now (told.0 refl)) in
    rw (read, test) refl
fails_text unfits.NoMemory n words bytes rest now read same told = tt

pub text_takes : (n : ℕ) (words : List ℕ) (x : List ℕ × List ℕ) → IsWords words → text_at n words ≡ Some x → (words ≡ byte_words x.0 ++ x.1) × (length x.0 ≡ n) × IsText x.0
unfolding text_at
text_takes n words x fits e =
    let a = bind_some (bytes_at n words) (λ bytes. cond (is_text bytes.0) (Some bytes) None) x e in
    let g = guard_some (is_text a.0.0) a.0 x a.2 in
    let t = bytes_takes n words a.0 fits a.1 in
    subst (λ (y : List ℕ × List ℕ). (words ≡ byte_words y.0 ++ y.1) × (length y.0 ≡ n) × IsText y.0) g.1 (t.0, t.1, IsText-from a.0.0 g.0)

pub text_again : (bytes rest : List ℕ) → IsText bytes → text_at (length bytes) (byte_words bytes ++ rest) ≡ Some (bytes, rest)
unfolding text_at
text_again bytes rest text = rw (bytes_again bytes rest (IsBytes-utf8 bytes text.0), is_text-from bytes text) refl

-- ---- small numbers

pub bool_of_is : (n : ℕ) (b : Bool) → bool_of n ≡ Some b → n ≡ from_bool b
bool_of_is zero b e = ap from_bool (some_is false b e)
bool_of_is (suc zero) b e = ap from_bool (some_is true b e)
bool_of_is (suc (suc n)) b e = absurd cc

pub bool_of_again : (b : Bool) → bool_of (from_bool b) ≡ Some b
bool_of_again true = refl
bool_of_again false = refl

abbrev pub bool_words : Bool → List ℕ
bool_words b = from_bool b ∷ []

bool_takes : (words : List ℕ) (x : Bool × List ℕ) → IsWords words → bool_at words ≡ Some x → (words ≡ bool_words x.0 ++ x.1) × Unit {0}
unfolding bool_at
bool_takes words x fits e =
    let a = bind_some (number_at words) (λ word. bool_of word.0 >>= λ bool. Some (bool, word.1)) x e in
    let b = bind_some (bool_of a.0.0) (λ bool. Some (bool, a.0.1)) x a.2 in
    let t = numbers.takes words a.0 fits a.1 in
    subst (λ (y : Bool × List ℕ). (words ≡ bool_words y.0 ++ y.1) × Unit {0}) (some_is (b.0, a.0.1) x b.2) (t.0 ∙ ap (λ (w : ℕ). w ∷ a.0.1) (bool_of_is a.0.0 b.0 b.1), tt)

bool_again : (b : Bool) (rest : List ℕ) → Unit {0} → bool_at (bool_words b ++ rest) ≡ Some (b, rest)
unfolding bool_at
bool_again b rest fits = rw (bool_of_again b) refl

pub narrow_is : (n m : ℕ) → narrow n ≡ Some m → (n ≡ m) × (m < 2 ^ 32)
narrow_is n m e =
    let g = guard_some (ltb n (2 ^ 32)) n m e in
    (g.1, rw (← g.1) (ltb-true n (2 ^ 32) g.0))

pub narrow_again : (n : ℕ) → n < 2 ^ 32 → narrow n ≡ Some n
narrow_again n lt = rw (lt-ltb n (2 ^ 32) lt) refl

pub kind_of_code_is : (n : ℕ) (k : Kind) → kind_of_code n ≡ Some k → n ≡ kind_code k
kind_of_code_is zero k e = ap kind_code (some_is kind.Int k e)
kind_of_code_is (suc zero) k e = ap kind_code (some_is kind.Bool k e)
kind_of_code_is (suc (suc zero)) k e = ap kind_code (some_is kind.Text k e)
kind_of_code_is (suc (suc (suc n))) k e = absurd cc

pub kind_of_code_again : (k : Kind) → kind_of_code (kind_code k) ≡ Some k
kind_of_code_again kind.Int = refl
kind_of_code_again kind.Bool = refl
kind_of_code_again kind.Text = refl

pub code_below : (k : Kind) → kind_code k < 4
code_below kind.Int = omega arith
code_below kind.Bool = omega arith
code_below kind.Text = omega arith

-- ---- values

some_tested : {A : Type 0} (b : Bool) (o : Option A) (y : A) → cond b o None ≡ Some y → (b ≡ true) × (o ≡ Some y)
some_tested true o y e = (refl, e)
some_tested false o y e = absurd cc

pub record ValueTaken (k : Kind) (n : ℕ) (words : List ℕ) (x : Value × List ℕ) : Type 0 where
  pub parts : words ≡ value_words x.0 ++ x.1
  pub size : n ≡ byte_length x.0
  pub kind : k ≡ kind_of x.0
  pub fits : IsValue x.0

pub value_takes : (k : Kind) (n : ℕ) (words : List ℕ) (x : Value × List ℕ) → IsWords words → value_at k n words ≡ Some x → ValueTaken k n words x
unfolding value_at
value_takes kind.Int n words x fits e =
    let g = some_tested (eqb n 8) (number_at words >>= λ word. Some (value.Int (cast_signed w64 word.0), word.1)) x e in
    let a = bind_some (number_at words) (λ word. Some (value.Int (cast_signed w64 word.0), word.1)) x g.1 in
    let t = numbers.takes words a.0 fits a.1 in
    let wide : Fits w64 a.0.0 = record { fits = t.1 } in
    subst (ValueTaken kind.Int n words) (some_is (value.Int (cast_signed w64 a.0.0), a.0.1) x a.2) (record {
      parts = t.0 ∙ ap (λ (w : ℕ). w ∷ a.0.1) (sym (of_z-to_z wide));
      size = eqb-true n 8 g.0;
      kind = refl;
      fits = sfits_to_z wide;
    })
value_takes kind.Bool n words x fits e =
    let g = some_tested (eqb n 1) (bool_at words >>= λ bool. Some (value.Bool bool.0, bool.1)) x e in
    let a = bind_some (bool_at words) (λ bool. Some (value.Bool bool.0, bool.1)) x g.1 in
    let t = bool_takes words a.0 fits a.1 in
    subst (ValueTaken kind.Bool n words) (some_is (value.Bool a.0.0, a.0.1) x a.2) (record { parts = t.0; size = eqb-true n 1 g.0; kind = refl; fits = tt })
value_takes kind.Text n words x fits e =
    let a = bind_some (text_at n words) (λ text. Some (value.Text text.0, text.1)) x e in
    let t = text_takes n words a.0 fits a.1 in
    subst (ValueTaken kind.Text n words) (some_is (value.Text a.0.0, a.0.1) x a.2) (record { parts = t.0; size = sym t.1; kind = refl; fits = t.2 })

pub value_again : (v : Value) (rest : List ℕ) → IsValue v → value_at (kind_of v) (byte_length v) (value_words v ++ rest) ≡ Some (v, rest)
unfolding value_at
value_again (value.Int n) rest fits = rw (to_z-of_z w64 n fits) refl
value_again (value.Bool b) rest fits = rw (bool_again b rest tt) refl
value_again (value.Text t) rest fits = rw (text_again t rest fits) refl

-- ---- properties

-- the word in front of a value, with the mark and without it
abbrev word_of : ℕ → ℕ → Bool → ℕ
word_of number code many = cond many (2 ^ 63) 0 + (number * 4 + code)

word_again : (number code : ℕ) (many : Bool) → number < 2 ^ 32 → code < 4
    → (word_of number code many % 2 ^ 63 / 4 ≡ number) × (word_of number code many % 4 ≡ code) × (leb (2 ^ 63) (word_of number code many) ≡ many)
word_again number code true few small =
    (omega arith, omega arith, le-leb (2 ^ 63) (2 ^ 63 + (number * 4 + code)) (omega arith))
word_again number code false few small =
    (omega arith, omega arith, false_from_ne_true _ (λ large. omega (arith, leb-true (2 ^ 63) (0 + (number * 4 + code)) large)))

word_taken : (head number code : ℕ) → head < 2 ^ 64 → head % 2 ^ 63 / 4 ≡ number → head % 4 ≡ code → head ≡ word_of number code (leb (2 ^ 63) head)
word_taken head number code wide at small =
    cond_both (leb (2 ^ 63) head) (2 ^ 63) 0 (λ mark. head ≡ mark + (number * 4 + code))
    (λ marked. omega (arith, leb-true (2 ^ 63) head marked))
    (λ plain. omega (arith, leb-false (2 ^ 63) head plain))

-- two words and what follows them
rejoin : (words one two rest : List ℕ) (m n m' n' : ℕ) → words ≡ m ∷ one → one ≡ n ∷ two → two ≡ rest → m ≡ m' → n ≡ n' → words ≡ m' ∷ n' ∷ rest
rejoin words one two rest m n m' n' a b c d e = rw (a, b, c, d, e) refl

-- what is read, over its parts
prop_made : (words one two : List ℕ) (head size number : ℕ) (k : Kind) (v : Value × List ℕ) (x : HeldProp × List ℕ)
    → words ≡ head ∷ one → one ≡ size ∷ two → head < 2 ^ 64 → (head % 2 ^ 63 / 4 ≡ number) × (number < 2 ^ 32) → head % 4 ≡ kind_code k
    → ValueTaken k size two v → ◌≡◌ {A = Option (HeldProp × List ℕ)} (Some (record { number = number; many = leb (2 ^ 63) head; value = v.0 }, v.1)) (Some x)
    → (words ≡ prop_words x.0 ++ x.1) × PropFits x.0
prop_made words one two head size number k v x p q wide n code t e =
    let word = type_word number (kind_of v.0) (leb (2 ^ 63) head) in
    let head_is : head ≡ word = word_taken head number (kind_code (kind_of v.0)) wide n.0 (code ∙ ap kind_code t.kind) in
    let parts = rejoin words one two (value_words v.0 ++ v.1) head size word (byte_length v.0) p q t.parts head_is t.size in
    subst (λ (y : HeldProp × List ℕ). (words ≡ prop_words y.0 ++ y.1) × PropFits y.0)
    (some_is (record { number = number; many = leb (2 ^ 63) head; value = v.0 }, v.1) x e) (parts, record { number = n.1; value = t.fits })

abbrev from_value : ℕ → List ℕ → ℕ → Bool → Kind → Option (HeldProp × List ℕ)
from_value size words number many k = value_at k size words >>= λ value. Some (record { number = number; many = many; value = value.0 }, value.1)

abbrev from_head : ℕ → ℕ → List ℕ → Option (HeldProp × List ℕ)
from_head head size words =
    narrow (head % 2 ^ 63 / 4) >>= λ number. kind_of_code (head % 4) >>= λ kind. from_value size words number (leb (2 ^ 63) head) kind

prop_takes : (words : List ℕ) (x : HeldProp × List ℕ) → IsWords words → prop_at words ≡ Some x → (words ≡ prop_words x.0 ++ x.1) × PropFits x.0
unfolding prop_at
prop_takes words x fits e =
    bind_then (number_at words) (λ head. number_at head.1 >>= λ size. from_head head.0 size.0 size.1) x e (λ head h0 e0.
    let t0 = numbers.takes words head fits h0 in
    let fits1 = IsWords-rest words (one_word head.0) head.1 t0.0 fits in
    bind_then (number_at head.1) (λ size. from_head head.0 size.0 size.1) x e0 (λ size h1 e1.
    let t1 = numbers.takes head.1 size fits1 h1 in
    let fits2 = IsWords-rest head.1 (one_word size.0) size.1 t1.0 fits1 in
    let many = leb (2 ^ 63) head.0 in
    bind_then (narrow (head.0 % 2 ^ 63 / 4)) (λ number. kind_of_code (head.0 % 4) >>= λ k. from_value size.0 size.1 number many k) x e1 (λ number h2 e2.
    bind_then (kind_of_code (head.0 % 4)) (λ k. from_value size.0 size.1 number many k) x e2 (λ k h3 e3.
    bind_then (value_at k size.0 size.1) (λ value. Some (record { number = number; many = many; value = value.0 }, value.1)) x e3 (λ v h4 e4.
    prop_made words head.1 size.1 head.0 size.0 number k v x t0.0 t1.0 t0.1 (narrow_is (head.0 % 2 ^ 63 / 4) number h2) (kind_of_code_is (head.0 % 4) k h3) (value_takes k size.0 size.1 v fits2 h4) e4)))))

prop_again : (prop : HeldProp) (rest : List ℕ) → PropFits prop → prop_at (prop_words prop ++ rest) ≡ Some (prop, rest)
unfolding prop_at
prop_again prop rest fits =
    let is = word_again prop.number (kind_code (kind_of prop.value)) prop.many fits.number (code_below (kind_of prop.value)) in
    rw (is.0, is.1, is.2, narrow_again prop.number fits.number, kind_of_code_again (kind_of prop.value), value_again prop.value rest fits.value) refl

pub props : Reads prop_at prop_words PropFits
props = record { takes = prop_takes; again = prop_again }
