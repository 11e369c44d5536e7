-- Forms and records of edges that are read are spelled so, and those that are spelled so are read.
use Rattle.std.proofs.Common.{◌≡◌, ℕ, zero, suc, ◌+◌, ◌-◌, ◌*◌, ◌^◌, ◌<◌, Bool, true, false, cond, eqb, ltb, List, ◌∷◌, ◌++◌, Some, refl, sym, ap, subst, ◌∙◌, arith, inl, inr, ◌⊎◌, Option}
use Rattle.std.specs.Int.{from_bool}
use Rattle.std.proofs.lemmas.Bool.{eqb-true, eqb-false, ne_eqb, ltb-false, lt-ltb, le-ltb}
use Rattle.std.proofs.lemmas.Nat.{shr_below, mod_below}
use Rattle.rma_layout.specs.Placement.{Place, raw_of, FitsOneWord}
use Rattle.object_words.specs.Chains.{place_of}
use Rattle.holder_codec.specs.declared.edge_form.EdgeForm.{EdgeForm}
use Rattle.holder_codec.specs.declared.edge_form.EdgeForm.TheVariants.{Plain, Labelled, Heavy}
use Rattle.holder_codec.specs.declared.edge_record.EdgeRecord.{EdgeRecord}
use Rattle.holder_codec.specs.Reading.{IsWords, ◌>>=◌, number_at, place_at, narrow, form_of, direction_of, record_at}
use Rattle.holder_codec.specs.Edges.{form_word, FormFits, record_words, RecordFits}
use Rattle.holder_codec.proofs.ReadLaws.{IsWords-rest, bind_some, bind_then, some_is, Reads, one_word, numbers, five_words, place_words, places, raw_of-place_of, place_of-raw_of}
use Rattle.holder_codec.proofs.ValueLaws.{narrow_is, narrow_again}

chosen : {A : Type 0} (b : Bool) (x y z : A) → cond b x y ≡ z → ((b ≡ true) × (x ≡ z)) ⊎ ((b ≡ false) × (y ≡ z))
chosen true x y z e = inl (refl, e)
chosen false x y z e = inr (refl, e)

-- ---- forms

form_is : (word : ℕ) (form : EdgeForm) → word < 2 ^ 64 → form_of word ≡ Some form → (word ≡ form_word form) × FormFits form
unfolding form_of
form_is word form lt e =
    let labelled = narrow (word - 1) >>= λ label. Some (Labelled label) in
    let heavy = Heavy (place_of (word - 2 ^ 63)) in
    let is_form : EdgeForm → Type 0 = λ f. (word ≡ form_word f) × FormFits f in
    elim (chosen (eqb word 0) (Some Plain) (cond (ltb word (2 ^ 63)) labelled (Some heavy)) (Some form) e) [
      | inl a ↦ subst is_form (some_is Plain form a.1) (eqb-true word 0 a.0, tt)
      | inr a ↦ elim (chosen (ltb word (2 ^ 63)) labelled (Some heavy) (Some form) a.1) [
        | inl b ↦ let c = bind_some (narrow (word - 1)) (λ label. Some (Labelled label)) form b.1 in
            let n = narrow_is (word - 1) c.0 c.1 in
            let some : word ≡ 0 → ⊥ = eqb-false word 0 a.0 in
            subst is_form (some_is (Labelled c.0) form c.2) (omega (arith, n.0), n.1)
        | inr b ↦ let large = ltb-false word (2 ^ 63) b.0 in
            let same : raw_of (place_of (word - 2 ^ 63)) ≡ word - 2 ^ 63 = raw_of-place_of (word - 2 ^ 63) in
            let is : word ≡ 2 ^ 63 + raw_of (place_of (word - 2 ^ 63)) = rw same (omega arith) in
            subst is_form (some_is heavy form b.1) (is, (shr_below (word - 2 ^ 63) 15 48 (omega arith), mod_below (word - 2 ^ 63) (2 ^ 48) (omega arith)))
      ]
    ]

form_again : (form : EdgeForm) → FormFits form → form_of (form_word form) ≡ Some form
unfolding form_of
form_again Plain fits = refl
form_again (Labelled label) fits =
    let back : label + 1 - 1 ≡ label = omega arith in
    rw (ne_eqb (label + 1) 0 (λ e. omega arith), lt-ltb (label + 1) (2 ^ 63) (omega arith), back, narrow_again label fits) refl
form_again (Heavy at) fits =
    let back : 2 ^ 63 + raw_of at - 2 ^ 63 ≡ raw_of at = omega arith in
    let same = place_of-raw_of at (omega arith, fits.1) in
    rw (ne_eqb (2 ^ 63 + raw_of at) 0 (λ e. omega arith), le-ltb (2 ^ 63 + raw_of at) (2 ^ 63) (omega arith)) (ap (λ (n : ℕ). Some (Heavy (place_of n))) back ∙ ap (λ (p : Place). Some (Heavy p)) same)

-- ---- records

direction_is : (word : ℕ) (ends : Bool × Bool) → direction_of word ≡ Some ends → word ≡ from_bool ends.0 + 2 * from_bool ends.1
direction_is zero ends e = ap (λ (p : Bool × Bool). from_bool p.0 + 2 * from_bool p.1) (some_is (false, false) ends e)
direction_is (suc zero) ends e = ap (λ (p : Bool × Bool). from_bool p.0 + 2 * from_bool p.1) (some_is (true, false) ends e)
direction_is (suc (suc zero)) ends e = ap (λ (p : Bool × Bool). from_bool p.0 + 2 * from_bool p.1) (some_is (false, true) ends e)
direction_is (suc (suc (suc zero))) ends e = ap (λ (p : Bool × Bool). from_bool p.0 + 2 * from_bool p.1) (some_is (true, true) ends e)
direction_is (suc (suc (suc (suc n)))) ends e = absurd cc

direction_again : (inward undirected : Bool) → direction_of (from_bool inward + 2 * from_bool undirected) ≡ Some (inward, undirected)
direction_again true true = refl
direction_again true false = refl
direction_again false true = refl
direction_again false false = refl

-- the reading from each of its parts on
abbrev from_word : Bool × Bool → ℕ → ℕ → Place → ℕ × List ℕ → Option (EdgeRecord × List ℕ)
from_word ends ordinal other other_at word =
    form_of word.0 >>= λ form. Some (record { inward = ends.0; undirected = ends.1; ordinal = ordinal; other = other; other_at = other_at; form = form }, word.1)

abbrev from_place : Bool × Bool → ℕ → ℕ → Place × List ℕ → Option (EdgeRecord × List ℕ)
from_place ends ordinal other other_at = number_at other_at.1 >>= λ word. from_word ends ordinal other other_at.0 word

abbrev from_other : Bool × Bool → ℕ → ℕ × List ℕ → Option (EdgeRecord × List ℕ)
from_other ends ordinal other = place_at other.1 >>= λ other_at. from_place ends ordinal other.0 other_at

abbrev from_ordinal : Bool × Bool → ℕ × List ℕ → Option (EdgeRecord × List ℕ)
from_ordinal ends ordinal = number_at ordinal.1 >>= λ other. from_other ends ordinal.0 other

record_made : (words a b c d e : List ℕ) (direction : ℕ) (ends : Bool × Bool) (ordinal other word : ℕ) (at : Place) (form : EdgeForm) (x : EdgeRecord × List ℕ)
    → direction ≡ from_bool ends.0 + 2 * from_bool ends.1 → words ≡ direction ∷ a → a ≡ ordinal ∷ b → b ≡ other ∷ c → c ≡ raw_of at ∷ d → d ≡ word ∷ e
    → ordinal < 2 ^ 64 → other < 2 ^ 64 → FitsOneWord at → (word ≡ form_word form) × FormFits form
    → ◌≡◌ {A = Option (EdgeRecord × List ℕ)} (Some (record { inward = ends.0; undirected = ends.1; ordinal = ordinal; other = other; other_at = at; form = form }, e)) (Some x)
    → (words ≡ record_words x.0 ++ x.1) × RecordFits x.0
record_made words a b c d e direction ends ordinal other word at form x told h0 h1 h2 h3 h4 f1 f2 f3 is found =
    let parts = five_words words a b c d e (from_bool ends.0 + 2 * from_bool ends.1) ordinal other (raw_of at) word other (raw_of at) (form_word form) e (h0 ∙ ap (λ (n : ℕ). n ∷ a) told) h1 h2 h3 h4 refl refl refl (sym is.0) in
    subst (λ (y : EdgeRecord × List ℕ). (words ≡ record_words y.0 ++ y.1) × RecordFits y.0) (some_is (record { inward = ends.0; undirected = ends.1; ordinal = ordinal; other = other; other_at = at; form = form }, e) x found)
    (parts, record { ordinal = f1; other = f2; other_at = f3; form = is.1 })

record_takes : (words : List ℕ) (x : EdgeRecord × List ℕ) → IsWords words → record_at words ≡ Some x → (words ≡ record_words x.0 ++ x.1) × RecordFits x.0
unfolding record_at
record_takes words x fits e =
    bind_then (number_at words) (λ direction. direction_of direction.0 >>= λ ends. number_at direction.1 >>= λ ordinal. from_ordinal ends ordinal) x e (λ direction h0 e0.
    let t0 = numbers.takes words direction fits h0 in
    let fits1 = IsWords-rest words (one_word direction.0) direction.1 t0.0 fits in
    bind_then (direction_of direction.0) (λ ends. number_at direction.1 >>= λ ordinal. from_ordinal ends ordinal) x e0 (λ ends told e0'.
    bind_then (number_at direction.1) (λ ordinal. from_ordinal ends ordinal) x e0' (λ ordinal h1 e1.
    let t1 = numbers.takes direction.1 ordinal fits1 h1 in
    let fits2 = IsWords-rest direction.1 (one_word ordinal.0) ordinal.1 t1.0 fits1 in
    bind_then (number_at ordinal.1) (λ other. from_other ends ordinal.0 other) x e1 (λ other h2 e2.
    let t2 = numbers.takes ordinal.1 other fits2 h2 in
    let fits3 = IsWords-rest ordinal.1 (one_word other.0) other.1 t2.0 fits2 in
    bind_then (place_at other.1) (λ other_at. from_place ends ordinal.0 other.0 other_at) x e2 (λ at h3 e3.
    let t3 = places.takes other.1 at fits3 h3 in
    let fits4 = IsWords-rest other.1 (place_words at.0) at.1 t3.0 fits3 in
    bind_then (number_at at.1) (λ word. from_word ends ordinal.0 other.0 at.0 word) x e3 (λ word h4 e4.
    let t4 = numbers.takes at.1 word fits4 h4 in
    bind_then (form_of word.0) (λ form. Some (record { inward = ends.0; undirected = ends.1; ordinal = ordinal.0; other = other.0; other_at = at.0; form = form }, word.1)) x e4 (λ form h5 e5.
    record_made words direction.1 ordinal.1 other.1 at.1 word.1 direction.0 ends ordinal.0 other.0 word.0 at.0 form x
    (direction_is direction.0 ends told) t0.0 t1.0 t2.0 t3.0 t4.0 t1.1 t2.1 t3.1 (form_is word.0 form t4.1 h5) e5)))))))

record_again : (edge : EdgeRecord) (rest : List ℕ) → RecordFits edge → record_at (record_words edge ++ rest) ≡ Some (edge, rest)
unfolding record_at
record_again edge rest fits =
    rw (direction_again edge.inward edge.undirected, places.again edge.other_at (form_word edge.form ∷ rest) fits.other_at, form_again edge.form fits.form) refl

pub records : Reads record_at record_words RecordFits
records = record { takes = record_takes; again = record_again }
