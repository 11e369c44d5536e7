-- How a constraint is read.
use Rattle.std.proofs.Common.{◌≡◌, ◌≢◌, ℕ, ◌+◌, ◌-◌, ◌≤◌, ◌<◌, List, [], ◌∷◌, ◌++◌, Some, length, map, get_or, take, drop, ◌↔◌, false, inl, inr, refl, sym, ap, subst, ◌∙◌, append_assoc, add-one, length-append, arith, drop-cons, Bor}
use Rattle.std.specs.Prelude.{codes, IsTrue}
use Rattle.std.specs.List.{AllByRecursion}
use Rattle.std.proofs.lemmas.Bool.{false≢true}
use Rattle.std.proofs.lemmas.List.{append-nil, map-append, take_rest, length-map}
use Rattle.std.proofs.lemmas.Grind.{flat_map-append}
use Rattle.gdi_kinds.specs.declared.constraint.Atom.{Atom}
use Rattle.text_words.specs.declared.wrong.Wrong.{Wrong}
use Rattle.text_words.specs.declared.test_reader.Opener.{Opener}
use Rattle.text_words.specs.declared.test_reader.Opener.TheVariants as opener
use Rattle.text_words.specs.Spelling.{Part, word, text_of, IsPart, behind, between, atom_parts, alternative_parts, HasAtoms}
use Rattle.text_words.specs.Awaited.{opener_text, IsAtomRead, AddsAtom}
use Rattle.text_words.specs.Forms.{Form, atoms, joint, HasForm, FirstWrong, AreSpelled, OrMemory, texts}
use Rattle.text_words.proofs.FieldLemmas.{OrMemory-weaker}

-- an atom has one of three first words
pub no_atom : (w : List ℕ) → ((o : Opener) → w ≢ opener_text o) → (rest : List (List ℕ)) → ¬ HasForm atoms (w ∷ rest)
no_atom w none rest has =
    elim has [
      | inl label ↦ elim (label.0) [ inl is ↦ none opener.Has is | inr is ↦ none opener.Lacks is ]
      | inr prop ↦ none opener.Prop prop.0
    ]

-- the words from an index on
pub texts_at : (words : List (Bor (List ℕ))) (i : ℕ) (d : Bor (List ℕ)) → i < length words → texts (drop i words) ≡ (get_or words i d).now ∷ texts (drop (i + 1) words)
texts_at words i d lt = rw (add-one, drop-cons words i d) refl

-- the first word, and the slice of those behind it
pub texts_front : (words : List (Bor (List ℕ))) (d : Bor (List ℕ)) → 1 ≤ length words → texts words ≡ (get_or words 0 d).now ∷ texts (take (length words - 1) (drop 1 words))
texts_front words d le = texts_at words 0 d le ∙ ap (λ (ws : List (Bor (List ℕ))). (get_or words 0 d).now ∷ texts ws) (sym (take_rest words 1))

-- where a word is taken, the words behind it are of the form that is then awaited
pub goes_on : (P : Type 0) (f g : Form) (words rest : List (List ℕ)) (w : List ℕ) → words ≡ w ∷ rest → P ↔ HasForm f words → ((behind : List (List ℕ)) → HasForm f (w ∷ behind) ↔ HasForm g behind) → P ↔ HasForm g rest
goes_on P f g words rest w is was step = (λ p. (step rest).0 (subst (HasForm f) is (was.0 p)), λ has. was.1 (subst (HasForm f) (sym is) ((step rest).1 has)))

pub is_stuck : (P : Type 0) (f : Form) (words rest : List (List ℕ)) (w : List ℕ) → words ≡ w ∷ rest → P ↔ HasForm f words → ((behind : List (List ℕ)) → ¬ HasForm f (w ∷ behind)) → IsTrue false ↔ P
is_stuck P f words rest w is was none = (λ no. absurd (false≢true no), λ p. absurd (none rest (subst (HasForm f) is (was.0 p))))

-- ---- items with a word between each two

pub between_more : {A : Type 0} (j : List ℕ) (p : A → List Part) (xs : List A) (x : A) → 0 < length xs → between j p (xs ++ x ∷ []) ≡ between j p xs ++ word j ∷ p x
between_more j p [] x some = absurd (omega arith)
between_more {A} j p (y ∷ ys) x some =
    ap (λ (ps : List Part). p y ++ ps) (flat_map-append (λ (z : A). word j ∷ p z) ys (x ∷ []) ∙ ap (λ (ps : List Part). behind j p ys ++ word j ∷ ps) (append-nil (p x)))
    ∙ sym (append_assoc (p y) (behind j p ys) (word j ∷ p x))

behind_last : {A : Type 0} (j : List ℕ) (p : A → List Part) (xs : List A) (x y : A) (more : List Part) → p y ≡ p x ++ more → behind j p (xs ++ y ∷ []) ≡ behind j p (xs ++ x ∷ []) ++ more
behind_last j p [] x y more is = ap (λ (ps : List Part). word j ∷ ps) (append-nil (p y) ∙ is ∙ ap (λ (ps : List Part). ps ++ more) (sym (append-nil (p x))))
behind_last j p (z ∷ zs) x y more is = ap (λ (ps : List Part). word j ∷ p z ++ ps) (behind_last j p zs x y more is) ∙ ap (λ (ps : List Part). word j ∷ ps) (sym (append_assoc (p z) _ more))

pub between_last : {A : Type 0} (j : List ℕ) (p : A → List Part) (xs : List A) (x y : A) (more : List Part) → p y ≡ p x ++ more → between j p (xs ++ y ∷ []) ≡ between j p (xs ++ x ∷ []) ++ more
between_last j p [] x y more is = append-nil (p y) ∙ is ∙ ap (λ (ps : List Part). ps ++ more) (sym (append-nil (p x)))
between_last j p (z ∷ zs) x y more is = ap (λ (ps : List Part). p z ++ ps) (behind_last j p zs x y more is) ∙ sym (append_assoc (p z) _ more)

-- ---- a constraint so far

abbrev pub alternatives : List (List Atom) → List Atom → List Part
alternatives test alternative = between (codes "or") alternative_parts (test ++ alternative ∷ [])

pub record IsTestRead (words : List (List ℕ)) (test : List (List Atom)) (alternative : List Atom) (rest : List (List ℕ)) : Type 0 where
  pub texts : words ≡ map text_of (alternatives test alternative) ++ rest
  pub fit : AllByRecursion IsPart (alternatives test alternative)
  pub some : 0 < length alternative
  pub alternatives_some : AllByRecursion (λ (atoms : List Atom). 0 < length atoms) test
  pub form : HasForm joint rest
  pub wrong : (told : Wrong) → FirstWrong joint rest told → FirstWrong atoms words told

all_append : {X : Type 0} (P : X → Type 0) (xs ys : List X) → AllByRecursion P xs → AllByRecursion P ys → AllByRecursion P (xs ++ ys)
all_append P [] ys all more = more
all_append P (x ∷ xs) ys all more = (all.0, all_append P xs ys all.1 more)

pub begins : (words : List (List ℕ)) (atom : Atom) (rest : List (List ℕ)) → IsAtomRead words atom rest → IsTestRead words [] (atom ∷ []) rest
begins words atom rest read =
    let one : alternatives [] (atom ∷ []) ≡ atom_parts atom = append-nil (atom_parts atom ++ []) ∙ append-nil (atom_parts atom) in
    record {
      texts = rw one read.texts;
      fit = rw one read.fit;
      some = omega arith;
      alternatives_some = tt;
      form = read.form;
      wrong = read.wrong;
    }

more_texts : (words w : List (List ℕ)) (parts new : List Part) (joint_word : List ℕ) (behind rest : List (List ℕ)) → words ≡ map text_of parts ++ joint_word ∷ behind → behind ≡ map text_of new ++ rest → words ≡ map text_of (parts ++ word joint_word ∷ new) ++ rest
more_texts words w parts new j behind rest is next =
    is ∙ ap (λ (ws : List (List ℕ)). map text_of parts ++ j ∷ ws) next
    ∙ sym (append_assoc (map text_of parts) (j ∷ map text_of new) rest)
    ∙ ap (λ (ws : List (List ℕ)). ws ++ rest) (sym (map-append text_of parts (word j ∷ new)))

pub after_and : (words : List (List ℕ)) (test : List (List Atom)) (alternative : List Atom) (behind : List (List ℕ)) (atom : Atom) (rest : List (List ℕ)) → IsTestRead words test alternative (codes "and" ∷ behind) → IsAtomRead behind atom rest → IsTestRead words test (alternative ++ atom ∷ []) rest
after_and words test alternative behind atom rest was read =
    let more : alternatives test (alternative ++ atom ∷ []) ≡ alternatives test alternative ++ word (codes "and") ∷ atom_parts atom = between_last (codes "or") alternative_parts test alternative (alternative ++ atom ∷ []) _ (between_more (codes "and") atom_parts alternative atom was.some) in
    record {
      texts = rw more (more_texts words words (alternatives test alternative) (atom_parts atom) (codes "and") behind rest was.texts read.texts);
      fit = rw more (all_append IsPart (alternatives test alternative) _ was.fit (tt, read.fit));
      some = omega (arith, length-append alternative (atom ∷ []));
      alternatives_some = was.alternatives_some;
      form = read.form;
      wrong = λ told first. was.wrong told (read.wrong told first);
    }

pub after_or : (words : List (List ℕ)) (test : List (List Atom)) (alternative : List Atom) (behind : List (List ℕ)) (atom : Atom) (rest : List (List ℕ)) → IsTestRead words test alternative (codes "or" ∷ behind) → IsAtomRead behind atom rest → IsTestRead words (test ++ alternative ∷ []) (atom ∷ []) rest
after_or words test alternative behind atom rest was read =
    let one : alternative_parts (atom ∷ []) ≡ atom_parts atom = append-nil (atom_parts atom) in
    let more : alternatives (test ++ alternative ∷ []) (atom ∷ []) ≡ alternatives test alternative ++ word (codes "or") ∷ atom_parts atom =
    between_more (codes "or") alternative_parts (test ++ alternative ∷ []) (atom ∷ []) (omega (arith, length-append test (alternative ∷ [])))
    ∙ ap (λ (ps : List Part). alternatives test alternative ++ word (codes "or") ∷ ps) one in
    record {
      texts = rw more (more_texts words words (alternatives test alternative) (atom_parts atom) (codes "or") behind rest was.texts read.texts);
      fit = rw more (all_append IsPart (alternatives test alternative) _ was.fit (tt, read.fit));
      some = omega arith;
      alternatives_some = all_append (λ (atoms : List Atom). 0 < length atoms) test (alternative ∷ []) was.alternatives_some (was.some, tt);
      form = read.form;
      wrong = λ told first. was.wrong told (read.wrong told first);
    }

-- the words behind an atom are taken up to the next
pub takes_atom : (words : List (List ℕ)) (test : List (List Atom)) (alternative : List Atom) (left : List (List ℕ)) (j : List ℕ) (behind : List (List ℕ)) (atom : Atom) (rest : List (List ℕ)) (test_after : List (List Atom)) (alternative_after : List Atom)
    → IsTestRead words test alternative left → left ≡ j ∷ behind → IsAtomRead behind atom rest → AddsAtom j atom test alternative test_after alternative_after → IsTestRead words test_after alternative_after rest
takes_atom words test alternative left j behind atom rest test_after alternative_after was is read adds =
    let at : IsTestRead words test alternative (j ∷ behind) = subst (IsTestRead words test alternative) is was in
    elim (at.form.0) [
      | inl and ↦
          let new = adds.same (λ or. let e : codes "and" ≡ codes "or" = sym and ∙ or in cc) in
          rw (new.0, new.1) (after_and words test alternative behind atom rest (subst (λ (w : List ℕ). IsTestRead words test alternative (w ∷ behind)) and at) read)
      | inr or ↦
          let new = adds.next or in
          rw (new.0, new.1) (after_or words test alternative behind atom rest (subst (λ (w : List ℕ). IsTestRead words test alternative (w ∷ behind)) or at) read)
    ]

-- what is wrong behind an atom is wrong in the whole
pub wrong_behind : (words : List (List ℕ)) (test : List (List Atom)) (alternative : List Atom) (left : List (List ℕ)) (j : List ℕ) (behind : List (List ℕ)) (told : Wrong) → IsTestRead words test alternative left → left ≡ j ∷ behind → OrMemory (FirstWrong atoms behind) told → OrMemory (FirstWrong atoms words) told
wrong_behind words test alternative left j behind told was is first =
    let at : IsTestRead words test alternative (j ∷ behind) = subst (IsTestRead words test alternative) is was in
    OrMemory-weaker (FirstWrong atoms behind) (FirstWrong atoms words) told first (λ w. at.wrong told w)

pub form_behind : (words : List (List ℕ)) (test : List (List Atom)) (alternative : List Atom) (left : List (List ℕ)) (j : List ℕ) (behind : List (List ℕ)) → IsTestRead words test alternative left → left ≡ j ∷ behind → HasForm atoms behind
form_behind words test alternative left j behind was is = (subst (HasForm joint) is was.form).1

-- at the end of the words the constraint is whole
pub is_whole : (words : List (List ℕ)) (test : List (List Atom)) (alternative : List Atom) → IsTestRead words test alternative [] → AreSpelled words (between (codes "or") alternative_parts (test ++ alternative ∷ [])) × HasAtoms (Some (test ++ alternative ∷ []))
is_whole words test alternative was = (
  record { texts = was.texts ∙ append-nil _; fit = was.fit },
  (omega (arith, length-append test (alternative ∷ [])), all_append (λ (atoms : List Atom). 0 < length atoms) test (alternative ∷ []) was.alternatives_some (was.some, tt)),
)

-- an atom and the word in front of it are taken from the words
pub fewer_left : (left after : List (Bor (List ℕ))) (j : List ℕ) (behind : List (List ℕ)) (atom : Atom) → texts left ≡ j ∷ behind → IsAtomRead behind atom (texts after) → length after < length left
fewer_left left after j behind atom is read =
    omega (arith, ap length is, ap length read.texts, length-append (map text_of (atom_parts atom)) (texts after), length-map left (λ (w : Bor (List ℕ)). w.now), length-map after (λ (w : Bor (List ℕ)). w.now))
