-- A text without a fault spells a script: it isn't so that it spells none. Where the goal is that something isn't so, a
-- question may be answered either way, and so a fault is looked for by each of its kinds in turn.
use Rattle.std.proofs.Common.{◌≡◌, ◌≢◌, ℕ, ◌+◌, ◌≤◌, Bool, true, false, not, cond, List, [], ◌∷◌, ◌++◌, map, length, Option, Some, None, refl, sym, ap, subst, ◌∙◌, ◌⊎◌, inl, inr, append_assoc, arith}
use Rattle.std.specs.List.{AllByRecursion}
use Rattle.std.proofs.lemmas.Bool.{cases_Bool, eqb-true, eqb-false}
use Rattle.std.proofs.lemmas.List.{append-nil, map-append}
use Rattle.std.proofs.lemmas.List.Elements.{filter-append}
use Rattle.gdi_kinds.specs.declared.txn.Txn.{Txn}
use Rattle.text_words.specs.declared.wrong.Wrong.{Wrong}
use Rattle.text_words.specs.declared.wrong.Wrong.TheVariants as wrong
use Rattle.text_words.specs.Lines.{lines_of}
use Rattle.text_words.specs.Spelling.{text_of, IsPart}
use Rattle.text_words.specs.Words.{IsOpening}
use Rattle.text_words.specs.Forms.{HasForm, FirstWrong}
use Rattle.script_text.specs.declared.step.Step.{Step}
use Rattle.script_text.specs.declared.step.Step.TheVariants as step
use Rattle.script_text.specs.declared.step.Head.{Head}
use Rattle.script_text.specs.declared.step.Head.TheVariants as head
use Rattle.script_text.specs.declared.verb.Verb.{Verb}
use Rattle.script_text.specs.declared.place.Stage.{Stage}
use Rattle.script_text.specs.declared.place.Stage.TheVariants as stage
use Rattle.script_text.specs.declared.script_reader.Reader.{Reader}
use Rattle.script_text.specs.Verbs.{word_of, form_of, IsCallOf}
use Rattle.script_text.specs.Scripts.{is_skipped, counted, line_of, Spells}
use Rattle.script_text.specs.Faults.{head_text, form_behind, may_stand, IsClean, HasWords, kind_of, DoesStep, IsStepOf, IsFault, not_text, no_word, ill_quoted, wrong_words, is_within, start, IsOpen, FaultIn, IsFirstFault}
use Rattle.script_text.specs.Reading.{script_at}
use Rattle.script_text.specs.Faultless.{IsFaultless, FaultlessTextSpells, SpellingTextIsFaultless}
use Rattle.script_text.proofs.StepLemmas.{does_step, is_misplaced}
use Rattle.script_text.proofs.ReadingLemmas.{steps_in, IsReading, taken, step_adds}
use Rattle.script_text.proofs.PartLemmas.{spelled_at}
use Rattle.script_text.proofs.ScriptLaw.{no_first_fault}
use Rattle.script_text.proofs.FaultlessWords.{AreParts, found}
use Rattle.script_text.proofs.FaultlessCalls.{IsCallFrom, call_from}

-- ---- one line

record Opening (line : List ℕ) : Type 0 where
  first : List ℕ
  behind : Option (List ℕ)
  opening : IsOpening line first behind

opening_more : (b : ℕ) (line w : List ℕ) (o : Option (List ℕ)) → b ≢ 32 → IsOpening line w o → IsOpening (b ∷ line) (b ∷ w) o
opening_more b line w None other is = ((other, is.0), ap (λ (x : List ℕ). b ∷ x) is.1)
opening_more b line w (Some rest) other is = ((other, is.0), ap (λ (x : List ℕ). b ∷ x) is.1)

opening_in : (line : List ℕ) → Opening line
opening_in [] = record { first = []; behind = None; opening = (tt, refl) }
opening_in (b ∷ line) =
    let more = opening_in line in
    elim (cases_Bool (Rattle.std.proofs.Common.eqb b 32)) [
      | inl space ↦ record { first = []; behind = Some line; opening = (tt, ap (λ (x : ℕ). x ∷ line) (eqb-true b 32 space)) }
      | inr other ↦ record { first = b ∷ more.first; behind = more.behind; opening = opening_more b line more.first more.behind (eqb-false b 32 other) more.opening }
    ]

-- words that are the parts of a call's form spell a call
call_is : (v : Verb) (words : List (List ℕ)) (are : AreParts (form_of v) words) (from : IsCallFrom v are.parts) → IsCallOf v words from.call
call_is v words are from = record {
  spelled = record {
    texts = ap (λ (x : List (List ℕ)). word_of v ∷ x) are.texts ∙ ap (map text_of) (sym from.is);
    fit = subst (AllByRecursion IsPart) (sym from.is) (tt, are.fit);
  };
  atoms = from.atoms;
  whole = from.whole;
}

-- the words behind a head are those of some step, where they have the form and none is misspelled
step_of_head : (h : Head) (words : List (List ℕ)) → HasForm (form_behind h) words → ((told : Wrong) → ¬ FirstWrong (form_behind h) words told) → ((s : Step) → IsStepOf h words s → ⊥) → ⊥
step_of_head head.Section words form right none = none step.Section form
step_of_head (head.Begin whole) words form right none = none (step.Begin whole) (form, refl)
step_of_head (head.Close aborts) words form right none = none (step.Close aborts) (form, refl)
step_of_head (head.Does v) words form right none =
    found (form_of v) words form right (λ are. let from = call_from v are.parts are.shape in none (step.Does from.call) (call_is v words are from))

-- a line without a fault does a step
never_stuck : (at : Stage) (line : List ℕ) → ((kind : ℕ) → ¬ IsFault at line kind) → ((s : Step) → ¬ DoesStep at line s) → ⊥
never_stuck at line right none =
    let o = opening_in line in
    right 1 (not_text refl (λ clean. right 2 (no_word refl clean o.first o.behind o.opening (λ h is. headed clean h is))))
  where
    headed : IsClean line → (h : Head) → (opening_in line).first ≡ head_text h → ⊥
    headed clean h is =
        let o = opening_in line in
        elim (cases_Bool (may_stand at h)) [
          | inl may ↦
              let has : HasWords at line h o.behind = record { clean = clean; opening = subst (λ (x : List ℕ). IsOpening line x o.behind) is o.opening; stands = may } in
              right 6 (ill_quoted refl h o.behind has (λ words are.
              right 4 (wrong_words h o.behind has words are wrong.Form (inl (
                refl,
                λ form.
                    step_of_head h words form (λ told first. right (kind_of told) (wrong_words h o.behind has words are told (inr (form, first)) refl))
                    (λ s of. none s (does_step at line o.first o.behind h words s o.opening is may are of)),
              )) refl)))
          | inr not ↦ right 3 (is_misplaced at line o.first o.behind h clean o.opening is not)
        ]

-- ---- all lines

-- some lines have been read, and the others are left
record IsAt (bytes : List ℕ) (rest : List (List ℕ)) (r : Reader) : Type 0 where
  before : List (List ℕ)
  lines : lines_of bytes ≡ before ++ rest
  texts : counted before ≡ map line_of (steps_in r.place.stage r)
  reading : IsReading r

first_fault : (bytes : List ℕ) (rest : List (List ℕ)) (r : Reader) (kind : ℕ) (is : IsAt bytes rest r) → FaultIn r.place rest kind → IsFirstFault bytes (length is.before + 1) kind
first_fault bytes rest r kind is wrong = record {
  before = is.before;
  rest = rest;
  place = r.place;
  lines = is.lines;
  number_is = refl;
  good = record { steps = steps_in r.place.stage r; texts = is.texts; fit = is.reading.fit; leads = is.reading.leads };
  wrong = wrong;
}

counted_more : (before : List (List ℕ)) (line : List ℕ) → counted (before ++ line ∷ []) ≡ counted before ++ counted (line ∷ [])
counted_more before line = filter-append (λ (x : List ℕ). not (is_skipped x)) before (line ∷ [])

skips : (bytes line : List ℕ) (rest : List (List ℕ)) (r : Reader) → IsAt bytes (line ∷ rest) r → is_skipped line ≡ true → IsAt bytes rest r
skips bytes line rest r is skipped = record {
  before = is.before ++ line ∷ [];
  lines = is.lines ∙ sym (append_assoc is.before (line ∷ []) rest);
  texts = counted_more is.before line ∙ ap (λ (b : Bool). counted is.before ++ cond (not b) (line ∷ []) []) skipped ∙ append-nil (counted is.before) ∙ is.texts;
  reading = is.reading;
}

goes : (bytes line : List ℕ) (rest : List (List ℕ)) (r : Reader) (s : Step) → IsAt bytes (line ∷ rest) r → is_skipped line ≡ false → DoesStep r.place.stage line s → is_within r.place s ≡ true → IsAt bytes rest (taken r s)
goes bytes line rest r s is counts does within =
    let adds = step_adds r s is.reading does.fits does.stands within in
    record {
      before = is.before ++ line ∷ [];
      lines = is.lines ∙ sym (append_assoc is.before (line ∷ []) rest);
      texts = counted_more is.before line ∙ ap (λ (b : Bool). counted is.before ++ cond (not b) (line ∷ []) []) counts
          ∙ ap (λ (ls : List (List ℕ)). ls ++ line ∷ []) is.texts
          ∙ ap (λ (l : List ℕ). map line_of (steps_in r.place.stage r) ++ l ∷ []) does.text
          ∙ sym (map-append line_of (steps_in r.place.stage r) (s ∷ []))
          ∙ ap (map line_of) (sym adds.0);
      reading = adds.1;
    }

open_cases : (here : Stage) → IsOpen here ⊎ (¬ IsOpen here)
open_cases stage.Outside = inr (λ no. no)
open_cases stage.Section = inr (λ no. no)
open_cases (stage.Txn whole) = inl tt

walk : (bytes : List ℕ) (rest : List (List ℕ)) (r : Reader) → IsFaultless bytes → IsAt bytes rest r → ((script : List (List Txn)) → ¬ Spells bytes script) → ⊥
walk bytes [] r right is none =
    elim (open_cases r.place.stage) [
      | inl unclosed ↦ right (length is.before + 1) 3 (first_fault bytes [] r 3 is (unclosed, refl))
      | inr closed ↦ none (script_at r.place.stage r) (spelled_at r.place.stage bytes r closed is.reading (ap counted (is.lines ∙ append-nil is.before) ∙ is.texts))
    ]
walk bytes (line ∷ rest) r right is none =
    elim (cases_Bool (is_skipped line)) [
      | inl skipped ↦ walk bytes rest r right (skips bytes line rest r is skipped) none
      | inr counts ↦ never_stuck r.place.stage line (λ kind fault. right (length is.before + 1) kind (first_fault bytes (line ∷ rest) r kind is (counts, inl fault))) (λ s does. elim (cases_Bool (is_within r.place s)) [
        | inl within ↦ walk bytes rest (taken r s) right (goes bytes line rest r s is counts does within) none
        | inr beyond ↦ right (length is.before + 1) 8 (first_fault bytes (line ∷ rest) r 8 is (counts, inr (refl, (s, does, beyond))))
      ])
    ]

starts : (bytes : List ℕ) → IsAt bytes (lines_of bytes) (record { place = start; sections = []; txns = []; calls = [] })
starts bytes = record {
  before = [];
  lines = refl;
  texts = refl;
  reading = record { here = (refl, refl, refl, refl); few_sections = omega arith; few_txns = omega arith; sections = tt; txns = tt; fit = tt; leads = refl };
}

pub faultless_text_spells : FaultlessTextSpells
faultless_text_spells bytes right none = walk bytes (lines_of bytes) (record { place = start; sections = []; txns = []; calls = [] }) right (starts bytes) none

pub spelling_text_is_faultless : SpellingTextIsFaultless
spelling_text_is_faultless bytes some number kind fault = some (λ script spells. no_first_fault bytes script number kind spells fault)
