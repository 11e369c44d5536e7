-- The step that a line does.
use Rattle.std.proofs.Common.{◌≡◌, ◌≢◌, ℕ, Bool, true, false, not, List, [], ◌∷◌, ◌++◌, map, Option, Some, None, refl, sym, ap, subst, ◌∙◌}
use Rattle.std.specs.Prelude.{codes}
use Rattle.std.specs.List.{flat_map}
use Rattle.std.proofs.lemmas.List.{append-nil}
use Rattle.gdi_kinds.specs.Calls.{is_whole_call}
use Rattle.gdi_kinds.specs.declared.call.Call.{Call}
use Rattle.text_words.specs.declared.wrong.Wrong.{Wrong}
use Rattle.text_words.specs.declared.wrong.Wrong.TheVariants as wrong
use Rattle.script_text.specs.declared.verb.Verb.{Verb}
use Rattle.script_text.specs.declared.step.Step.{Step}
use Rattle.script_text.specs.declared.step.Step.TheVariants as step
use Rattle.script_text.specs.declared.step.Head.{Head}
use Rattle.script_text.specs.declared.step.Head.TheVariants as head
use Rattle.script_text.specs.declared.place.Stage.{Stage}
use Rattle.script_text.specs.declared.place.Stage.TheVariants as stage
use Rattle.text_words.specs.Spelling.{Part, text_of, spaced, line_of_parts}
use Rattle.script_text.specs.CallLines.{parts_of}
use Rattle.text_words.specs.Words.{IsCut, IsOpening, AreBehind}
use Rattle.script_text.specs.Verbs.{word_of, is_whole}
use Rattle.text_words.proofs.WordLemmas.{spaced_word}
use Rattle.text_words.specs.Forms.{IsWrong, OrMemory}
use Rattle.script_text.specs.Scripts.{line_of}
use Rattle.script_text.specs.Faults.{head_text, may_stand, stands, form_behind, stop_of, IsStep, IsStepOf, DoesStep, HasWords, IsClean, IsFault, OrNoMemory, AreFound, no_word, misplaced, ill_quoted, wrong_words}

-- words are what they are cut from
cut_text : (rest : List ℕ) (words : List (List ℕ)) → IsCut rest words → 32 ∷ rest ≡ flat_map spaced_word words
cut_text rest [] is = absurd is
cut_text rest (w ∷ []) is = ap (λ (x : List ℕ). 32 ∷ x) (is.1 ∙ sym (append-nil w))
cut_text rest (w ∷ next ∷ words) is = ap (λ (x : List ℕ). 32 ∷ x) (is.1.1 ∙ ap (λ (x : List ℕ). w ++ x) (cut_text is.0 (next ∷ words) is.2))

line_text : (line w : List ℕ) (behind : Option (List ℕ)) (words : List (List ℕ)) → IsOpening line w behind → AreBehind behind words → line ≡ w ++ flat_map spaced_word words
line_text line w None words opening are = opening.1 ∙ sym (append-nil w) ∙ ap (λ (ws : List (List ℕ)). w ++ flat_map spaced_word ws) (sym are)
line_text line w (Some rest) words opening are = opening.1 ∙ ap (λ (x : List ℕ). w ++ x) (cut_text rest words are)

parts_text : (parts : List Part) → flat_map spaced_word (map text_of parts) ≡ flat_map spaced parts
parts_text [] = refl
parts_text (p ∷ parts) = ap (λ (x : List ℕ). 32 ∷ text_of p ++ x) (parts_text parts)

line_of_words : (w : List ℕ) (words : List (List ℕ)) (parts : List Part) → w ∷ words ≡ map text_of parts → w ++ flat_map spaced_word words ≡ line_of_parts parts
line_of_words w words [] is = absurd (cc)
line_of_words w words (p ∷ parts) is =
    let first : w ≡ text_of p = cc in
    let rest : words ≡ map text_of parts = cc in
    ap (λ (x : List ℕ). x ++ flat_map spaced_word words) first ∙ ap (λ (ws : List (List ℕ)). text_of p ++ flat_map spaced_word ws) rest ∙ ap (λ (x : List ℕ). text_of p ++ x) (parts_text parts)

alone : (w : List ℕ) (words : List (List ℕ)) → words ≡ [] → w ++ flat_map spaced_word words ≡ w
alone w words none = ap (λ (ws : List (List ℕ)). w ++ flat_map spaced_word ws) none ∙ append-nil w

step_text : (h : Head) (words : List (List ℕ)) (s : Step) → IsStepOf h words s → head_text h ++ flat_map spaced_word words ≡ line_of s
step_text head.Section words step.Section is = alone (codes "section") words is
step_text (head.Begin true) words (step.Begin whole) is = alone (codes "all") words is.0 ∙ ap (λ (b : Bool). line_of (step.Begin b)) (sym is.1)
step_text (head.Begin false) words (step.Begin whole) is = alone (codes "txn") words is.0 ∙ ap (λ (b : Bool). line_of (step.Begin b)) (sym is.1)
step_text (head.Does verb) words (step.Does call) is = line_of_words (word_of verb) words (parts_of call) is.spelled.texts
step_text (head.Close true) words (step.Close aborts) is = alone (codes "abort") words is.0 ∙ ap (λ (b : Bool). line_of (step.Close b)) (sym is.1)
step_text (head.Close false) words (step.Close aborts) is = alone (codes "end") words is.0 ∙ ap (λ (b : Bool). line_of (step.Close b)) (sym is.1)
step_text h words s is = absurd is

step_fits : (h : Head) (words : List (List ℕ)) (s : Step) → IsStepOf h words s → IsStep s
step_fits (head.Does verb) words (step.Does call) is = record { parts = is.spelled.fit; atoms = is.atoms }
step_fits head.Section words step.Section is = tt
step_fits (head.Begin whole) words (step.Begin b) is = tt
step_fits (head.Close aborts) words (step.Close b) is = tt
step_fits h words s is = absurd is

pub section_stands : (at : Stage) → stands at step.Section ≡ may_stand at head.Section
section_stands stage.Outside = refl
section_stands stage.Section = refl
section_stands (stage.Txn true) = refl
section_stands (stage.Txn false) = refl

pub begin_stands : (at : Stage) (begun whole : Bool) → stands at (step.Begin begun) ≡ may_stand at (head.Begin whole)
begin_stands stage.Outside begun whole = refl
begin_stands stage.Section begun whole = refl
begin_stands (stage.Txn true) begun whole = refl
begin_stands (stage.Txn false) begun whole = refl

pub close_stands : (at : Stage) (closed aborts : Bool) → stands at (step.Close closed) ≡ may_stand at (head.Close aborts)
close_stands stage.Outside closed aborts = refl
close_stands stage.Section closed aborts = refl
close_stands (stage.Txn true) closed aborts = refl
close_stands (stage.Txn false) closed aborts = refl

pub does_stands : (at : Stage) (call : Call) (verb : Verb) → is_whole_call call ≡ is_whole verb → stands at (step.Does call) ≡ may_stand at (head.Does verb)
does_stands stage.Outside call verb same = refl
does_stands stage.Section call verb same = refl
does_stands (stage.Txn true) call verb same = same
does_stands (stage.Txn false) call verb same = ap not same

-- a step may stand where its head may
same_stands : (at : Stage) (h : Head) (words : List (List ℕ)) (s : Step) → IsStepOf h words s → stands at s ≡ may_stand at h
same_stands at head.Section words step.Section is = section_stands at
same_stands at (head.Begin whole) words (step.Begin begun) is = begin_stands at begun whole
same_stands at (head.Does verb) words (step.Does call) is = does_stands at call verb is.whole
same_stands at (head.Close aborts) words (step.Close closed) is = close_stands at closed aborts
same_stands at h words s is = absurd is

pub does_step : (at : Stage) (line w : List ℕ) (behind : Option (List ℕ)) (h : Head) (words : List (List ℕ)) (s : Step) → IsOpening line w behind → w ≡ head_text h → may_stand at h ≡ true → AreBehind behind words → IsStepOf h words s → DoesStep at line s
does_step at line w behind h words s opening is may are of = record {
  text = line_text line w behind words opening are ∙ ap (λ (x : List ℕ). x ++ flat_map spaced_word words) is ∙ step_text h words s of;
  fits = step_fits h words s of;
  stands = same_stands at h words s of ∙ may;
}

-- ---- what is wrong with a line

opened : (line w : List ℕ) (behind : Option (List ℕ)) (h : Head) → IsOpening line w behind → w ≡ head_text h → IsOpening line (head_text h) behind
opened line w behind h opening is = subst (λ (x : List ℕ). IsOpening line x behind) is opening

pub has_no_word : (at : Stage) (line w : List ℕ) (behind : Option (List ℕ)) → IsClean line → IsOpening line w behind → ((h : Head) → w ≢ head_text h) → IsFault at line 2
has_no_word at line w behind clean opening none = no_word refl clean w behind opening none

pub is_misplaced : (at : Stage) (line w : List ℕ) (behind : Option (List ℕ)) (h : Head) → IsClean line → IsOpening line w behind → w ≡ head_text h → may_stand at h ≡ false → IsFault at line 3
is_misplaced at line w behind h clean opening is may = misplaced refl clean h behind (opened line w behind h opening is) may

has_words : (at : Stage) (line w : List ℕ) (behind : Option (List ℕ)) (h : Head) → IsClean line → IsOpening line w behind → w ≡ head_text h → may_stand at h ≡ true → HasWords at line h behind
has_words at line w behind h clean opening is may = record { clean = clean; opening = opened line w behind h opening is; stands = may }

pub is_ill_quoted : (at : Stage) (line w : List ℕ) (behind : Option (List ℕ)) (h : Head) (found : Bool) (words : List (List ℕ)) → IsClean line → IsOpening line w behind → w ≡ head_text h → may_stand at h ≡ true → found ≡ false → AreFound found behind words → IsFault at line 6
is_ill_quoted at line w behind h found words clean opening is may none are =
    ill_quoted refl h behind (has_words at line w behind h clean opening is may) (subst (λ (b : Bool). AreFound b behind words) none are)

told_of : (at : Stage) (line : List ℕ) (behind : Option (List ℕ)) (h : Head) (words : List (List ℕ)) (told : Wrong) → HasWords at line h behind → AreBehind behind words → OrMemory (IsWrong (form_behind h) words) told → OrNoMemory (IsFault at line) (stop_of told)
told_of at line behind h words wrong.NoMemory has are told = tt
told_of at line behind h words wrong.Form has are told = wrong_words h behind has words are wrong.Form told refl
told_of at line behind h words wrong.Number has are told = wrong_words h behind has words are wrong.Number told refl
told_of at line behind h words wrong.Value has are told = wrong_words h behind has words are wrong.Value told refl
told_of at line behind h words wrong.Name has are told = wrong_words h behind has words are wrong.Name told refl

pub has_wrong_words : (at : Stage) (line w : List ℕ) (behind : Option (List ℕ)) (h : Head) (found : Bool) (words : List (List ℕ)) (told : Wrong) → IsClean line → IsOpening line w behind → w ≡ head_text h → may_stand at h ≡ true → found ≡ true → AreFound found behind words → OrMemory (IsWrong (form_behind h) words) told → OrNoMemory (IsFault at line) (stop_of told)
has_wrong_words at line w behind h found words told clean opening is may some are wrong =
    told_of at line behind h words told (has_words at line w behind h clean opening is may) (subst (λ (b : Bool). AreFound b behind words) some are) wrong

pub is_step : (at : Stage) (line w : List ℕ) (behind : Option (List ℕ)) (h : Head) (found : Bool) (words : List (List ℕ)) (s : Step) → IsOpening line w behind → w ≡ head_text h → may_stand at h ≡ true → found ≡ true → AreFound found behind words → IsStepOf h words s → DoesStep at line s
is_step at line w behind h found words s opening is may some are of =
    does_step at line w behind h words s opening is may (subst (λ (b : Bool). AreFound b behind words) some are) of
