-- What is printed of a script spells it.
use Rattle.std.proofs.Common.{◌≡◌, ℕ, Bool, true, false, not, cond, List, [], ◌∷◌, map, refl, ap, ◌∙◌, append_assoc}
use Rattle.std.specs.List.{flat_map, AllByRecursion}
use Rattle.gdi_kinds.specs.declared.call.Call.{Call}
use Rattle.gdi_kinds.specs.declared.call.Call.TheVariants.{NewLabel, NewType, Vertex, Has, DropVertex, Tag, Untag, Tags, Set, Add, Get, Unset, Props, Edge, UEdge, Cut, Target, ETag, EUntag, ETags, ESet, EAdd, EGet, EUnset, EProps, Edges, Near, Degree, Find, Hood, Levels, Parts, Scan, Vertices, Arcs}
use Rattle.gdi_kinds.specs.declared.txn.Txn.{Txn}
use Rattle.script_text.specs.declared.step.Step.{Step}
use Rattle.script_text.specs.declared.step.Step.TheVariants as step
use Rattle.script_text.specs.CallLines.{parts_of, line_of_call}
use Rattle.text_words.specs.Lines.{lines_of}
use Rattle.script_text.specs.Faults.{IsStep}
use Rattle.script_text.specs.Scripts.{is_skipped, counted, line_of, step_text, steps_of_txn, steps_of_section, steps_of_script, IsHeld, IsTxn, IsScript, Spells, script_text}
use Rattle.text_words.proofs.PrintLemmas.{Prints, ArePlain, kind_plain, dir_plain, many_plain, label_plain, scope_plain, all_append, test_plain, parts_print, line_ends}

parts_plain : (call : Call) → ArePlain (parts_of call)
parts_plain (NewLabel label) = (refl, (tt, tt))
parts_plain (NewType prop kind many) = (refl, (tt, (kind_plain kind, many_plain many)))
parts_plain (Vertex id) = (refl, (tt, tt))
parts_plain (Has id) = (refl, (tt, tt))
parts_plain (DropVertex id) = (refl, (tt, tt))
parts_plain (Tag id label) = (refl, (tt, (tt, tt)))
parts_plain (Untag id label) = (refl, (tt, (tt, tt)))
parts_plain (Tags id) = (refl, (tt, tt))
parts_plain (Set id prop v) = (refl, (tt, (tt, (tt, tt))))
parts_plain (Add id prop v) = (refl, (tt, (tt, (tt, tt))))
parts_plain (Get id prop) = (refl, (tt, (tt, tt)))
parts_plain (Unset id prop) = (refl, (tt, (tt, tt)))
parts_plain (Props id) = (refl, (tt, tt))
parts_plain (Edge source target label) = (refl, (tt, (tt, label_plain label)))
parts_plain (UEdge source target label) = (refl, (tt, (tt, label_plain label)))
parts_plain (Cut source ordinal) = (refl, (tt, (tt, tt)))
parts_plain (Target source ordinal) = (refl, (tt, (tt, tt)))
parts_plain (ETag source ordinal label) = (refl, (tt, (tt, (tt, tt))))
parts_plain (EUntag source ordinal label) = (refl, (tt, (tt, (tt, tt))))
parts_plain (ETags source ordinal) = (refl, (tt, (tt, tt)))
parts_plain (ESet source ordinal prop v) = (refl, (tt, (tt, (tt, (tt, tt)))))
parts_plain (EAdd source ordinal prop v) = (refl, (tt, (tt, (tt, (tt, tt)))))
parts_plain (EGet source ordinal prop) = (refl, (tt, (tt, (tt, tt))))
parts_plain (EUnset source ordinal prop) = (refl, (tt, (tt, (tt, tt))))
parts_plain (EProps source ordinal) = (refl, (tt, (tt, tt)))
parts_plain (Edges id dir test) = (refl, (tt, (dir_plain dir, test_plain test)))
parts_plain (Near id dir) = (refl, (tt, (dir_plain dir, tt)))
parts_plain (Degree id dir) = (refl, (tt, (dir_plain dir, tt)))
parts_plain (Find label test) = (refl, (tt, test_plain test))
parts_plain (Hood id depth) = (refl, (tt, (tt, tt)))
parts_plain (Levels id) = (refl, (tt, tt))
parts_plain Parts = (refl, tt)
parts_plain (Scan label test) = (refl, (scope_plain label, test_plain test))
parts_plain Vertices = (refl, tt)
parts_plain Arcs = (refl, tt)

-- a call's line counts
call_counts : (call : Call) → is_skipped (line_of_call call) ≡ false
call_counts (NewLabel label) = refl
call_counts (NewType prop kind many) = refl
call_counts (Vertex id) = refl
call_counts (Has id) = refl
call_counts (DropVertex id) = refl
call_counts (Tag id label) = refl
call_counts (Untag id label) = refl
call_counts (Tags id) = refl
call_counts (Set id prop v) = refl
call_counts (Add id prop v) = refl
call_counts (Get id prop) = refl
call_counts (Unset id prop) = refl
call_counts (Props id) = refl
call_counts (Edge source target label) = refl
call_counts (UEdge source target label) = refl
call_counts (Cut source ordinal) = refl
call_counts (Target source ordinal) = refl
call_counts (ETag source ordinal label) = refl
call_counts (EUntag source ordinal label) = refl
call_counts (ETags source ordinal) = refl
call_counts (ESet source ordinal prop v) = refl
call_counts (EAdd source ordinal prop v) = refl
call_counts (EGet source ordinal prop) = refl
call_counts (EUnset source ordinal prop) = refl
call_counts (EProps source ordinal) = refl
call_counts (Edges id dir test) = refl
call_counts (Near id dir) = refl
call_counts (Degree id dir) = refl
call_counts (Find label test) = refl
call_counts (Hood id depth) = refl
call_counts (Levels id) = refl
call_counts Parts = refl
call_counts (Scan label test) = refl
call_counts Vertices = refl
call_counts Arcs = refl

-- ---- lines

pub line_prints : (s : Step) → IsStep s → Prints (line_of s)
line_prints step.Section fits = refl
line_prints (step.Begin true) fits = refl
line_prints (step.Begin false) fits = refl
line_prints (step.Does call) fits = parts_print (parts_of call) fits.parts (parts_plain call)
line_prints (step.Close true) fits = refl
line_prints (step.Close false) fits = refl

line_counts : (s : Step) → is_skipped (line_of s) ≡ false
line_counts step.Section = refl
line_counts (step.Begin true) = refl
line_counts (step.Begin false) = refl
line_counts (step.Does call) = call_counts call
line_counts (step.Close true) = refl
line_counts (step.Close false) = refl

printed_lines : (steps : List Step) → AllByRecursion IsStep steps → lines_of (flat_map step_text steps) ≡ map line_of steps
printed_lines [] fit = refl
printed_lines (s ∷ steps) fit =
    ap lines_of (append_assoc (line_of s) (10 ∷ []) (flat_map step_text steps))
    ∙ line_ends (line_of s) (flat_map step_text steps) (line_prints s fit.0)
    ∙ ap (λ (ls : List (List ℕ)). line_of s ∷ ls) (printed_lines steps fit.1)

all_count : (steps : List Step) → counted (map line_of steps) ≡ map line_of steps
all_count [] = refl
all_count (s ∷ steps) = ap (λ (b : Bool). cond (not b) (line_of s ∷ counted (map line_of steps)) (counted (map line_of steps))) (line_counts s) ∙ ap (λ (ls : List (List ℕ)). line_of s ∷ ls) (all_count steps)

calls_have_lines : (whole : Bool) (calls : List Call) → AllByRecursion (IsHeld whole) calls → AllByRecursion IsStep (map step.Does calls)
calls_have_lines whole [] held = tt
calls_have_lines whole (call ∷ calls) held = (held.0.spelled, calls_have_lines whole calls held.1)

txn_has_lines : (txn : Txn) → IsTxn txn → AllByRecursion IsStep (steps_of_txn txn)
txn_has_lines txn is = (tt, all_append IsStep (map step.Does txn.calls) (step.Close txn.aborts ∷ []) (calls_have_lines txn.whole txn.calls is.calls) (tt, tt))

txns_have_lines : (txns : List Txn) → AllByRecursion IsTxn txns → AllByRecursion IsStep (flat_map steps_of_txn txns)
txns_have_lines [] all = tt
txns_have_lines (txn ∷ txns) all = all_append IsStep (steps_of_txn txn) (flat_map steps_of_txn txns) (txn_has_lines txn all.0) (txns_have_lines txns all.1)

pub script_has_lines : (sections : List (List Txn)) → AllByRecursion (AllByRecursion IsTxn) sections → AllByRecursion IsStep (steps_of_script sections)
script_has_lines [] all = tt
script_has_lines (txns ∷ sections) all = all_append IsStep (steps_of_section txns) (steps_of_script sections) (tt, txns_have_lines txns all.0) (script_has_lines sections all.1)

pub printed_is_spelled : (script : List (List Txn)) (bytes : List ℕ) → bytes ≡ script_text script → IsScript script → Spells bytes script
printed_is_spelled script bytes is form = record {
  form = form;
  lines = ap (λ (b : List ℕ). counted (lines_of b)) is ∙ ap counted (printed_lines (steps_of_script script) (script_has_lines script form.txns)) ∙ all_count (steps_of_script script);
}
