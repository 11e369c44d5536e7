-- A text of the time before lists of values and undirected edges spells in the whole grammar what it spelled then.
use Rattle.std.proofs.Common.{◌≡◌, ℕ, Bool, true, false, List, [], ◌∷◌, map, Option, Some, None, refl, sym, ap, subst, ◌∙◌}
use Rattle.std.specs.List.{flat_map, AllByRecursion}
use Rattle.std.specs.Option.{option_map}
use Rattle.gdi_kinds.specs.declared.call.Call.{Call}
use Rattle.gdi_kinds.specs.declared.call.Call.TheVariants.{NewLabel, NewType, Vertex, Has, DropVertex, Tag, Untag, Tags, Set, Add, Get, Unset, Props, Edge, UEdge, Cut, Target, ETag, EUntag, ETags, ESet, EAdd, EGet, EUnset, EProps, Edges, Near, Degree, Find, Hood, Levels, Parts, Scan, Vertices, Arcs}
use Rattle.gdi_kinds.specs.declared.call.Dir.TheVariants.{Outward, Inward, Undirected, Either}
use Rattle.gdi_kinds.specs.declared.txn.Txn.{Txn}
use Rattle.text_words.specs.Lines.{lines_of}
use Rattle.text_words.specs.Spelling.{Part, IsPart, line_of_parts}
use Rattle.text_words.proofs.PrintLemmas.{all_append}
use Rattle.script_text.specs.declared.step.Step.{Step}
use Rattle.script_text.specs.declared.step.Step.TheVariants.{Section, Begin, Does, Close}
use Rattle.script_text.specs.CallLines.{parts_of}
use Rattle.script_text.specs.Scripts.{counted, line_of, steps_of_txn, steps_of_section, steps_of_script, IsHeld, IsTxn}
use Rattle.script_text.specs.OldScripts.{old_parts, old_line, IsOldCall, IsOldTxn, HadLine, HadLines, OldScriptsStay, OldScriptsAreAll}
use Rattle.script_text.proofs.ScriptLaw.{spells_alone}

some_same : {A : Type 0} (x y : A) → Some x ≡ Some y → x ≡ y
some_same x y same = cc

-- the words of a call that had a line are those of today
old_words : (call : Call) (parts : List Part) → old_parts call ≡ Some parts → parts_of call ≡ parts
old_words (NewLabel label) parts had = some_same _ _ had
old_words (NewType prop kind true) parts had = absurd (cc)
old_words (NewType prop kind false) parts had = some_same _ _ had
old_words (Vertex id) parts had = some_same _ _ had
old_words (Has id) parts had = some_same _ _ had
old_words (DropVertex id) parts had = some_same _ _ had
old_words (Tag id label) parts had = some_same _ _ had
old_words (Untag id label) parts had = some_same _ _ had
old_words (Tags id) parts had = some_same _ _ had
old_words (Set id prop v) parts had = some_same _ _ had
old_words (Add id prop v) parts had = absurd (cc)
old_words (Get id prop) parts had = some_same _ _ had
old_words (Unset id prop) parts had = some_same _ _ had
old_words (Props id) parts had = some_same _ _ had
old_words (Edge source target label) parts had = some_same _ _ had
old_words (UEdge source target label) parts had = absurd (cc)
old_words (Cut source ordinal) parts had = some_same _ _ had
old_words (Target source ordinal) parts had = some_same _ _ had
old_words (ETag source ordinal label) parts had = some_same _ _ had
old_words (EUntag source ordinal label) parts had = some_same _ _ had
old_words (ETags source ordinal) parts had = some_same _ _ had
old_words (ESet source ordinal prop v) parts had = some_same _ _ had
old_words (EAdd source ordinal prop v) parts had = absurd (cc)
old_words (EGet source ordinal prop) parts had = some_same _ _ had
old_words (EUnset source ordinal prop) parts had = some_same _ _ had
old_words (EProps source ordinal) parts had = some_same _ _ had
old_words (Edges id Outward test) parts had = some_same _ _ had
old_words (Edges id Inward test) parts had = some_same _ _ had
old_words (Edges id Undirected test) parts had = absurd (cc)
old_words (Edges id Either test) parts had = some_same _ _ had
old_words (Near id Outward) parts had = some_same _ _ had
old_words (Near id Inward) parts had = some_same _ _ had
old_words (Near id Undirected) parts had = absurd (cc)
old_words (Near id Either) parts had = some_same _ _ had
old_words (Degree id Outward) parts had = some_same _ _ had
old_words (Degree id Inward) parts had = some_same _ _ had
old_words (Degree id Undirected) parts had = absurd (cc)
old_words (Degree id Either) parts had = some_same _ _ had
old_words (Find label test) parts had = some_same _ _ had
old_words (Hood id depth) parts had = some_same _ _ had
old_words (Levels id) parts had = some_same _ _ had
old_words Parts parts had = some_same _ _ had
old_words (Scan label test) parts had = some_same _ _ had
old_words Vertices parts had = some_same _ _ had
old_words Arcs parts had = some_same _ _ had

mapped : (o : Option (List Part)) (line : List ℕ) → option_map line_of_parts o ≡ Some line → (parts : List Part) × ((o ≡ Some parts) × (line_of_parts parts ≡ line))
mapped None line same = absurd (cc)
mapped (Some parts) line same = (parts, (refl, some_same _ _ same))

-- the line of a step that had one is that of today
old_line_is : (s : Step) (line : List ℕ) → Some line ≡ old_line s → line ≡ line_of s
old_line_is Section line had = some_same _ _ had
old_line_is (Begin false) line had = some_same _ _ had
old_line_is (Begin true) line had = some_same _ _ had
old_line_is (Close false) line had = some_same _ _ had
old_line_is (Close true) line had = some_same _ _ had
old_line_is (Does call) line had =
    let from = mapped (old_parts call) line (sym had) in
    sym from.1.1 ∙ ap line_of_parts (sym (old_words call from.0 from.1.0))

old_lines_are : (lines : List (List ℕ)) (steps : List Step) → map Some lines ≡ map old_line steps → lines ≡ map line_of steps
old_lines_are [] [] same = refl
old_lines_are [] (s ∷ steps) same = absurd (cc)
old_lines_are (line ∷ lines) [] same = absurd (cc)
old_lines_are (line ∷ lines) (s ∷ steps) same =
    let first : line ≡ line_of s = old_line_is s line (cc) in
    let rest : lines ≡ map line_of steps = old_lines_are lines steps (cc) in
    cc

held_today : (whole : Bool) (call : Call) → IsOldCall whole call → IsHeld whole call
held_today whole call old = record {
  spelled = record { parts = subst (AllByRecursion IsPart) (sym (old_words call old.parts old.spelled)) old.fit; atoms = old.atoms };
  place = old.place;
  few_atoms = old.few_atoms;
}

all_to : {X : Type 0} (P Q : X → Type 0) → ((x : X) → P x → Q x) → (xs : List X) → AllByRecursion P xs → AllByRecursion Q xs
all_to P Q to [] all = tt
all_to P Q to (x ∷ xs) all = (to x all.0, all_to P Q to xs all.1)

all_both : {X : Type 0} (P Q R : X → Type 0) → ((x : X) → P x → Q x → R x) → (xs : List X) → AllByRecursion P xs → AllByRecursion Q xs → AllByRecursion R xs
all_both P Q R to [] all also = tt
all_both P Q R to (x ∷ xs) all also = (to x all.0 also.0, all_both P Q R to xs all.1 also.1)

txn_today : (txn : Txn) → IsOldTxn txn → IsTxn txn
txn_today txn old = record { calls = all_to (IsOldCall txn.whole) (IsHeld txn.whole) (held_today txn.whole) txn.calls old.calls; few_calls = old.few_calls }

pub old_scripts_stay : OldScriptsStay
old_scripts_stay bytes sections old = spells_alone bytes sections (record {
  form = record {
    few_sections = old.few_sections;
    few_txns = old.few_txns;
    txns = all_to (AllByRecursion IsOldTxn) (AllByRecursion IsTxn) (all_to IsOldTxn IsTxn txn_today) sections old.txns;
  };
  lines = old_lines_are (counted (lines_of bytes)) (steps_of_script sections) old.lines;
})

-- ---- a script whose calls had lines

held_then : (whole : Bool) (call : Call) → IsHeld whole call → HadLine call → IsOldCall whole call
held_then whole call held had = record {
  parts = had.0;
  spelled = had.1;
  fit = subst (AllByRecursion IsPart) (old_words call had.0 had.1) held.spelled.parts;
  atoms = held.spelled.atoms;
  few_atoms = held.few_atoms;
  place = held.place;
}

txn_then : (txn : Txn) → IsTxn txn → HadLines txn → IsOldTxn txn
txn_then txn is had = record { calls = all_both (IsHeld txn.whole) HadLine (IsOldCall txn.whole) (held_then txn.whole) txn.calls is.calls had; few_calls = is.few_calls }

-- a step whose line was that of today
abbrev IsOldStep : Step → Type 0
IsOldStep s = Some (line_of s) ≡ old_line s

call_then : (call : Call) → HadLine call → IsOldStep (Does call)
call_then call had = sym (ap (option_map line_of_parts) had.1 ∙ ap (λ (parts : List Part). Some (line_of_parts parts)) (sym (old_words call had.0 had.1)))

calls_then : (calls : List Call) → AllByRecursion HadLine calls → AllByRecursion IsOldStep (map Does calls)
calls_then [] all = tt
calls_then (call ∷ calls) all = (call_then call all.0, calls_then calls all.1)

begin_then : (whole : Bool) → IsOldStep (Begin whole)
begin_then true = refl
begin_then false = refl

close_then : (aborts : Bool) → IsOldStep (Close aborts)
close_then true = refl
close_then false = refl

txn_steps : (txn : Txn) → HadLines txn → AllByRecursion IsOldStep (steps_of_txn txn)
txn_steps txn had = (begin_then txn.whole, all_append IsOldStep (map Does txn.calls) (Close txn.aborts ∷ []) (calls_then txn.calls had) (close_then txn.aborts, tt))

txns_steps : (txns : List Txn) → AllByRecursion HadLines txns → AllByRecursion IsOldStep (flat_map steps_of_txn txns)
txns_steps [] all = tt
txns_steps (txn ∷ txns) all = all_append IsOldStep (steps_of_txn txn) (flat_map steps_of_txn txns) (txn_steps txn all.0) (txns_steps txns all.1)

sections_steps : (sections : List (List Txn)) → AllByRecursion (AllByRecursion HadLines) sections → AllByRecursion IsOldStep (steps_of_script sections)
sections_steps [] all = tt
sections_steps (txns ∷ sections) all = all_append IsOldStep (steps_of_section txns) (steps_of_script sections) (refl, txns_steps txns all.0) (sections_steps sections all.1)

lines_then : (steps : List Step) → AllByRecursion IsOldStep steps → map Some (map line_of steps) ≡ map old_line steps
lines_then [] all = refl
lines_then (s ∷ steps) all = let first : Some (line_of s) ≡ old_line s = all.0 in let rest : map Some (map line_of steps) ≡ map old_line steps = lines_then steps all.1 in cc

pub old_scripts_are_all : OldScriptsAreAll
old_scripts_are_all bytes sections spells had = record {
  few_sections = spells.form.few_sections;
  few_txns = spells.form.few_txns;
  txns = all_both (AllByRecursion IsTxn) (AllByRecursion HadLines) (AllByRecursion IsOldTxn) (all_both IsTxn HadLines IsOldTxn txn_then) sections spells.form.txns had;
  lines = ap (map Some) spells.lines ∙ lines_then (steps_of_script sections) (sections_steps sections had);
}
