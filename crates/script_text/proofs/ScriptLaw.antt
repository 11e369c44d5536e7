-- A text spells one script at most, and then it has no first wrong line.
use Rattle.std.proofs.Common.{◌≡◌, ℕ, ◌+◌, ◌≤◌, Bool, true, false, not, cond, List, [], ◌∷◌, ◌++◌, map, length, refl, sym, ap, subst, ◌∙◌, append_assoc, arith, inl, inr, Result, Ok, Err, MatchResult}
use Rattle.std.specs.Prelude.{sum_by, ◌&&◌, nat_lt, nat_le}
use Rattle.std.specs.List.{flat_map, AllByRecursion}
use Rattle.std.proofs.lemmas.Bool.{false≢true, lt-ltb, le-leb}
use Rattle.std.proofs.lemmas.List.{append-nil}
use Rattle.std.proofs.lemmas.List.Elements.{filter-append}
use Rattle.std.proofs.lemmas.List.Sums.{sum_by-append}
use Rattle.gdi_kinds.specs.Calls.{is_whole_call}
use Rattle.gdi_kinds.specs.declared.call.Call.{Call}
use Rattle.gdi_kinds.specs.declared.txn.Txn.{Txn}
use Rattle.text_words.specs.Spelling.{atoms_in}
use Rattle.text_words.proofs.PrintLemmas.{both_true}
use Rattle.script_text.specs.declared.step.Step.{Step}
use Rattle.script_text.specs.declared.step.Step.TheVariants as step
use Rattle.script_text.specs.declared.place.Stage.{Stage}
use Rattle.script_text.specs.declared.place.Stage.TheVariants as stage
use Rattle.script_text.specs.declared.place.Place.{Place}
use Rattle.script_text.specs.CallLines.{test_of}
use Rattle.script_text.specs.Scripts.{is_skipped, counted, line_of, steps_of_txn, steps_of_script, IsHeld, IsTxn, IsScript, Spells}
use Rattle.script_text.specs.Faults.{IsStep, stands, is_within, after, Leads, start, IsOpen, FaultIn, IsWrongLine, IsFirstFault, SpellsAlone}
use Rattle.script_text.specs.declared.script_reader.ScriptRefused.{ScriptRefused}
use Rattle.script_text.specs.declared.script_reader.ScriptRefused.TheVariants as refused
use Rattle.script_text.specs.Reading.{TellsFault, IsAnswered}
use Rattle.script_text.proofs.PrintedLemmas.{script_has_lines}
use Rattle.script_text.proofs.LineLaw.{no_fault, step_same}

-- ---- a script from its steps

-- what the steps behind say: the calls of the transaction that they close and how it ends, the transactions of the
-- section that goes on in front of them, and the sections
record Behind : Type 0 where
  calls : List Call
  aborts : Bool
  txns : List Txn
  sections : List (List Txn)

abbrev with_step : Step → Behind → Behind
with_step step.Section b = record b { txns = []; sections = b.txns ∷ b.sections }
with_step (step.Begin whole) b = record b { calls = []; txns = record { whole = whole; calls = b.calls; aborts = b.aborts } ∷ b.txns }
with_step (step.Does call) b = record b { calls = call ∷ b.calls }
with_step (step.Close aborts) b = record b { calls = []; aborts = aborts }

abbrev behind : List Step → Behind
behind [] = record { calls = []; aborts = false; txns = []; sections = [] }
behind (s ∷ steps) = with_step s (behind steps)

record Says (b : Behind) (calls : List Call) (aborts : Bool) (txns : List Txn) (sections : List (List Txn)) : Type 0 where
  calls_are : b.calls ≡ calls
  aborts_is : b.aborts ≡ aborts
  txns_are : b.txns ≡ txns
  sections_are : b.sections ≡ sections

record Holds (b : Behind) (txns : List Txn) (sections : List (List Txn)) : Type 0 where
  txns_are : b.txns ≡ txns
  sections_are : b.sections ≡ sections

calls_said : (calls : List Call) (aborts : Bool) (rest : List Step) (txns : List Txn) (sections : List (List Txn)) → Holds (behind rest) txns sections → Says (behind (map step.Does calls ++ step.Close aborts ∷ rest)) calls aborts txns sections
calls_said [] aborts rest txns sections holds = record { calls_are = refl; aborts_is = refl; txns_are = holds.txns_are; sections_are = holds.sections_are }
calls_said (call ∷ calls) aborts rest txns sections holds =
    let says = calls_said calls aborts rest txns sections holds in
    record { calls_are = ap (λ (cs : List Call). call ∷ cs) says.calls_are; aborts_is = says.aborts_is; txns_are = says.txns_are; sections_are = says.sections_are }

holds_along : (steps others : List Step) (txns : List Txn) (sections : List (List Txn)) → steps ≡ others → Holds (behind others) txns sections → Holds (behind steps) txns sections
holds_along steps others txns sections same holds = subst (λ (ss : List Step). Holds (behind ss) txns sections) (sym same) holds

txn_of_parts : (t : Txn) (b : Behind) (txns : List Txn) (sections : List (List Txn)) → Says b t.calls t.aborts txns sections → Holds (with_step (step.Begin t.whole) b) (t ∷ txns) sections
txn_of_parts t b txns sections says = record {
  txns_are = ap (λ (cs : List Call). record { whole = t.whole; calls = cs; aborts = b.aborts } ∷ b.txns) says.calls_are
      ∙ ap (λ (a : Bool). record { whole = t.whole; calls = t.calls; aborts = a } ∷ b.txns) says.aborts_is
      ∙ ap (λ (ts : List Txn). t ∷ ts) says.txns_are;
  sections_are = says.sections_are;
}

txn_said : (t : Txn) (rest : List Step) (txns : List Txn) (sections : List (List Txn)) → Holds (behind rest) txns sections → Holds (behind (steps_of_txn t ++ rest)) (t ∷ txns) sections
txn_said t rest txns sections holds =
    let says = calls_said t.calls t.aborts rest txns sections holds in
    holds_along (steps_of_txn t ++ rest) (step.Begin t.whole ∷ (map step.Does t.calls ++ step.Close t.aborts ∷ rest)) (t ∷ txns) sections
    (ap (λ (ss : List Step). step.Begin t.whole ∷ ss) (append_assoc (map step.Does t.calls) (step.Close t.aborts ∷ []) rest))
    (txn_of_parts t (behind (map step.Does t.calls ++ step.Close t.aborts ∷ rest)) txns sections says)

txns_said : (txns : List Txn) (rest : List Step) (sections : List (List Txn)) → Holds (behind rest) [] sections → Holds (behind (flat_map steps_of_txn txns ++ rest)) txns sections
txns_said [] rest sections holds = holds
txns_said (t ∷ txns) rest sections holds =
    holds_along _ _ (t ∷ txns) sections (append_assoc (steps_of_txn t) (flat_map steps_of_txn txns) rest)
    (txn_said t (flat_map steps_of_txn txns ++ rest) txns sections (txns_said txns rest sections holds))

script_said : (sections : List (List Txn)) → Holds (behind (steps_of_script sections)) [] sections
script_said [] = record { txns_are = refl; sections_are = refl }
script_said (txns ∷ sections) =
    let holds = txns_said txns (steps_of_script sections) sections (script_said sections) in
    record { txns_are = refl; sections_are = ap (λ (ts : List Txn). ts ∷ (behind (flat_map steps_of_txn txns ++ steps_of_script sections)).sections) holds.txns_are ∙ ap (λ (ss : List (List Txn)). txns ∷ ss) holds.sections_are }

script_same : (script other : List (List Txn)) → steps_of_script script ≡ steps_of_script other → script ≡ other
script_same script other same =
    let a = script_said script in
    let b = script_said other in
    sym a.sections_are ∙ ap (λ (ss : List Step). (behind ss).sections) same ∙ b.sections_are

-- ---- steps from their lines

-- steps whose lines begin with the lines of others begin with these
record Begins (steps front : List Step) (lines : List (List ℕ)) : Type 0 where
  rest : List Step
  whole : steps ≡ front ++ rest
  texts : map line_of rest ≡ lines
  fit : AllByRecursion IsStep rest

begins_with : (steps front : List Step) (lines : List (List ℕ)) → AllByRecursion IsStep steps → AllByRecursion IsStep front → map line_of steps ≡ map line_of front ++ lines → Begins steps front lines
begins_with steps [] lines fit also same = record { rest = steps; whole = refl; texts = same; fit = fit }
begins_with [] (t ∷ front) lines fit also same = absurd (cc)
begins_with (s ∷ steps) (t ∷ front) lines fit also same =
    let first : s ≡ t = step_same (line_of s) s t refl fit.0 (cc) also.0 in
    let more = begins_with steps front lines fit.1 also.1 (cc) in
    record { rest = more.rest; whole = ap (λ (x : Step). x ∷ steps) first ∙ ap (λ (ss : List Step). t ∷ ss) more.whole; texts = more.texts; fit = more.fit }

no_lines : (steps : List Step) → map line_of steps ≡ [] → steps ≡ []
no_lines [] same = refl
no_lines (s ∷ steps) same = absurd (cc)

steps_same : (steps others : List Step) → AllByRecursion IsStep steps → AllByRecursion IsStep others → map line_of steps ≡ map line_of others → steps ≡ others
steps_same steps others fit also same =
    let begins = begins_with steps others [] fit also (same ∙ sym (append-nil (map line_of others))) in
    begins.whole ∙ ap (λ (ss : List Step). others ++ ss) (no_lines begins.rest begins.texts) ∙ append-nil others

-- a text spells one script
pub one_script : (bytes : List ℕ) (script other : List (List Txn)) → Spells bytes script → Spells bytes other → script ≡ other
one_script bytes script other spells also =
    script_same script other
    (steps_same (steps_of_script script) (steps_of_script other) (script_has_lines script spells.form.txns) (script_has_lines other also.form.txns) (sym spells.lines ∙ also.lines))

-- ---- where the steps of a script lead

abbrev place : Stage → ℕ → ℕ → ℕ → Place
place here a t c = record { stage = here; sections = a; txns = t; calls = c }

leads_append : (from : Place) (xs ys : List Step) (mid to : Place) → Leads from xs mid → Leads mid ys to → Leads from (xs ++ ys) to
leads_append from [] ys mid to first more = subst (λ (p : Place). Leads p ys to) (sym first) more
leads_append from (s ∷ xs) ys mid to first more = (first.0, first.1, leads_append (after from s) xs ys mid to first.2 more)

record Halves (from : Place) (xs ys : List Step) (to : Place) : Type 0 where
  mid : Place
  front : Leads from xs mid
  back : Leads mid ys to

leads_split : (from : Place) (xs ys : List Step) (to : Place) → Leads from (xs ++ ys) to → Halves from xs ys to
leads_split from [] ys to leads = record { mid = from; front = refl; back = leads }
leads_split from (s ∷ xs) ys to leads =
    let halves = leads_split (after from s) xs ys to leads.2 in
    record { mid = halves.mid; front = (leads.0, leads.1, halves.front); back = halves.back }

leads_same : (from : Place) (steps : List Step) (to other : Place) → Leads from steps to → Leads from steps other → to ≡ other
leads_same from [] to other leads also = sym leads ∙ also
leads_same from (s ∷ steps) to other leads also = leads_same (after from s) steps to other leads.2 also.2

-- a place outside a transaction that steps lead to
record Arrives (from : Place) (steps : List Step) (sections txns : ℕ) : Type 0 where
  calls : ℕ
  leads : Leads from steps (place stage.Section sections txns calls)

may_call : (whole : Bool) (call : Call) → is_whole_call call ≡ whole → stands (stage.Txn whole) (step.Does call) ≡ true
may_call true call is = is
may_call false call is = ap not is

may_close : (whole aborts : Bool) → stands (stage.Txn whole) (step.Close aborts) ≡ true
may_close true aborts = refl
may_close false aborts = refl

calls_lead : (whole aborts : Bool) (a t c : ℕ) (calls : List Call) → AllByRecursion (IsHeld whole) calls → c + length calls ≤ 65536 → Arrives (place (stage.Txn whole) a t c) (map step.Does calls ++ step.Close aborts ∷ []) a t
calls_lead whole aborts a t c [] held few = record { calls = c; leads = (may_close whole aborts, refl, refl) }
calls_lead whole aborts a t c (call ∷ calls) held few =
    let more = calls_lead whole aborts a t (c + 1) calls held.1 (omega arith) in
    let within : nat_lt c 65536 && nat_le (atoms_in (test_of call)) 64 ≡ true = both_true _ _ (lt-ltb c 65536 (omega arith)) (le-leb (atoms_in (test_of call)) 64 held.0.few_atoms) in
    record { calls = more.calls; leads = (may_call whole call held.0.place, within, more.leads) }

txns_lead : (a t c : ℕ) (txns : List Txn) → AllByRecursion IsTxn txns → t + length txns ≤ 1048576 → (u : ℕ) × ((u ≡ t + length txns) × Arrives (place stage.Section a t c) (flat_map steps_of_txn txns) a u)
txns_lead a t c [] all few = (t, (omega arith, record { calls = c; leads = refl }))
txns_lead a t c (txn ∷ txns) all few =
    let one = calls_lead txn.whole txn.aborts a (t + 1) 0 txn.calls all.0.calls (omega (arith, all.0.few_calls)) in
    let more = txns_lead a (t + 1) one.calls txns all.1 (omega arith) in
    let within : nat_lt t 1048576 ≡ true = lt-ltb t 1048576 (omega arith) in
    let first : Leads (place stage.Section a t c) (steps_of_txn txn) (place stage.Section a (t + 1) one.calls) = (refl, within, one.leads) in
    (more.0, (omega (arith, more.1.0), record { calls = more.1.1.calls; leads = leads_append (place stage.Section a t c) (steps_of_txn txn) (flat_map steps_of_txn txns) _ _ first more.1.1.leads }))

record Ends (from : Place) (steps : List Step) : Type 0 where
  to : Place
  leads : Leads from steps to
  closed : ¬ IsOpen to.stage

sections_lead : (here : Stage) (a t c : ℕ) (sections : List (List Txn)) → stands here step.Section ≡ true → ¬ IsOpen here → AllByRecursion (AllByRecursion IsTxn) sections → a + length sections ≤ 4096 → t + sum_by length sections ≤ 1048576 → Ends (place here a t c) (steps_of_script sections)
sections_lead here a t c [] may closed all few few_txns = record { to = place here a t c; leads = refl; closed = closed }
sections_lead here a t c (txns ∷ sections) may closed all few few_txns =
    let few_here : t + (length txns + sum_by length sections) ≤ 1048576 = omega (arith, few_txns, sum_by-append length (txns ∷ []) sections) in
    let one = txns_lead (a + 1) t c txns all.0 (omega arith) in
    let more = sections_lead stage.Section (a + 1) one.0 one.1.1.calls sections refl (λ opened. opened) all.1 (omega arith) (omega (arith, one.1.0)) in
    let within : nat_lt a 4096 ≡ true = lt-ltb a 4096 (omega arith) in
    record {
      to = more.to;
      leads = (may, within, leads_append (place stage.Section (a + 1) t c) (flat_map steps_of_txn txns) (steps_of_script sections) _ more.to one.1.1.leads more.leads);
      closed = more.closed;
    }

script_leads : (sections : List (List Txn)) → IsScript sections → Ends start (steps_of_script sections)
script_leads sections is = sections_lead stage.Outside 0 0 0 sections refl (λ opened. opened) is.txns (omega (arith, is.few_sections)) (omega (arith, is.few_txns))

-- ---- no line is wrong

counted-append : (xs ys : List (List ℕ)) → counted (xs ++ ys) ≡ counted xs ++ counted ys
counted-append xs ys = filter-append (λ (line : List ℕ). not (is_skipped line)) xs ys

first_counts : (line : List ℕ) (lines : List (List ℕ)) → is_skipped line ≡ false → counted (line ∷ lines) ≡ line ∷ counted lines
first_counts line lines counts = ap (λ (b : Bool). cond (not b) (line ∷ counted lines) (counted lines)) counts

-- a line that steps go on with isn't wrong
not_wrong : (here : Place) (line : List ℕ) (s : Step) (kind : ℕ) → line ≡ line_of s → IsStep s → stands here.stage s ≡ true → is_within here s ≡ true → ¬ IsWrongLine here line kind
not_wrong here line s kind is fits may within (inl fault) = no_fault here.stage line s kind (record { text = is; fits = fits; stands = may }) fault
not_wrong here line s kind is fits may within (inr (eight, (t, does, past))) =
    let same : s ≡ t = step_same line s t is fits does.text does.fits in
    false≢true (sym past ∙ ap (is_within here) (sym same) ∙ within)

goes_on : (here : Place) (rest : List Step) (to : Place) (lines : List (List ℕ)) (kind : ℕ) → Leads here rest to → ¬ IsOpen to.stage → AllByRecursion IsStep rest → map line_of rest ≡ counted lines → ¬ FaultIn here lines kind
goes_on here [] to [] kind leads closed fit same fault = closed (subst (λ (p : Place). IsOpen p.stage) leads fault.0)
goes_on here (s ∷ rest) to [] kind leads closed fit same fault = absurd (cc)
goes_on here [] to (line ∷ lines) kind leads closed fit same fault = let e : [] ≡ line ∷ counted lines = same ∙ first_counts line lines fault.0 in absurd (cc)
goes_on here (s ∷ rest) to (line ∷ lines) kind leads closed fit same fault =
    let e : line_of s ∷ map line_of rest ≡ line ∷ counted lines = same ∙ first_counts line lines fault.0 in
    not_wrong here line s kind (cc) fit.0 leads.0 leads.1 fault.1

pub no_first_fault : (bytes : List ℕ) (script : List (List Txn)) (number kind : ℕ) → Spells bytes script → ¬ IsFirstFault bytes number kind
no_first_fault bytes script number kind spells fault =
    let steps : List Step = steps_of_script script in
    let fit = script_has_lines script spells.form.txns in
    let ends = script_leads script spells.form in
    let lines : map line_of steps ≡ map line_of fault.good.steps ++ counted fault.rest =
    sym spells.lines ∙ ap counted fault.lines ∙ counted-append fault.before fault.rest ∙ ap (λ (ls : List (List ℕ)). ls ++ counted fault.rest) fault.good.texts in
    let begins = begins_with steps fault.good.steps (counted fault.rest) fit fault.good.fit lines in
    let halves = leads_split start fault.good.steps begins.rest ends.to (subst (λ (ss : List Step). Leads start ss ends.to) begins.whole ends.leads) in
    let same : halves.mid ≡ fault.place = leads_same start fault.good.steps halves.mid fault.place halves.front fault.good.leads in
    goes_on fault.place begins.rest ends.to fault.rest kind (subst (λ (p : Place). Leads p begins.rest ends.to) same halves.back) ends.closed begins.fit begins.texts fault.wrong

pub spells_alone : (bytes : List ℕ) (script : List (List Txn)) → Spells bytes script → SpellsAlone bytes script
spells_alone bytes script spells = record {
  spelled = spells;
  alone = λ other also. one_script bytes other script also spells;
  faultless = λ number kind. no_first_fault bytes script number kind spells;
}

-- what reading answers for a text that spells a script
pub is_answered : (bytes : List ℕ) (script : List (List Txn)) (answer : Result (List (List Txn)) ScriptRefused) → Spells bytes script → MatchResult answer (Spells bytes) (TellsFault bytes) → IsAnswered script answer
is_answered bytes script (Ok read) spells told = one_script bytes read script told spells
is_answered bytes script (Err (refused.Bad line kind)) spells told = no_first_fault bytes script line kind spells told
is_answered bytes script (Err refused.NoMemory) spells told = tt
