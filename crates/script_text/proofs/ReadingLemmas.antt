-- What has been read so far are the steps of the lines so far, and each line adds its step.
use Rattle.std.proofs.Common.{◌≡◌, ℕ, ◌+◌, ◌<◌, ◌≤◌, Bool, true, false, not, List, [], ◌∷◌, ◌++◌, map, length, refl, sym, ap, subst, ◌∙◌, append_assoc, length-append, arith}
use Rattle.std.specs.Prelude.{sum_by, ◌&&◌, nat_lt, nat_le}
use Rattle.std.specs.List.{AllByRecursion}
use Rattle.std.proofs.lemmas.Bool.{ltb-true, leb-true, false≢true}
use Rattle.std.proofs.lemmas.List.{append-nil, map-append}
use Rattle.std.proofs.lemmas.List.Sums.{sum_by-append}
use Rattle.std.proofs.lemmas.Grind.{flat_map-append}
use Rattle.gdi_kinds.specs.Calls.{is_whole_call}
use Rattle.gdi_kinds.specs.declared.call.Call.{Call}
use Rattle.gdi_kinds.specs.declared.txn.Txn.{Txn}
use Rattle.script_text.specs.declared.step.Step.{Step}
use Rattle.script_text.specs.declared.step.Step.TheVariants as step
use Rattle.script_text.specs.declared.place.Stage.{Stage}
use Rattle.script_text.specs.declared.place.Stage.TheVariants as stage
use Rattle.script_text.specs.declared.place.Place.{Place}
use Rattle.script_text.specs.declared.script_reader.Reader.{Reader}
use Rattle.script_text.specs.CallLines.{IsCall, test_of}
use Rattle.text_words.specs.Spelling.{atoms_in}
use Rattle.script_text.specs.Scripts.{steps_of_section, steps_of_script, IsHeld, IsTxn}
use Rattle.script_text.specs.Faults.{IsStep, stands, is_within, after, start, Leads}
use Rattle.script_text.specs.Reading.{with_step}

-- the steps that have been read
abbrev pub steps_in : Stage → Reader → List Step
steps_in stage.Outside r = steps_of_script r.sections
steps_in stage.Section r = steps_of_script r.sections ++ steps_of_section r.txns
steps_in (stage.Txn whole) r = (steps_of_script r.sections ++ steps_of_section r.txns) ++ step.Begin whole ∷ map step.Does r.calls

-- what is kept of the open part, and how it is counted
abbrev pub IsHere : Stage → Reader → Type 0
IsHere stage.Outside r = (r.txns ≡ []) × (r.sections ≡ []) × (r.place.sections ≡ 0) × (r.place.txns ≡ 0)
IsHere stage.Section r = (r.place.sections ≡ length r.sections + 1) × (r.place.txns ≡ sum_by length r.sections + length r.txns)
IsHere (stage.Txn whole) r = (r.place.sections ≡ length r.sections + 1) × (r.place.txns ≡ sum_by length r.sections + length r.txns + 1) × (r.place.calls ≡ length r.calls) × (r.place.calls ≤ 65536) × AllByRecursion (IsHeld whole) r.calls

pub record IsReading (r : Reader) : Type 0 where
  pub here : IsHere r.place.stage r
  pub few_sections : r.place.sections ≤ 4096
  pub few_txns : r.place.txns ≤ 1048576
  pub sections : AllByRecursion (AllByRecursion IsTxn) r.sections
  pub txns : AllByRecursion IsTxn r.txns
  pub fit : AllByRecursion IsStep (steps_in r.place.stage r)
  pub leads : Leads start (steps_in r.place.stage r) r.place

all_push : {X : Type 0} (P : X → Type 0) (xs : List X) (x : X) → AllByRecursion P xs → P x → AllByRecursion P (xs ++ x ∷ [])
all_push P [] x all here = (here, tt)
all_push P (y ∷ ys) x all here = (all.0, all_push P ys x all.1 here)

leads_on : (from : Place) (steps : List Step) (to : Place) (s : Step) → Leads from steps to → stands to.stage s ≡ true → is_within to s ≡ true → Leads from (steps ++ s ∷ []) (after to s)
leads_on from [] to s leads may within =
    (subst (λ (p : Place). stands p.stage s ≡ true) (sym leads) may, subst (λ (p : Place). is_within p s ≡ true) (sym leads) within, ap (λ (p : Place). after p s) leads)
leads_on from (t ∷ steps) to s leads may within = (leads.0, leads.1, leads_on (after from t) steps to s leads.2 may within)

-- the reader with a step more
abbrev pub taken : Reader → Step → Reader
taken r s = record (with_step r.place.stage r s) { place = after r.place s }

-- one step more has been read
pub record Adds (r : Reader) (s : Step) : Type 0 where
  pub steps : steps_in (after r.place s).stage (taken r s) ≡ steps_in r.place.stage r ++ s ∷ []
  pub here : IsHere (after r.place s).stage (taken r s)
  pub few_sections : (after r.place s).sections ≤ 4096
  pub few_txns : (after r.place s).txns ≤ 1048576
  pub sections : AllByRecursion (AllByRecursion IsTxn) (taken r s).sections
  pub txns : AllByRecursion IsTxn (taken r s).txns

-- a reader by its parts
abbrev at : Stage → ℕ → ℕ → ℕ → List (List Txn) → List Txn → List Call → Reader
at here a t c sections txns calls = record { place = record { stage = here; sections = a; txns = t; calls = c }; sections = sections; txns = txns; calls = calls }

section_first : (a t c : ℕ) (ss : List (List Txn)) (ts : List Txn) (cs : List Call) → IsReading (at stage.Outside a t c ss ts cs) → nat_lt a 4096 ≡ true → Adds (at stage.Outside a t c ss ts cs) step.Section
section_first a t c ss ts cs was within =
    let lt : a < 4096 = ltb-true _ _ within in
    record {
      steps = ap (λ (xs : List Txn). steps_of_script ss ++ steps_of_section xs) was.here.0;
      here = (omega (arith, was.here.2, ap length was.here.1), omega (arith, was.here.3, ap (sum_by length) was.here.1, ap length was.here.0));
      few_sections = omega arith;
      few_txns = was.few_txns;
      sections = was.sections;
      txns = was.txns;
    }

section_next : (a t c : ℕ) (ss : List (List Txn)) (ts : List Txn) (cs : List Call) → IsReading (at stage.Section a t c ss ts cs) → nat_lt a 4096 ≡ true → Adds (at stage.Section a t c ss ts cs) step.Section
section_next a t c ss ts cs was within =
    let lt : a < 4096 = ltb-true _ _ within in
    record {
      steps = ap (λ (xs : List Step). xs ++ step.Section ∷ []) (flat_map-append steps_of_section ss (ts ∷ []) ∙ ap (λ (xs : List Step). steps_of_script ss ++ xs) (append-nil (steps_of_section ts)));
      here = (omega (arith, was.here.0, length-append ss (ts ∷ [])), omega (arith, was.here.1, sum_by-append length ss (ts ∷ [])));
      few_sections = omega arith;
      few_txns = was.few_txns;
      sections = all_push (AllByRecursion IsTxn) ss ts was.sections was.txns;
      txns = tt;
    }

begin_adds : (whole : Bool) (a t c : ℕ) (ss : List (List Txn)) (ts : List Txn) (cs : List Call) → IsReading (at stage.Section a t c ss ts cs) → nat_lt t 1048576 ≡ true → Adds (at stage.Section a t c ss ts cs) (step.Begin whole)
begin_adds whole a t c ss ts cs was within =
    let lt : t < 1048576 = ltb-true _ _ within in
    record {
      steps = refl;
      here = (was.here.0, omega (arith, was.here.1), refl, omega arith, tt);
      few_sections = was.few_sections;
      few_txns = omega arith;
      sections = was.sections;
      txns = was.txns;
    }

both : (a b : Bool) → a && b ≡ true → (a ≡ true) × (b ≡ true)
both true b is = (refl, is)
both false b is = absurd (false≢true is)

le_from_test : (m n : ℕ) → nat_le m n ≡ true → m ≤ n
le_from_test m n is = leb-true m n is

does_adds : (whole : Bool) (call : Call) (a t c : ℕ) (ss : List (List Txn)) (ts : List Txn) (cs : List Call) → IsReading (at (stage.Txn whole) a t c ss ts cs) → IsCall call → is_whole_call call ≡ whole → nat_lt c 65536 && nat_le (atoms_in (test_of call)) 64 ≡ true → Adds (at (stage.Txn whole) a t c ss ts cs) (step.Does call)
does_adds whole call a t c ss ts cs was fits place within =
    let tests = both _ _ within in
    let lt : c < 65536 = ltb-true _ _ tests.0 in
    record {
      steps = ap (λ (xs : List Step). (steps_of_script ss ++ steps_of_section ts) ++ step.Begin whole ∷ xs) (map-append step.Does cs (call ∷ []))
          ∙ sym (append_assoc (steps_of_script ss ++ steps_of_section ts) (step.Begin whole ∷ map step.Does cs) (step.Does call ∷ []));
      here = (
        was.here.0,
        was.here.1,
        omega (arith, was.here.2, length-append cs (call ∷ [])),
        omega arith,
        all_push (IsHeld whole) cs call was.here.4 (record { spelled = fits; place = place; few_atoms = le_from_test _ _ tests.1 }),
      );
      few_sections = was.few_sections;
      few_txns = was.few_txns;
      sections = was.sections;
      txns = was.txns;
    }

close_adds : (whole aborts : Bool) (a t c : ℕ) (ss : List (List Txn)) (ts : List Txn) (cs : List Call) → IsReading (at (stage.Txn whole) a t c ss ts cs) → Adds (at (stage.Txn whole) a t c ss ts cs) (step.Close aborts)
close_adds whole aborts a t c ss ts cs was =
    let txn : Txn = record { whole = whole; calls = cs; aborts = aborts } in
    record {
      steps = simp (flat_map-append, append_assoc, append-nil);
      here = (was.here.0, omega (arith, was.here.1, length-append ts (txn ∷ [])));
      few_sections = was.few_sections;
      few_txns = was.few_txns;
      sections = was.sections;
      txns = all_push IsTxn ts txn was.txns (record { calls = was.here.4; few_calls = omega (arith, was.here.2, was.here.3) });
    }

stage_adds : (here : Stage) (a t c : ℕ) (ss : List (List Txn)) (ts : List Txn) (cs : List Call) (s : Step) → IsReading (at here a t c ss ts cs) → IsStep s → stands here s ≡ true → is_within (record { stage = here; sections = a; txns = t; calls = c }) s ≡ true → Adds (at here a t c ss ts cs) s
stage_adds stage.Outside a t c ss ts cs step.Section was fits may within = section_first a t c ss ts cs was within
stage_adds stage.Outside a t c ss ts cs (step.Begin whole) was fits may within = absurd (false≢true may)
stage_adds stage.Outside a t c ss ts cs (step.Does call) was fits may within = absurd (false≢true may)
stage_adds stage.Outside a t c ss ts cs (step.Close aborts) was fits may within = absurd (false≢true may)
stage_adds stage.Section a t c ss ts cs step.Section was fits may within = section_next a t c ss ts cs was within
stage_adds stage.Section a t c ss ts cs (step.Begin whole) was fits may within = begin_adds whole a t c ss ts cs was within
stage_adds stage.Section a t c ss ts cs (step.Does call) was fits may within = absurd (false≢true may)
stage_adds stage.Section a t c ss ts cs (step.Close aborts) was fits may within = absurd (false≢true may)
stage_adds (stage.Txn true) a t c ss ts cs step.Section was fits may within = absurd (false≢true may)
stage_adds (stage.Txn false) a t c ss ts cs step.Section was fits may within = absurd (false≢true may)
stage_adds (stage.Txn true) a t c ss ts cs (step.Begin whole) was fits may within = absurd (false≢true may)
stage_adds (stage.Txn false) a t c ss ts cs (step.Begin whole) was fits may within = absurd (false≢true may)
stage_adds (stage.Txn true) a t c ss ts cs (step.Does call) was fits may within = does_adds true call a t c ss ts cs was fits may within
stage_adds (stage.Txn false) a t c ss ts cs (step.Does call) was fits may within = does_adds false call a t c ss ts cs was fits (not_true _ may) within
  where
    not_true : (b : Bool) → not b ≡ true → b ≡ false
    not_true true is = absurd (false≢true is)
    not_true false is = refl
stage_adds (stage.Txn true) a t c ss ts cs (step.Close aborts) was fits may within = close_adds true aborts a t c ss ts cs was
stage_adds (stage.Txn false) a t c ss ts cs (step.Close aborts) was fits may within = close_adds false aborts a t c ss ts cs was

-- the reader goes on with a step that may stand where it does
pub step_adds : (r : Reader) (s : Step) → IsReading r → IsStep s → stands r.place.stage s ≡ true → is_within r.place s ≡ true → (steps_in (after r.place s).stage (taken r s) ≡ steps_in r.place.stage r ++ s ∷ []) × IsReading (taken r s)
step_adds r s was fits may within =
    let adds = stage_adds r.place.stage r.place.sections r.place.txns r.place.calls r.sections r.txns r.calls s was fits may within in (
      adds.steps,
      record {
        here = adds.here;
        few_sections = adds.few_sections;
        few_txns = adds.few_txns;
        sections = adds.sections;
        txns = adds.txns;
        fit = subst (AllByRecursion IsStep) (sym adds.steps) (all_push IsStep (steps_in r.place.stage r) s was.fit fits);
        leads = subst (λ (steps : List Step). Leads start steps (after r.place s)) (sym adds.steps) (leads_on start (steps_in r.place.stage r) r.place s was.leads may within);
      },
    )
