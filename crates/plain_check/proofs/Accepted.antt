-- What a legal run prints is accepted.
use Rattle.std.proofs.Common.{◌≡◌, ℕ, List, Some, None, inl, inr, Ok, Err, refl, ap, subst}
use Rattle.gdi_kinds.specs.declared.outcome.Printed.{Printed}
use Rattle.rma_layout.specs.Shape.{Shape}
use Rattle.graph_model.specs.LegalRun.{IsLegalRun}
use Rattle.outcome_text.proofs.OutputLaw.{output_alone}
use Rattle.plain_run.specs.declared.run_refused.RunRefused.TheVariants.{BadLoad, BadScript, LoadFull, NoMemory}
use Rattle.plain_run.specs.declared.workload.Workload.{Workload}
use Rattle.plain_run.specs.Given.{Given}
use Rattle.plain_run.specs.Loading.{txns_of}
use Rattle.plain_run.specs.Running.{PrintsLegalRun}
use Rattle.plain_run.proofs.RightTexts.{right_texts, workload_same}
use Rattle.run_check.specs.declared.illegal.Illegal.{Illegal}
use Rattle.plain_check.specs.declared.check_refused.CheckRefused.TheVariants.{Texts, BadOutput}
use Rattle.plain_check.specs.Checking.{PrintsIllegalRun}
use Rattle.plain_check.specs.Laws.{RightOutputsAreNotRefused, WhatRunsPrintIsAccepted}

pub right_outputs : RightOutputsAreNotRefused
right_outputs shape texts output workload run (Texts (BadLoad file row kind)) are room spells why = ap Texts (right_texts shape texts workload (BadLoad file row kind) are room why)
right_outputs shape texts output workload run (Texts (BadScript line kind)) are room spells why = ap Texts (right_texts shape texts workload (BadScript line kind) are room why)
right_outputs shape texts output workload run (Texts (LoadFull file rank)) are room spells why = ap Texts (right_texts shape texts workload (LoadFull file rank) are room why.1)
right_outputs shape texts output workload run (Texts NoMemory) are room spells why = refl
right_outputs shape texts output workload run (BadOutput line) are room spells why = absurd (why.1.no_output run spells)

-- an output is either one that a run may print or none
not_both : (shape : Shape) (texts : Given) (output : List ℕ) (illegal : Illegal) → PrintsLegalRun shape texts output → ¬ PrintsIllegalRun shape texts output illegal
not_both shape texts output illegal legal not =
    let same : legal.workload ≡ not.workload = workload_same shape texts legal.workload not.workload legal.are not.are in
    not.not_legal (subst (λ (w : Workload). IsLegalRun shape (txns_of w.load) w.script not.run) same
    (subst (λ (r : Printed). IsLegalRun shape (txns_of legal.workload.load) legal.workload.script r) (output_alone output legal.run not.run legal.printed not.printed) legal.legal))

pub accepted : WhatRunsPrintIsAccepted
accepted shape texts output (Ok None) legal answer = inl refl
accepted shape texts output (Ok (Some illegal)) legal answer = absurd (not_both shape texts output illegal legal answer)
accepted shape texts output (Err refused) legal answer = inr (ap Err (right_outputs shape texts output legal.workload legal.run refused legal.are legal.room legal.printed answer))
