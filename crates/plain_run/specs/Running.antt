-- What a run of texts prints, and why texts aren't run.
use Rattle.std.specs.Prelude.{◌≡◌, ℕ, List, Option}
use Rattle.gdi_kinds.specs.declared.outcome.Printed.{Printed}
use Rattle.rma_layout.specs.Shape.{Shape}
use Rattle.graph_model.specs.LegalRun.{IsLegalRun}
use Rattle.script_text.specs.Scripts.{Spells}
use Rattle.script_text.specs.Faults.{IsFirstFault}
use Rattle.outcome_text.specs.Runs.{IsOutput}
use Rattle.plain_run.specs.declared.load.Load.{Load}
use Rattle.plain_run.specs.declared.run_refused.RunRefused.{RunRefused}
use Rattle.plain_run.specs.declared.run_refused.RunRefused.TheVariants.{BadLoad, BadScript, LoadFull, NoMemory}
use Rattle.plain_run.specs.declared.workload.Workload.{Workload}
use Rattle.plain_run.specs.Given.{Given}
use Rattle.plain_run.specs.Loading.{txns_of, IsLoad, IsWrongLoad, HasRoom, IsFullAt}

-- the texts are this load and this script
pub record AreTexts (shape : Shape) (texts : Given) (workload : Workload) : Type 0 where
  pub load : IsLoad shape texts.vertices texts.edges workload.load
  pub script : Spells texts.script workload.script

-- what a legal run of texts prints: they are a load that has room, and a script, and the output spells the run
pub record PrintsLegalRun (shape : Shape) (texts : Given) (output : List ℕ) : Type 0 where
  pub workload : Workload
  pub run : Printed
  pub are : AreTexts shape texts workload
  pub room : HasRoom shape workload.load
  pub legal : IsLegalRun shape (txns_of workload.load) workload.script run
  pub printed : IsOutput output run

-- why load files aren't read
abbrev pub TellsBadLoad : Shape → Option (List ℕ) → Option (List ℕ) → RunRefused → Type 0
TellsBadLoad shape vertex_file edge_file (BadLoad file row kind) = IsWrongLoad shape vertex_file edge_file file row kind
TellsBadLoad shape vertex_file edge_file (BadScript line kind) = ⊥
TellsBadLoad shape vertex_file edge_file (LoadFull file rank) = ⊥
TellsBadLoad shape vertex_file edge_file NoMemory = Unit {0}

-- why texts aren't read: by their first fault, where those of the load files come before those of the script
abbrev pub TellsBadText : Shape → Given → RunRefused → Type 0
TellsBadText shape texts (BadLoad file row kind) = IsWrongLoad shape texts.vertices texts.edges file row kind
TellsBadText shape texts (BadScript line kind) = ((load : Load) × IsLoad shape texts.vertices texts.edges load) × IsFirstFault texts.script line kind
TellsBadText shape texts (LoadFull file rank) = ⊥
TellsBadText shape texts NoMemory = Unit {0}

-- why a load isn't taken
abbrev pub TellsFull : Shape → Load → RunRefused → Type 0
TellsFull shape load (BadLoad file row kind) = ⊥
TellsFull shape load (BadScript line kind) = ⊥
TellsFull shape load (LoadFull file rank) = IsFullAt shape load file rank
TellsFull shape load NoMemory = Unit {0}

-- why texts aren't run: they aren't read, or they are and their load isn't taken
abbrev pub TellsWhy : Shape → Given → RunRefused → Type 0
TellsWhy shape texts (LoadFull file rank) = (workload : Workload) × AreTexts shape texts workload × IsFullAt shape workload.load file rank
TellsWhy shape texts refused = TellsBadText shape texts refused

-- texts that are a load that has room, and a script, are refused for want of memory alone
abbrev pub RightTextsAreNotRefused : Type 0
RightTextsAreNotRefused = (shape : Shape) (texts : Given) (workload : Workload) (refused : RunRefused)
    → AreTexts shape texts workload → HasRoom shape workload.load → TellsWhy shape texts refused → refused ≡ NoMemory
