-- What a drill prints, and why it isn't run.
use Rattle.std.specs.Prelude.{◌≡◌, ℕ, ◌-◌, List, Some}
use Rattle.gdi_kinds.specs.declared.outcome.Printed.{Printed}
use Rattle.rma_layout.specs.Shape.{Shape}
use Rattle.graph_model.specs.LegalRun.{IsLegalRun}
use Rattle.serial_run.specs.Serial.{last_graph}
use Rattle.plain_run.specs.declared.load.Load.{Load}
use Rattle.plain_run.specs.Loading.{HasRoom}
use Rattle.drill.specs.Drill.{all_edges, all_vertices, drill_load, drill_script}
use Rattle.drill_run.specs.Arcs.{drill_arcs, summary_over}
use Rattle.drill_run.specs.Summaries.{full_count, summary_of, summary_text}

-- 4 ranks of 65,536 blocks of 16 words, with 64 buckets and 16 slots a rank
abbrev pub drill_shape : Shape
drill_shape = record { ranks = 4; blocks = 65536; words = 16; buckets = 64; slots = 16 }

-- its load as that of two files: that of the vertices makes them, and that of the edges adds the drawn ones
abbrev pub load_of : ℕ → ℕ → Load
load_of n seed = record { vertices = Some (all_vertices n); edges = Some (all_edges n seed) }

-- The text is the summary of a legal run of the drill's script on its load: of its last graph, with the levels from the
-- last vertex. Where nothing was refused for blocks, the size and the seed alone give it.
pub record PrintsDrill (shape : Shape) (n seed : ℕ) (output : List ℕ) : Type 0 where
  pub run : Printed
  pub room : HasRoom shape (load_of n seed)
  pub legal : IsLegalRun shape (drill_load n seed) (drill_script n seed) run
  pub printed : output ≡ summary_text (summary_of (last_graph shape (drill_load n seed) (drill_script n seed) run) (n - 1) run)
  pub expected : full_count run ≡ 0 → output ≡ summary_text (summary_over n (drill_arcs n seed))
