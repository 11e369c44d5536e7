-- A transaction looked at on the graph at its place.
use Rattle.std.specs.Prelude.{◌↔◌, IsTrue}
use Rattle.gdi_kinds.specs.declared.txn.Txn.{Txn}
use Rattle.gdi_kinds.specs.declared.outcome.Outcome.{Outcome}
use Rattle.gdi_kinds.specs.declared.outcome.Outcome.TheVariants.{Wrote}
use Rattle.rma_layout.specs.Shape.{Shape}
use Rattle.graph_model.specs.Graph.{Graph}
use Rattle.graph_model.specs.Transactions.{graph_after_txn}
use Rattle.graph_model.specs.LegalRun.{HasReplies, EndsByCapacity}
use Rattle.map_graph.specs.Plain.{Plain}
use Rattle.run_replay.specs.declared.sight.Sight.{Sight}

-- the graph behind an outcome
abbrev pub graph_behind : Shape → Graph → Txn → Outcome → Graph
graph_behind shape g txn (Wrote k replies) = graph_after_txn shape g txn
graph_behind shape g txn other = g

-- what is seen of an outcome on a graph, whatever place it tells
pub record Sees (before : Plain) (txn : Txn) (outcome : Outcome) (sight : Sight) : Type 0 where
  pub replies : IsTrue sight.replies ↔ HasReplies before.shape (λ place. before.graph) txn outcome
  pub room : IsTrue sight.room ↔ EndsByCapacity before.shape (λ place. before.graph) txn outcome
