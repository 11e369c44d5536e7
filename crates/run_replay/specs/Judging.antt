-- Runs behind a load, and outcomes that aren't right.
use Rattle.std.specs.Prelude.{◌≡◌, ℕ, List, length, Option, Some, None, MatchOption}
use Rattle.std.specs.List.{AllByRecursion}
use Rattle.gdi_kinds.specs.declared.txn.Txn.{Txn}
use Rattle.gdi_kinds.specs.declared.outcome.Printed.{Printed}
use Rattle.rma_layout.specs.Shape.{Shape}
use Rattle.graph_model.specs.Graph.{Graph, empty_graph}
use Rattle.graph_model.specs.History.{load_entries}
use Rattle.graph_model.specs.Placed.{pairs_of}
use Rattle.map_graph.specs.Plain.{Plain}
use Rattle.serial_run.specs.Serial.{graph_after_txns}
use Rattle.run_check.specs.declared.clause.Clause.TheVariants.{Replies, Room}
use Rattle.run_check.specs.declared.illegal.Illegal.{Illegal}
use Rattle.run_check.specs.declared.place.Place.{Place}
use Rattle.run_check.specs.Clauses.{RepliesAreRight, RoomIsRight, FirstUnlike}
use Rattle.run_replay.specs.declared.unlike.Unlike.{Unlike}

-- a graph behind the entries of a load, which are so many
pub record IsBehindLoad (behind : Plain) (entries : ℕ) (load : List Txn) : Type 0 where
  pub count : entries ≡ length (load_entries load)
  pub graph : behind.graph ≡ graph_after_txns behind.shape empty_graph (load_entries load)

-- the first outcomes that aren't right on these graphs
pub record IsUnlike (shape : Shape) (graph : ℕ → Graph) (script : List (List Txn)) (run : Printed) (unlike : Unlike) : Type 0 where
  pub replies : MatchOption unlike.replies (AllByRecursion (RepliesAreRight shape graph) (pairs_of script run.lines))
      (FirstUnlike (RepliesAreRight shape graph) (pairs_of script run.lines))
  pub room : MatchOption unlike.room (AllByRecursion (RoomIsRight shape graph) (pairs_of script run.lines))
      (FirstUnlike (RoomIsRight shape graph) (pairs_of script run.lines))

-- the clause of the replies comes before that of the blocks
abbrev pub illegal_of : Option Place → Option Place → Option Illegal
illegal_of (Some place) room = Some (record { clause = Replies; place = place })
illegal_of None (Some place) = Some (record { clause = Room; place = place })
illegal_of None None = None
