-- A transaction alone on a graph.
use Rattle.std.specs.Prelude.{List, [], ◌∷◌, if◌then◌else◌}
use Rattle.gdi_kinds.specs.declared.call.Call.{Call}
use Rattle.gdi_kinds.specs.declared.reply.Reply.{Reply}
use Rattle.gdi_kinds.specs.declared.txn.Txn.{Txn}
use Rattle.rma_layout.specs.Shape.{Shape}
use Rattle.graph_model.specs.Graph.{Graph}
use Rattle.graph_model.specs.Calls.{graph_after_call, reply_to}

abbrev pub graph_after_calls : Shape → Graph → List Call → Graph
graph_after_calls shape g [] = g
graph_after_calls shape g (call ∷ calls) = graph_after_calls shape (graph_after_call shape g call) calls

abbrev pub replies_to_calls : Shape → Graph → List Call → List Reply
replies_to_calls shape g [] = []
replies_to_calls shape g (call ∷ calls) = reply_to shape g call ∷ replies_to_calls shape (graph_after_call shape g call) calls

-- one that aborts leaves the graph
abbrev pub graph_after_txn : Shape → Graph → Txn → Graph
graph_after_txn shape g txn = if txn.aborts then g else graph_after_calls shape g txn.calls

abbrev pub replies_to : Shape → Graph → Txn → List Reply
replies_to shape g txn = replies_to_calls shape g txn.calls
