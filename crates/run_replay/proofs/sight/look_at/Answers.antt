use Rattle.std.proofs.Common.{◌∙◌, ap, subst, sym}
use Rattle.graph_model.specs.LegalRun.{MayEnd}
use Rattle.graph_model.proofs.Transactions.{looking_leaves}
use Rattle.run_replay.specs.Replaying.{graph_behind}
use Rattle.run_replay.proofs.sight.look_at.Goals as goal

pub returns-in_ok-run-in-Read-clause-graph : goal.returns-in_ok-run-in-Read-clause-graph
returns-in_ok-run-in-Read-clause-graph c =
    let txn = c.args.txn.now in
    let shape = c.args.graph.now.shape in
    let g = c.args.graph.now.graph in
    let may = subst (MayEnd txn) c.in-Read.is c.requires in
    c.in_ok-run-in-Read.ensures.graph ∙ looking_leaves shape g txn may.1 ∙ sym (ap (graph_behind shape g txn) c.in-Read.is)
