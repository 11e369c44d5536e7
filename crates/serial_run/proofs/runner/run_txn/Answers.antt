use Rattle.std.proofs.Common.{◌≡◌, ◌∙◌, ◌++◌, ◌∷◌, [], ap}
use Rattle.gdi_kinds.specs.Calls.{is_writing}
use Rattle.graph_model.specs.Capacity.{full_rank}
use Rattle.graph_model.specs.Transactions.{replies_to}
use Rattle.serial_run.specs.Runs.{entries_behind}
use Rattle.serial_run.proofs.Running.{full_ones_write, behind_ends}
use Rattle.serial_run.proofs.runner.run_txn.Goals as goal

pub returns : goal.returns
returns c =
    let g = c.args.run.now.graph.graph in
    let shape = c.args.run.now.graph.shape in
    let txn = c.args.txn.now in
    let full = full_rank shape g txn in
    let replies = replies_to shape g txn in
    let is = c.outcome_of-outcome.ensures full replies c.in-Ok.ensures.ended (full_ones_write shape g txn) in
    record {
      shape = c.execute.ensures.shape;
      graph = c.in-Ok.ensures.graph;
      lines = c.in_ok-push.ensures.ok ∙ ap (λ o. c.args.run.now.lines ++ (record { section = c.args.section; txn = c.args.number; outcome = o }) ∷ []) is;
      writes = c.entries_behind-run.ensures ∙ ap (λ o. entries_behind o c.args.run.now.writes) is ∙ behind_ends txn.aborts (is_writing txn) full c.args.run.now.writes replies;
    }
