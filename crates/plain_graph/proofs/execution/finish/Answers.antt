use Rattle.std.proofs.Common.{◌+◌, ◌-◌, ◌∙◌, Bool, if◌then◌else◌, ap}
use Rattle.graph_model.specs.Transactions.{graph_after_calls}
use Rattle.plain_graph.specs.Rooms.{taken_on}
use Rattle.plain_graph.specs.Used.{amount_on}
use Rattle.plain_graph.proofs.Keeping.{done_kept}
use Rattle.plain_graph.proofs.execution.finish.Goals as goal

pub returns-clause-kept : goal.returns-clause-kept
returns-clause-kept c =
    let shape = c.args.map.now.shape in
    let g = c.args.map.now.graph in
    done_kept c.args.map.now c.run.new.self c.args.txn.now.calls c.args.trial.now c.args.used.now c.count_done.new.used c.requires.kept c.requires.tried c.run.ensures.shape
    (c.in_ok-replies.ensures.graph ∙ ap (λ (b : Bool). if b then g else graph_after_calls shape g c.args.txn.now.calls) c.requires.ends)
    c.in_ok-replies.ensures.well_formed
    (λ rank. c.in_ok-count_done.ensures rank
    ∙ ap (λ gs. taken_on c.args.used.now rank + amount_on rank (λ growth. growth.after) gs - amount_on rank (λ growth. growth.before) gs) c.as_slice.ensures.value)
