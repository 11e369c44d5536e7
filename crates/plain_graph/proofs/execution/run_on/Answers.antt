use Rattle.std.proofs.Common.{◌∙◌, sym}
use Rattle.plain_graph.proofs.Keeping.{leaves_graph, same_kept}
use Rattle.plain_graph.proofs.execution.run_on.Goals as goal

pub returns-then-leaves-clause-kept : goal.returns-then-leaves-clause-kept
returns-then-leaves-clause-kept c =
    same_kept c.args.map.now c.run.new.self c.args.used.now c.requires.kept c.run.ensures.shape
    (c.in_ok-replies.ensures.graph ∙ leaves_graph c.args.map.now.shape c.args.map.now.graph c.args.txn.now (sym c.leaves.ensures ∙ c.if-leaves.true))
    c.in_ok-replies.ensures.well_formed
