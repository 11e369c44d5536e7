use Rattle.std.proofs.Common.{◌≡◌}
use Rattle.graph_model.specs.Calls.{graph_after_call}
use Rattle.map_graph.proofs.Fitting.{any_call, on_ok, still_well}
use Rattle.map_graph.proofs.map_graph.MapGraph.apply.Goals as goal

pub answer-requires-clause-any : goal.answer-requires-clause-any
answer-requires-clause-any c = any_call c.args.call.now

pub returns-clause-well_formed : goal.returns-clause-well_formed
returns-clause-well_formed c =
    on_ok c.answer.result _ _
    (λ (is : c.answer.new.self.graph ≡ graph_after_call c.args.self.now.shape c.args.self.now.graph c.args.call.now). still_well c.args.self.now.shape c.args.self.now.graph c.answer.new.self.graph c.args.call.now c.requires c.fits.ensures is)
    c.answer.ensures.graph
