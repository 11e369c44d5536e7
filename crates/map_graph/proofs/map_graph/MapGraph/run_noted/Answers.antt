use Rattle.std.proofs.Common.{arith, ◌∙◌}
use Rattle.std.proofs.lemmas.Grind.{common_steps}
use Rattle.map_graph.proofs.map_graph.MapGraph.run_noted.Goals as goal

pub loop-call-preserved : goal.loop-call-preserved
loop-call-preserved c = record {
  shape = c.apply_noted.ensures.shape ∙ c.loop-call.invariant.shape;
  well_formed = c.in_ok-reply.ensures.well_formed;
  replies = grind (arith, common_steps);
  graph = grind (arith, common_steps);
  leads = λ before lead. c.in_ok-reply.ensures.leads before (c.loop-call.invariant.leads before lead);
}
