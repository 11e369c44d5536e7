use Rattle.plain_graph.proofs.Trying.{step_more, steps_done}
use Rattle.plain_graph.proofs.trial.touched.Touched.by_steps.Goals as goal

pub loop-step-preserved : goal.loop-step-preserved
loop-step-preserved c = λ after told.
    c.loop-step.invariant after
    (step_more c.args.map.now.shape c.args.map.now.graph c.loop-step.touched c.note_step.new.self after c.steps-steps.result.now c.loop-step.step-index c.step-item.result c.loop-step-test.true c.step-item.is c.in_ok-note_step.ensures told)

pub returns : goal.returns
returns c = c.loop-step.invariant c.loop-step.touched (steps_done c.args.map.now.shape c.args.map.now.graph c.loop-step.touched c.steps-steps.result.now c.loop-step.step-index c.loop-step-test.false)
