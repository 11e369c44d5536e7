use Rattle.plain_check.proofs.Verdicts.{verdict}
use Rattle.plain_check.proofs.checker.check_texts.Goals as goal

pub returns : goal.returns
returns c =
    verdict c.args.geometry _ c.args.output.now c.in_ok-workload.field-0.workload c.in_ok-run.run' c.in_ok-graph.field-0
    c.in_ok-workload.ensures.0 c.in_ok-run.ensures.read c.in_ok-graph.ensures c.illegal_ones_are_not.ensures c.in_ok-first_illegal.field-0 c.in_ok-first_illegal.ensures
