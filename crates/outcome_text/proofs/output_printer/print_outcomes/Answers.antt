use Rattle.std.proofs.Common.{arith, subst}
use Rattle.std.proofs.lemmas.Grind.{common_steps}
use Rattle.std.specs.List.{AllByRecursion}
use Rattle.outcome_text.specs.Runs.{IsLine}
use Rattle.outcome_text.specs.Told.{OutcomeIsTold}
use Rattle.outcome_text.proofs.OutputLaw.{prints_alone}
use Rattle.outcome_text.proofs.ToldLemmas.{all_fit, all_passed, one_more}
use Rattle.outcome_text.proofs.output_printer.print_outcomes.Goals as goal

pub loop-line-preserved : goal.loop-line-preserved
loop-line-preserved c = (
  grind (arith, common_steps),
  one_more (λ line. OutcomeIsTold line.outcome → IsLine line) c.as_slice-line-items.result.now c.loop-line.line-index c.line-item.result c.loop-line-test.true c.line-item.is
      c.in_ok-print_line.ensures.fits c.loop-line.invariant.1,
)

pub returns-clause-alone : goal.returns-clause-alone
returns-clause-alone c =
    let items = c.as_slice-line-items.result.now in
    let fit : AllByRecursion (λ line. OutcomeIsTold line.outcome → IsLine line) items = all_passed (λ line. OutcomeIsTold line.outcome → IsLine line) items c.loop-line.line-index (omega arith) c.loop-line.invariant.1 in
    let lines : AllByRecursion (λ line. OutcomeIsTold line.outcome → IsLine line) c.args.printed.now.lines = subst (AllByRecursion (λ line. OutcomeIsTold line.outcome → IsLine line)) c.as_slice-line-items.ensures fit in
    λ told. prints_alone c.args.printed.now _ (grind (arith, common_steps)) (record { lines = all_fit (λ line. OutcomeIsTold line.outcome) IsLine c.args.printed.now.lines lines told; writes = omega arith })
