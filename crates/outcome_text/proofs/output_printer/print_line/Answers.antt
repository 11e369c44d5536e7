use Rattle.std.proofs.Common.{arith, subst}
use Rattle.std.specs.Prelude.{OnOk}
use Rattle.std.specs.List.{AllByRecursion}
use Rattle.outcome_text.specs.Runs.{IsReply}
use Rattle.outcome_text.specs.Told.{ReplyIsTold}
use Rattle.outcome_text.proofs.ToldLemmas.{read_fits, wrote_fits}
use Rattle.outcome_text.proofs.output_printer.print_line.Goals as goal

pub returns-in_ok-push-in-Wrote-clause-fits : goal.returns-in_ok-push-in-Wrote-clause-fits
returns-in_ok-push-in-Wrote-clause-fits c =
    wrote_fits c.print_replies.result c.args.line.now (omega arith) (omega arith) _ (omega arith) _ c.in-Wrote.is
    (subst (λ replies. OnOk c.print_replies.result (AllByRecursion (λ reply. ReplyIsTold reply → IsReply reply) replies)) c.as_slice.ensures c.print_replies.ensures.fit)

pub returns-in_ok-push-in-Read-clause-fits : goal.returns-in_ok-push-in-Read-clause-fits
returns-in_ok-push-in-Read-clause-fits c =
    read_fits c.print_replies-in-Read.result c.args.line.now (omega arith) (omega arith) _ (omega arith) _ c.in-Read.is
    (subst (λ replies. OnOk c.print_replies-in-Read.result (AllByRecursion (λ reply. ReplyIsTold reply → IsReply reply) replies)) c.as_slice-in-Read.ensures c.print_replies-in-Read.ensures.fit)
