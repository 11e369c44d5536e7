use Rattle.std.proofs.Common.{arith}
use Rattle.std.proofs.lemmas.Grind.{common_steps}
use Rattle.outcome_text.specs.Runs.{IsReply}
use Rattle.outcome_text.specs.Told.{ReplyIsTold}
use Rattle.outcome_text.proofs.ToldLemmas.{one_more}
use Rattle.outcome_text.proofs.output_printer.print_replies.Goals as goal

pub loop-reply-preserved : goal.loop-reply-preserved
loop-reply-preserved c = (
  grind (arith, common_steps),
  one_more (λ reply. ReplyIsTold reply → IsReply reply) c.args.replies.now c.loop-reply.reply-index c.reply-item.result c.loop-reply-test.true c.reply-item.is
      c.in_ok-print_reply_items.ensures.fits c.loop-reply.invariant.1,
)
