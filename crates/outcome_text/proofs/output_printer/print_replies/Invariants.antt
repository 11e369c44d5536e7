use Rattle.std.proofs.Common.{◌≡◌, ◌++◌, drop}
use Rattle.std.specs.List.{flat_map, AllByRecursion}
use Rattle.outcome_text.specs.Outputs.{reply_line}
use Rattle.outcome_text.specs.Runs.{IsReply}
use Rattle.outcome_text.specs.Told.{ReplyIsTold}
use Rattle.outcome_text.proofs.output_printer.print_replies.Given as goal

-- the lines so far and those of the rest are all, and all fit if the rest do
abbrev pub invariant-loop-reply : goal.invariant-loop-reply
invariant-loop-reply l =
    (l.out.items ++ flat_map reply_line (drop l.reply-index l.replies) ≡ l.fn.out.items ++ flat_map reply_line l.replies)
    × (AllByRecursion (λ reply. ReplyIsTold reply → IsReply reply) (drop l.reply-index l.replies) → AllByRecursion (λ reply. ReplyIsTold reply → IsReply reply) l.replies)
