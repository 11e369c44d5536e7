use Rattle.std.proofs.Common.{◌≡◌, false, Some, rules}
use Rattle.outcome_text.specs.declared.said.Said.TheVariants as said
use Rattle.outcome_text.specs.Reading.{LineSays, is_open}
use Rattle.outcome_text.proofs.SayingLemmas.{reply_misplaced}
use Rattle.outcome_text.proofs.output_reader.Reader.pass.Goals as goal

pub returns-then-not-is_open : goal.returns-then-not-is_open
returns-then-not-is_open c =
    let says : LineSays c.args.line.now (Some (said.Reply c.in-Some-Reply.reply)) = rw (c.in-Some-Reply.is, c.in-Some-Reply.field-0-is) at c.in_ok-said_by.ensures in
    let closed : is_open c.args.self.now.head ≡ false = search rules in
    reply_misplaced c.args.line.now c.in-Some-Reply.reply (is_open c.args.self.now.head) says.0 says.1 closed
