use Rattle.std.proofs.Common.{rules}
use Rattle.text_words.proofs.ValueLemmas.{none_quoted}
use Rattle.text_words.proofs.value_reader.unquoted.Goals as goal

pub returns-in_default : goal.returns-in_default
returns-in_default c = none_quoted c.args.quoted.now c.loop-rest.bytes.items c.loop-rest.rest.now c.loop-rest.invariant (search rules) c.in_default.ensures
