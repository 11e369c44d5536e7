use Rattle.text_words.proofs.WordLemmas.{passes, never_closes}
use Rattle.text_words.proofs.line_words.after_closing.Goals as goal

pub bytes-preserved : goal.bytes-preserved
bytes-preserved c = passes c.args.quoted.now c.bytes.rest.now c.in-Some-first_quoted.after.now c.in-Some-first_quoted.field-0-0 c.bytes.invariant c.in-Some-first_quoted.ensures

pub returns-in-None : goal.returns-in-None
returns-in-None c = never_closes c.args.quoted.now c.bytes.rest.now c.bytes.invariant c.in_default.ensures c.in-None.ensures
