use Rattle.std.proofs.Common.{rules}
use Rattle.text_words.proofs.ValueLemmas.{not_text}
use Rattle.text_words.proofs.value_reader.text_of.Goals as goal

pub returns-in-Err-NotText : goal.returns-in-Err-NotText
returns-in-Err-NotText c = not_text c.args.quoted.now c.in-Some.bytes.items (search rules) (search rules)
