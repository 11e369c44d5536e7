use Rattle.std.proofs.Common.{rules, arith}
use Rattle.text_words.proofs.ValueLemmas.{other_number}
use Rattle.text_words.proofs.value_reader.positive_of.Goals as goal

pub returns-then-size-gt-LARGEST : goal.returns-then-size-gt-LARGEST
returns-then-size-gt-LARGEST c m lt = other_number c.args.digits.now c.in_ok-size.size m (search rules) (omega arith) (omega arith) (λ same. omega arith)
