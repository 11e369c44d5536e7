use Rattle.std.proofs.Common.{rules, suc, arith}
use Rattle.text_words.proofs.ValueLemmas.{other_number}
use Rattle.text_words.proofs.value_reader.negative_of.Goals as goal

pub returns-then-size-eq0 : goal.returns-then-size-eq0
returns-then-size-eq0 c m lt = other_number c.args.digits.now c.in_ok-size.size (suc m) (search rules) (omega arith) (omega arith) (λ same. omega arith)

pub returns-then-size-gt-LARGEST : goal.returns-then-size-gt-LARGEST
returns-then-size-gt-LARGEST c m lt = other_number c.args.digits.now c.in_ok-size.size (suc m) (search rules) (omega arith) (omega arith) (λ same. omega arith)
