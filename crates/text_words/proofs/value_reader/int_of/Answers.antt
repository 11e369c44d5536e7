use Rattle.text_words.proofs.ValueLemmas.{int_negative, int_positive}
use Rattle.text_words.proofs.value_reader.int_of.Goals as goal

pub returns-in-Some : goal.returns-in-Some
returns-in-Some c = int_negative c.args.word.now c.in-Some.digits.now c.negative_of.result c.in-Some.ensures c.negative_of.ensures

pub returns-in-None : goal.returns-in-None
returns-in-None c = int_positive c.args.word.now c.positive_of.result c.in-None.ensures c.positive_of.ensures
