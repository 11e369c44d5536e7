use Rattle.std.proofs.Common.{rules}
use Rattle.text_words.proofs.FieldLemmas.{wrong_of_form}
use Rattle.text_words.proofs.fields.read_fields.Goals as goal

pub returns : goal.returns
returns g c = wrong_of_form _ _ c.read.result _ (search rules) c.read.ensures
