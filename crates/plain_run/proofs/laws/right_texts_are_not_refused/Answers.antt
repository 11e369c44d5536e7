use Rattle.plain_run.proofs.RightTexts.{right_texts}
use Rattle.plain_run.proofs.laws.right_texts_are_not_refused.Goals as goal

pub returns : goal.returns
returns c = right_texts
