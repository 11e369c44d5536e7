use Rattle.std.proofs.Common.{sym, ◌∙◌, arith}
use Rattle.text_words.proofs.TestLemmas.{texts_front}
use Rattle.outcome_text.proofs.ItemLemmas.{no_ending_word}
use Rattle.outcome_text.proofs.said_reader.ending_with.Goals as goal

pub returns-in_err-ending_word : goal.returns-in_err-ending_word
returns-in_err-ending_word c =
    rw c.from_residual.ensures (λ e fits same. no_ending_word _ _ c.in_err-ending_word.ensures e fits (sym (texts_front c.args.words.now _ (omega arith)) ∙ same))
