use Rattle.std.proofs.Common.{ℕ, List, [], ◌∷◌, sym, ap, ◌∙◌, arith}
use Rattle.text_words.proofs.TestLemmas.{texts_front}
use Rattle.outcome_text.proofs.SayingLemmas.{no_reply_says}
use Rattle.outcome_text.proofs.said_reader.reply_said.Goals as goal

pub returns-in-None : goal.returns-in-None
returns-in-None c =
    let none = rw c.in-None.is at c.in_ok-reply.ensures in
    λ s fits same. no_reply_says _ _ none s fits (ap (λ (x : List (List ℕ)). [] ∷ x) (sym (texts_front c.args.words.now _ (omega arith))) ∙ same)
