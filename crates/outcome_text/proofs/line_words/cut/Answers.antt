use Rattle.std.proofs.Common.{subst, Bor, List, ℕ, Option}
use Rattle.std.specs.Option.{option_copied}
use Rattle.std.proofs.lemmas.List.{map_push}
use Rattle.text_words.specs.Forms.{texts}
use Rattle.outcome_text.specs.Reading.{HasFirst}
use Rattle.outcome_text.proofs.CutLemmas.{cutting_on}
use Rattle.outcome_text.proofs.line_words.cut.Goals as goal

pub words-preserved : goal.words-preserved
words-preserved c =
    rw (c.in_ok-push.ensures.items, map_push (λ (w : Bor (List ℕ)). w.now) c.words.words.items c.in-Some.word)
    (cutting_on c.args.line.now (texts c.words.words.items) c.words.rest.now c.in-Some.word.now c.in-Some-behind.next.now c.words.invariant
    (subst (λ (o : Option (Bor (List ℕ))). HasFirst c.words.rest.now c.in-Some.word.now (option_copied o)) c.in-Some-behind.is c.in-Some.ensures))
