use Rattle.text_words.specs.Forms.{atoms, HasForm, texts}
use Rattle.text_words.specs.Awaited.{form_at}
use Rattle.text_words.proofs.TestLemmas.{texts_at, goes_on, is_stuck}
use Rattle.text_words.proofs.test_reader.are_atoms.Goals as goal

pub returns-in-None : goal.returns-in-None
returns-in-None c =
    is_stuck (HasForm atoms (texts c.args.words.now)) (form_at c.loop-word.awaited) _ _ _ (texts_at c.args.words.now c.loop-word.word-index _ c.loop-word-test.true) c.loop-word.invariant c.in-None.ensures

pub loop-word-preserved : goal.loop-word-preserved
loop-word-preserved c =
    goes_on (HasForm atoms (texts c.args.words.now)) (form_at c.loop-word.awaited) (form_at c.in-Some.next) _ _ _ (texts_at c.args.words.now c.loop-word.word-index _ c.loop-word-test.true) c.loop-word.invariant c.in-Some.ensures
