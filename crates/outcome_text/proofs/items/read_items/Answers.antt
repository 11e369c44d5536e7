use Rattle.text_words.specs.Forms.{texts}
use Rattle.text_words.proofs.TestLemmas.{texts_at}
use Rattle.outcome_text.proofs.ItemLemmas.{items_none, unread}
use Rattle.outcome_text.proofs.items.read_items.Goals as goal

pub returns-in-None : goal.returns-in-None
returns-in-None g c =
    items_none g.T.Item.text g.T.Item.Fits (texts c.args.words.now) c.loop-word.items _ _ _ c.loop-word.invariant (texts_at c.args.words.now c.loop-word.word-index _ c.loop-word-test.true) (unread _ _ _ c.in-None.is c.in_ok-item.ensures)
