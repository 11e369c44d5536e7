use Rattle.std.proofs.Common.{drop}
use Rattle.text_words.specs.Forms.{texts}
use Rattle.outcome_text.proofs.ItemLemmas.{AreItems}
use Rattle.outcome_text.proofs.items.read_items.Given as goal

-- the items so far are those of the words so far
abbrev pub invariant-loop-word : goal.invariant-loop-word
invariant-loop-word g l = AreItems g.T.Item.text g.T.Item.Fits (texts l.words) l.items (texts (drop l.word-index l.words))
