use Rattle.std.proofs.Common.{inl, inr}
use Rattle.outcome_text.proofs.ItemLemmas.{no_prop, no_prop_split, unread}
use Rattle.outcome_text.proofs.item_readers.prop_in.Goals as goal

pub returns-in_default : goal.returns-in_default
returns-in_default c = no_prop_split c.args.word.now c.in_default.ensures

pub returns-in_default-of : goal.returns-in_default-of
returns-in_default-of c = no_prop c.args.word.now _ _ c.in-Some.ensures.0 c.in-Some.ensures.1 (inl c.in_default-of.ensures)

pub returns-in-None : goal.returns-in-None
returns-in-None c = no_prop c.args.word.now _ _ c.in-Some.ensures.0 c.in-Some.ensures.1 (inr (unread _ _ _ c.in-None.is c.in_ok-value.ensures))
