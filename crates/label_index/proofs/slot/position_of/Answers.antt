use Rattle.std.proofs.Common.{rules}
use Rattle.std.proofs.lemmas.List.Sorted.{answers_always}
use Rattle.holder_codec.specs.Index.{is_pair_before}
use Rattle.rising_lists.proofs.Rising.{from_search}
use Rattle.label_index.specs.Entries.{pair_of}
use Rattle.label_index.proofs.Keys.{pair_total, pair_same, before_is}
use Rattle.label_index.proofs.slot.position_of.Goals as goal

-- the closure gives an entry's pair, and the slice is the slot's entries
pub returns : goal.returns
returns c =
    let facts = c.binary_search_by_key.ensures in
    let by_pair = facts.position pair_of (answers_always _ _ _ (λ f a r g called. search rules)) in
    from_search pair_of pair_total pair_same is_pair_before before_is c.args.entry c.args.index.now.entries (pair_of c.args.entry) _ c.requires (rw (← c.as_slice.ensures) facts.bound) (rw (← c.as_slice.ensures) by_pair)
