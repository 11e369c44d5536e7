use Rattle.std.proofs.Common.{rules}
use Rattle.std.proofs.lemmas.List.Sorted.{answers_always}
use Rattle.std.specs.Cmp.{nat_cmp_total}
use Rattle.std.specs.FinMap.{nat_cmp-IsAntisymmetric}
use Rattle.holder_codec.specs.Bucket.{is_entry_before}
use Rattle.id_hash.specs.Entries.{id_of}
use Rattle.rma_layout.specs.Placement.{metadata}
use Rattle.rising_lists.proofs.Rising.{from_search, lt_by_nat_cmp}
use Rattle.id_hash.proofs.bucket.position_of.Goals as goal

-- the closure gives an entry's identifier, and the slice is the bucket's entries
pub returns : goal.returns
returns c =
    let facts = c.binary_search_by_key.ensures in
    let by_id = facts.position (λ entry. entry.id) (answers_always _ _ _ (λ f a r g called. search rules)) in
    from_search id_of nat_cmp_total nat_cmp-IsAntisymmetric is_entry_before (λ x y. lt_by_nat_cmp x.id y.id) (record { id = c.args.id; at = metadata }) c.args.bucket.now.entries c.args.id _ c.requires (rw (← c.as_slice.ensures) facts.bound) (rw (← c.as_slice.ensures) by_id)
