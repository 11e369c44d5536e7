use Rattle.std.proofs.Common.{rules}
use Rattle.std.proofs.lemmas.List.Sorted.{answers_always}
use Rattle.holder_codec.specs.Edges.{is_record_before}
use Rattle.rising_lists.proofs.Rising.{from_search}
use Rattle.edge_ops.specs.Records.{key_of}
use Rattle.edge_ops.proofs.Keys.{key_total, key_same, before_is, some_record}
use Rattle.edge_ops.proofs.RecordLists.{within_position}
use Rattle.edge_ops.proofs.records.position_of.Goals as goal

pub returns-clause-position : goal.returns-clause-position
returns-clause-position c =
    let facts = c.binary_search_by_key.ensures in
    let by_key = facts.position key_of (answers_always _ _ _ (λ f a r g called. search rules)) in
    from_search key_of key_total key_same is_record_before before_is some_record c.args.edges.now c.args.key _ c.requires facts.bound by_key

pub returns-clause-within : goal.returns-clause-within
returns-clause-within c =
    let facts = c.binary_search_by_key.ensures in
    let by_key = facts.position key_of (answers_always _ _ _ (λ f a r g called. search rules)) in
    within_position c.args.edges.now c.args.key c.binary_search_by_key.result
    (from_search key_of key_total key_same is_record_before before_is some_record c.args.edges.now c.args.key _ c.requires facts.bound by_key)
