use Rattle.std.proofs.Common.{[], rules}
use Rattle.std.proofs.lemmas.List.Sorted.{answers_always}
use Rattle.graph_parts.proofs.Rows.{searched}
use Rattle.graph_parts.proofs.value_rows.place_of.Goals as goal

pub returns-clause-place : goal.returns-clause-place
returns-clause-place c =
    let facts = c.binary_search_by_key.ensures in
    let by_key = facts.position (λ row. row.0) (answers_always _ _ _ (λ f a r g called. search rules)) in
    searched [] c.args.rows.now c.args.ty _ c.requires facts.bound by_key
