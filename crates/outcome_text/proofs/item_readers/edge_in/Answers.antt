use Rattle.std.proofs.Common.{inl, inr}
use Rattle.outcome_text.proofs.ItemLemmas.{no_way, no_numbers, no_edge_numbers}
use Rattle.outcome_text.proofs.item_readers.edge_in.Goals as goal

pub returns-in_err-source : goal.returns-in_err-source
returns-in_err-source c = rw c.from_residual-in_err-source.ensures (no_numbers c.args.word.now _ _ c.in_ok-way.ensures.0 c.in_ok-way.ensures.1 c.in_err-source.ensures)

pub returns-in_err-undirected : goal.returns-in_err-undirected
returns-in_err-undirected c = rw c.from_residual-in_err-undirected.ensures (no_way c.args.word.now _ _ c.in_ok-way.ensures.0 c.in_ok-way.ensures.1 c.in_err-undirected.ensures)

pub returns-in_err-source-2 : goal.returns-in_err-source-2
returns-in_err-source-2 c =
    rw c.from_residual-in_err-source-2.ensures (no_edge_numbers c.args.word.now _ _ _ _ c.in_ok-way.ensures.0 c.in_ok-way.ensures.1 c.in_ok-source.ensures.0 c.in_ok-source.ensures.1 (inl c.in_err-source-2.ensures))

pub returns-in_err-ordinal : goal.returns-in_err-ordinal
returns-in_err-ordinal c =
    rw c.from_residual-in_err-ordinal.ensures (no_edge_numbers c.args.word.now _ _ _ _ c.in_ok-way.ensures.0 c.in_ok-way.ensures.1 c.in_ok-source.ensures.0 c.in_ok-source.ensures.1 (inr c.in_err-ordinal.ensures))
