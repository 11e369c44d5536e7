use Rattle.std.proofs.Common.{◌≡◌, []}
use Rattle.window_rule.specs.Spares.{SpareEnds}
use Rattle.fabric.specs.Joins.{chained_view}
use Rattle.fabric.proofs.rank.joins.chain_spares.Given as goal

abbrev pub invariant-loop-home : goal.invariant-loop-home
invariant-loop-home g l =
    let mine : SpareEnds = record { firsts = l.mine; lasts = [] } in
    let theirs : SpareEnds = record { firsts = l.firsts; lasts = l.lasts } in
    record {
      table : l.seat.table_id ≡ l.fn.seat.table_id;
      slots : l.seat.me.1 ≡ [];
      view : l.seat.me.0 ≡ chained_view mine theirs l.home l.fn.seat.me.0;
    }
