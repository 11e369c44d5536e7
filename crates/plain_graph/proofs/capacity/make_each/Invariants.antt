use Rattle.std.proofs.Common.{◌≡◌, ℕ, ◌+◌, ◌<◌, drop}
use Rattle.std.specs.List.{AllByRecursion}
use Rattle.graph_model.specs.Graph.{Graph}
use Rattle.plain_graph.specs.Rooms.{taken_on}
use Rattle.plain_graph.specs.Used.{AreUsed, FindsOn, times}
use Rattle.plain_graph.proofs.capacity.make_each.Given as goal

abbrev pub invariant-loop-rank : goal.invariant-loop-rank
invariant-loop-rank l = record {
  below : AllByRecursion (λ rank. rank < l.geometry.ranks) (drop l.rank-index l.makes);
  finds : (g : Graph) → AreUsed l.geometry g l.fn.taken → FindsOn l.geometry g l.makes (drop l.rank-index l.makes) l.taken;
  taken : (rank : ℕ) → taken_on l.taken rank + times rank (drop l.rank-index l.makes) ≡ taken_on l.fn.taken rank + times rank l.makes;
}
