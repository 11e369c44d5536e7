use Rattle.std.proofs.Common.{◌≡◌, ◌++◌, map, drop}
use Rattle.std.specs.List.{AllByRecursion}
use Rattle.plain_graph.specs.Seen.{IsNamedThere, with_before}
use Rattle.plain_graph.proofs.trial.grown.Given as goal

-- those grown, and those to come, which are there
abbrev pub invariant-loop-growth : goal.invariant-loop-growth
invariant-loop-growth l = record {
  grown : l.growths.items ++ map (with_before l.map.shape l.map.graph) (drop l.growth-index l.seen) ≡ map (with_before l.map.shape l.map.graph) l.seen;
  there : AllByRecursion (λ growth. IsNamedThere l.map.shape growth.object) (drop l.growth-index l.seen);
}
