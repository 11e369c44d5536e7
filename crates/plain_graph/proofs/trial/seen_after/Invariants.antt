use Rattle.std.proofs.Common.{◌++◌, map}
use Rattle.std.specs.List.{AllByRecursion}
use Rattle.plain_graph.specs.Seen.{AreSeen, IsNamedThere, seen_as}
use Rattle.plain_graph.proofs.trial.seen_after.Given as goal

-- those seen, and those to come, which are there
abbrev pub invariant-loop-object : goal.invariant-loop-object
invariant-loop-object l = record {
  seen : AreSeen l.map.shape l.map.graph l.journal (l.seen.items ++ map (λ mark. seen_as l.map.shape l.map.graph mark.0 mark.1) l.object-iterator);
  there : AllByRecursion (λ mark. IsNamedThere l.map.shape mark.0) l.object-iterator;
}
