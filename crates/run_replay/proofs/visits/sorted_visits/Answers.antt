use Rattle.std.proofs.Common.{rules}
use Rattle.std.proofs.lemmas.List.Sorted.{IsNonDecreasingBy-from_sort_by_key}
use Rattle.run_replay.specs.Visits.{visit_key}
use Rattle.run_replay.proofs.visits.sorted_visits.Goals as goal

pub returns : goal.returns
returns c = record {
  visits = c.in_ok-visits.visits.items;
  are = c.in_ok-visits.ensures;
  same = c.in_ok-sort_by_key.ensures.permutation;
  rise = IsNonDecreasingBy-from_sort_by_key (λ visit. visit_key visit.line.now.outcome) _ c.in_ok-sort_by_key.ensures.sorted (λ a r q k. search rules);
}
