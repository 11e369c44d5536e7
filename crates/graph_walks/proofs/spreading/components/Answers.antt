use Rattle.std.proofs.Common.{◌≤◌, length, ap, ◌∙◌, arith}
use Rattle.std.specs.List.{range_with_len}
use Rattle.std.proofs.lemmas.List.FromFn.{length-range_with_len}
use Rattle.graph_model.specs.Maps.{has}
use Rattle.graph_walks.specs.Marks.{mark_at}
use Rattle.graph_walks.proofs.Naming.{least-joined, take-all}
use Rattle.graph_walks.proofs.Renaming.{range-has}
use Rattle.graph_walks.proofs.spreading.components.Goals as goal

pub returns-clause-names : goal.returns-clause-names
returns-clause-names c = λ j below.
    let n = length c.args.steps.now.ids in
    let all : length (range_with_len 0 n) ≤ c.loop-place.place = omega (arith, length-range_with_len 0 n, c.loop-place-test.false, c.len-count.ensures.value) in
    least-joined c.args.steps.now.hops (range_with_len 0 n) (mark_at c.loop-place.names) c.loop-place.place c.loop-place.invariant.named j
    (ap (λ ks. has ks j) (take-all (range_with_len 0 n) c.loop-place.place all) ∙ range-has 0 n j (omega arith) (omega (arith, below)))
