use Rattle.std.proofs.Common.{subst}
use Rattle.std.specs.List.{IsDistinct}
use Rattle.std.specs.Map.{keys_of}
use Rattle.plain_graph.specs.Touching.{Marks, is_same_name}
use Rattle.plain_graph.proofs.Marking.{once-from_sorted}
use Rattle.plain_graph.proofs.trial.touched.Touched.objects.Goals as goal

pub returns-clause-once : goal.returns-clause-once
returns-clause-once c =
    subst (λ (marks : Marks). IsDistinct is_same_name (keys_of marks)) c.self.view_is (once-from_sorted (keys_of c.self.inside.objects.entries) c.len-count.ensures.ordered)
