use Rattle.std.proofs.Common.{ℕ, ◌<◌, length, subst}
use Rattle.std.specs.Prelude.{IsTrue}
use Rattle.graph_walks.specs.Steps.{Hops, leads}
use Rattle.graph_walks.proofs.Rows.{rows-within}
use Rattle.graph_walks.proofs.flat_steps.FlatSteps.len.Goals as goal

pub returns-clause-within : goal.returns-clause-within
returns-clause-within c =
    subst (λ (h : Hops). (i t : ℕ) → IsTrue (leads h.hops i t) → i < length h.ids × t < length h.ids) c.self.view_is
    (rows-within (length c.self.inside.places) c.self.inside.starts.items c.self.inside.ends.items c.self.invariant)
