use Rattle.std.proofs.Common.{rules, ◌≡◌, ◌∙◌, false, ap, sym}
use Rattle.std.specs.Prelude.{not}
use Rattle.rma_layout.specs.Placement.{Place, same_place}
use Rattle.edge_ops.proofs.EndsWritten.{same_itself}
use Rattle.edge_ops.proofs.far_ends.is_far.Goals as goal

near : (one other : Place) → one ≡ other → false ≡ not (same_place one other)
near one other same = sym (ap not (ap (λ (place : Place). same_place place other) same ∙ same_itself other))

pub returns-then-eq : goal.returns-then-eq
returns-then-eq c = search (rules, near)
