use Rattle.std.proofs.Common.{ℕ, cond, eqb, ap, ◌∙◌, arith}
use Rattle.std.proofs.lemmas.List.Sums.{sum_by-cons}
use Rattle.rma_layout.specs.Placement.{raw_of, slot_of}
use Rattle.graph_parts.specs.Counts.{labels_kept}
use Rattle.graph_parts.proofs.held_vertex.HeldVertex.count_labels.Goals as goal

pub loop-label-preserved : goal.loop-label-preserved
loop-label-preserved c =
    let pointer = c.raw.ensures.value ∙ ap raw_of c.slot.ensures.value in
    λ q.
    let one = ap {B = ℕ} (λ raw. cond (eqb raw q) 1 0) pointer in
    let kept = ap (λ labels. labels_kept c.args.geometry.now c.args.id labels q) c.in-Some.ensures.steps in
    let split = sum_by-cons (λ (l : ℕ). cond (eqb (raw_of (slot_of c.args.geometry.now l c.args.id)) q) 1 0) c.in-Some.label.now c.next.new.self in
    omega (arith, c.loop-label.invariant q, c.in_ok-raise.ensures q, one, kept, split)
