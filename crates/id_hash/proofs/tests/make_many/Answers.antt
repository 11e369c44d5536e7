use Rattle.std.proofs.Common.{subst, sym, ◌∙◌}
use Rattle.rma_layout.specs.Ranges.{IsInRange}
use Rattle.id_hash.proofs.Knows.{leads_at_first}
use Rattle.id_hash.proofs.tests.make_many.Goals as goal

pub loop-id-init : goal.loop-id-init
loop-id-init g c = record {
  begun = c.in_ok-begin.ensures.done.phase;
  leads = leads_at_first (subst IsInRange (c.geometry-geometry.ensures ∙ sym c.in_ok-begin.ensures.keeps.shape) c.keeps_ranges.ensures) c.in_ok-begin.ensures.done.wrote_nothing;
}
