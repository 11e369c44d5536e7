use Rattle.std.proofs.Common.{subst, sym, ◌∙◌}
use Rattle.rma_layout.specs.Ranges.{IsInRange}
use Rattle.object_store.proofs.Works.{read_looks}
use Rattle.held_objects.proofs.Knows.{still}
use Rattle.id_hash.proofs.Knows.{leads_at_first}
use Rattle.id_hash.proofs.tests.add_and_remove.Goals as goal

pub find-requires-clause-leads : goal.find-requires-clause-leads
find-requires-clause-leads g c =
    leads_at_first (subst IsInRange (c.geometry-geometry.ensures ∙ sym c.in_ok-begin.ensures.keeps.shape) c.keeps_ranges.ensures) c.in_ok-begin.ensures.done.wrote_nothing

pub find-requires-2-clause-leads : goal.find-requires-2-clause-leads
find-requires-2-clause-leads g c = still (read_looks c.in_ok-words.ensures.done) c.in_ok-added.ensures.added.leads
