use Rattle.std.proofs.Common.{◌≡◌}
use Rattle.object_store.specs.declared.phase.Phase.TheVariants.{Writing}
use Rattle.held_objects.specs.Knows.{Knows}
use Rattle.id_hash.specs.Buckets.{Leads}
use Rattle.id_hash.proofs.tests.make_many.Given as goal

abbrev pub invariant-loop-id : goal.invariant-loop-id
invariant-loop-id g l = record { begun : (g.S.Store.state l.store).phase ≡ Writing; leads : Knows Leads (g.S.Store.state l.store) }

abbrev pub invariant-loop-id-2 : goal.invariant-loop-id-2
invariant-loop-id-2 g l = record { begun : (g.S.Store.state l.store).phase ≡ Writing; leads : Knows Leads (g.S.Store.state l.store) }
