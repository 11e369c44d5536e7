use Rattle.std.proofs.Common.{◌≡◌}
use Rattle.object_store.specs.declared.phase.Phase.TheVariants.{Reading}
use Rattle.object_tests.proofs.objects.each_has.Given as goal

abbrev pub invariant-loop-home : goal.invariant-loop-home
invariant-loop-home g l = record {
  reading : (g.S.Store.state l.store).phase ≡ Reading;
  shape : (g.S.Store.state l.store).shape ≡ (g.S.Store.state l.fn.store).shape;
}
