use Rattle.std.proofs.Common.{◌≡◌}
use Rattle.object_store.specs.declared.phase.Phase.TheVariants.{Writing}
use Rattle.object_tests.proofs.objects.make_on_each.Given as goal

abbrev pub invariant-loop-home : goal.invariant-loop-home
invariant-loop-home g l = record {
  writing : (g.S.Store.state l.store).phase ≡ Writing;
  shape : (g.S.Store.state l.store).shape ≡ (g.S.Store.state l.fn.store).shape;
  allowance : (g.S.Store.state l.store).allowance ≡ (g.S.Store.state l.fn.store).allowance;
}
