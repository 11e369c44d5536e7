use Rattle.std.proofs.Common.{take}
use Rattle.object_store.specs.Works.{Nowhere, Went}
use Rattle.edge_ops.specs.Parting.{IsOwnAmong, OpensOwns}
use Rattle.edge_ops.proofs.own_objects.open_owns.Given as goal

abbrev pub invariant-loop-edge : goal.invariant-loop-edge
invariant-loop-edge g l = record {
  went : Went g.L.Law.fits g.S.Store.state g.S.Store.explains (λ _. IsOwnAmong l.edges) Nowhere l.fn.store l.store;
  opens : OpensOwns (take l.edge-index l.edges) (g.S.Store.state l.fn.store) (g.S.Store.state l.store);
}
