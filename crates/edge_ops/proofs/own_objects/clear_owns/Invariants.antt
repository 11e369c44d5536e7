use Rattle.std.proofs.Common.{take}
use Rattle.std.specs.List.{Contains}
use Rattle.object_store.specs.Works.{Nowhere, Went}
use Rattle.holder_codec.specs.declared.edge_record.EdgeRecord.{EdgeRecord}
use Rattle.edge_ops.specs.Parting.{ClearsOwns, IsOwnAmong, OwnMayWrite}
use Rattle.edge_ops.proofs.own_objects.clear_owns.Given as goal

abbrev pub invariant-loop-edge : goal.invariant-loop-edge
invariant-loop-edge g l = record {
  went : Went g.L.Law.fits g.S.Store.state g.S.Store.explains (λ _. IsOwnAmong l.edges) Nowhere l.fn.store l.store;
  clears : ClearsOwns (take l.edge-index l.edges) (g.S.Store.state l.fn.store) (g.S.Store.state l.store);
  may : (edge : EdgeRecord) → Contains l.edges edge → OwnMayWrite edge.form (g.S.Store.state l.store);
}
