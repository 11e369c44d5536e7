use Rattle.std.proofs.Common.{◌≡◌, take, true}
use Rattle.std.specs.List.{Contains}
use Rattle.std.specs.Option.{MatchOption}
use Rattle.object_store.specs.Works.{Nowhere, Went}
use Rattle.edge_ops.specs.Parting.{PartsEnds, is_among}
use Rattle.edge_ops.proofs.far_ends.part_ends.Given as goal

abbrev pub invariant-loop-end : goal.invariant-loop-end
invariant-loop-end g l = record {
  went : Went g.L.Law.fits g.S.Store.state g.S.Store.explains (λ _. Contains l.ends) Nowhere l.fn.store l.store;
  parts : PartsEnds l.id (take l.end-index l.ends) (g.S.Store.state l.fn.store) (g.S.Store.state l.store);
  last : MatchOption l.last (Unit {0}) (λ end. is_among end (take l.end-index l.ends) ≡ true);
}
