use Rattle.object_store.specs.Works.{Went, Nowhere}
use Rattle.holder_codec.specs.Represents.{IsSlot}
use Rattle.label_index.proofs.Listing.{Collects}
use Rattle.label_index.proofs.calls.ids.ids.Given as goal

abbrev pub invariant-loop-n : goal.invariant-loop-n
invariant-loop-n g l = record {
  went : Went g.L.Law.fits g.S.Store.state g.S.Store.explains IsSlot Nowhere l.fn.store l.store;
  collects : Collects l.label l.n (g.S.Store.state l.fn.store) (g.S.Store.state l.store) l.found.items;
}
