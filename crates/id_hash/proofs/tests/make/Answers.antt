use Rattle.std.proofs.Common.{sym, subst}
use Rattle.rma_layout.specs.Placement.{Place, IsReserved}
use Rattle.object_store.proofs.Working.{fresh_reaches}
use Rattle.id_hash.proofs.Knows.{known_elsewhere, unreserved_is_no_bucket}
use Rattle.id_hash.proofs.tests.make.Goals as goal

-- the object that was made is no bucket
pub add-requires-clause-absent : goal.add-requires-clause-absent
add-requires-clause-absent g c =
    let made = c.in_ok-made.ensures in
    let shape = (g.S.Store.state c.room.new.store).shape in
    (known_elsewhere (λ place bucket is. unreserved_is_no_bucket shape place (subst (λ (p : Place). IsReserved shape p.block → ⊥) (sym is) made.done.unreserved) bucket)
    (fresh_reaches _ _ made.done) made.keeps.sound.writes_in_order).leads_to c.args.id _ tt c.in_ok-room.ensures.room.absent
