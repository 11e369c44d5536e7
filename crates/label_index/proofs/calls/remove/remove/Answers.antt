use Rattle.std.proofs.Common.{rules}
use Rattle.object_store.proofs.Working.{if_ok, ok_and}
use Rattle.object_store.proofs.Works.{went-then, went-fell}
use Rattle.label_index.proofs.InSlots.{few_made, few_left, removes}
use Rattle.label_index.proofs.calls.remove.remove.Goals as goal

pub write_slot-requires-clause-few : goal.write_slot-requires-clause-few
write_slot-requires-clause-few g c =
    if_ok c.slot_without-made.result c.slot_without-made.ensures.made (λ made is. few_made is (few_left c.in_ok-index.ensures.found c.requires.present))

pub returns-in_err-write_slot-clause-works : goal.returns-in_err-write_slot-clause-works
returns-in_err-write_slot-clause-works g c = let did = went-fell c.in_ok-index.ensures.works.went c.in_err-write_slot.ensures.works.fell in search rules

pub returns-clause-works : goal.returns-clause-works
returns-clause-works g c = record { went = went-then c.in_ok-index.ensures.works.went c.in_ok-write_slot.ensures.works.went; fell = tt }

pub returns-clause-removed : goal.returns-clause-removed
returns-clause-removed g c =
    let wrote = c.in_ok-write_slot.ensures in
    ok_and c.slot_without-made.result wrote.wrote c.slot_without-made.ensures.made (λ made put is.
    removes c.in_ok-index.ensures.found made put wrote.works.went.reaches.stays is c.requires.present)
