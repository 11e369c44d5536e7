use Rattle.std.proofs.Common.{◌≡◌, ◌+◌, ◌*◌, true, not, length, rules, arith}
use Rattle.graph_model.specs.Sizes.{is_too_large}
use Rattle.object_store.proofs.Working.{if_ok, ok_and}
use Rattle.object_store.proofs.Works.{went-then, went-fell}
use Rattle.label_index.proofs.InSlots.{few_with, few_made, absent_now, adds_nothing, adds}
use Rattle.label_index.proofs.calls.add.add.Goals as goal

pub returns-then-not-has_room-clause-added : goal.returns-then-not-has_room-clause-added
returns-then-not-has_room-clause-added g c = adds_nothing c.in_ok-index.ensures.found (search rules) c.requires.absent

pub slot_with-made-requires-clause-absent : goal.slot_with-made-requires-clause-absent
slot_with-made-requires-clause-absent g c = absent_now c.in_ok-index.ensures.found c.requires.absent

pub write_slot-requires-clause-few : goal.write_slot-requires-clause-few
write_slot-requires-clause-few g c =
    let room : not (is_too_large (2 * (length c.in_ok-index.index.entries + 1))) ≡ true = search rules in
    if_ok c.slot_with-made.result c.slot_with-made.ensures.made (λ made is. few_made is (few_with c.in_ok-index.index (record { label = c.args.label; id = c.args.id }) room))

pub returns-in_err-write_slot-clause-works : goal.returns-in_err-write_slot-clause-works
returns-in_err-write_slot-clause-works g c = let did = went-fell c.in_ok-index.ensures.works.went c.in_err-write_slot.ensures.works.fell in search rules

pub returns-clause-works : goal.returns-clause-works
returns-clause-works g c = record { went = went-then c.in_ok-index.ensures.works.went c.in_ok-write_slot.ensures.works.went; fell = tt }

pub returns-clause-added : goal.returns-clause-added
returns-clause-added g c =
    let room : not (is_too_large (2 * (length c.in_ok-index.index.entries + 1))) ≡ true = search rules in
    let wrote = c.in_ok-write_slot.ensures in
    ok_and c.slot_with-made.result wrote.wrote c.slot_with-made.ensures.made (λ made put is.
    adds c.in_ok-index.ensures.found made put wrote.works.went.reaches.stays (record { label = omega arith; id = omega arith }) room is c.requires.absent)
