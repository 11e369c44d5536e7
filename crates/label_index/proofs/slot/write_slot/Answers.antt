use Rattle.std.proofs.Common.{ap, ◌∙◌}
use Rattle.object_store.proofs.Works.{works_wider}
use Rattle.label_index.specs.Entries.{pair_of, slot_for}
use Rattle.label_index.specs.Index.{IsSlotFor}
use Rattle.label_index.proofs.slot.write_slot.Goals as goal

pub returns-clause-works : goal.returns-clause-works
returns-clause-works g c =
    let at = c.slot-at.ensures.value ∙ ap (λ shape. slot_for shape (pair_of c.args.entry)) c.geometry.ensures in
    works_wider {Whole = IsSlotFor (pair_of c.args.entry)} c.put.result (λ place is. is ∙ at) (λ rank never. never) c.put.ensures.works
