use Rattle.std.proofs.Common.{rules, ap, subst, ◌∙◌}
use Rattle.rma_layout.specs.Ranges.{IsInRange}
use Rattle.object_store.proofs.Works.{went_wider, fell_wider}
use Rattle.object_store.specs.Works.{Nowhere}
use Rattle.label_index.specs.Entries.{pair_of, slot_for}
use Rattle.label_index.specs.Index.{IsSlotFor}
use Rattle.label_index.proofs.InSlots.{spelled_slot, finds_slot}
use Rattle.label_index.proofs.slot.read_slot.Goals as goal

pub look-requires-clause-spelled : goal.look-requires-clause-spelled
look-requires-clause-spelled g c =
    let at = c.slot.ensures.value ∙ ap (λ shape. slot_for shape (pair_of c.args.entry)) c.geometry-geometry.ensures in
    spelled_slot (pair_of c.args.entry) at (subst IsInRange c.geometry-geometry.ensures c.keeps_ranges.ensures) c.requires.indexes

pub returns-clause-works : goal.returns-clause-works
returns-clause-works g c =
    let at = c.slot.ensures.value ∙ ap (λ shape. slot_for shape (pair_of c.args.entry)) c.geometry-geometry.ensures in
    record { went = went_wider {Whole = IsSlotFor (pair_of c.args.entry)} (λ place is. is ∙ at) (λ rank never. never) c.in_ok-index.ensures.works.went; fell = tt }

pub returns-in_err-index-clause-works : goal.returns-in_err-index-clause-works
returns-in_err-index-clause-works g c =
    let at = c.slot.ensures.value ∙ ap (λ shape. slot_for shape (pair_of c.args.entry)) c.geometry-geometry.ensures in
    let did = fell_wider {One = IsSlotFor (pair_of c.args.entry)} {Homes = Nowhere} (λ place is. is ∙ at) (λ rank never. never) c.in_err-index.ensures.works.fell in
    search rules

pub returns-clause-found : goal.returns-clause-found
returns-clause-found g c =
    let at = c.slot.ensures.value ∙ ap (λ shape. slot_for shape (pair_of c.args.entry)) c.geometry-geometry.ensures in
    finds_slot at c.in_ok-index.ensures.found
