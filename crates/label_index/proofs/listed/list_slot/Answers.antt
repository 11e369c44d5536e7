use Rattle.std.proofs.Common.{rules, ◌++◌, List, ap, subst, sym, ◌∙◌}
use Rattle.rma_layout.specs.Ranges.{IsInRange}
use Rattle.object_store.specs.Works.{Nowhere}
use Rattle.object_store.proofs.Works.{went_wider, fell_wider, went-gave_up}
use Rattle.holder_codec.specs.declared.index_entry.IndexEntry.{IndexEntry}
use Rattle.holder_codec.specs.Represents.{IsSlot}
use Rattle.label_index.specs.Entries.{entries_in, slot_at}
use Rattle.label_index.specs.Index.{ids_of}
use Rattle.label_index.proofs.InSlots.{spelled_at, found_entries}
use Rattle.label_index.proofs.Listing.{slot_at_is, slot_at_block}
use Rattle.label_index.proofs.listed.list_slot.Goals as goal

pub look-requires-clause-object : goal.look-requires-clause-object
look-requires-clause-object g c =
    let at = c.place_of-at.ensures ∙ ap (λ shape. slot_at shape c.args.n) c.geometry-geometry.ensures in
    slot_at_block at (subst IsInRange c.geometry-geometry.ensures c.keeps_ranges.ensures) c.requires.slot

pub look-requires-clause-spelled : goal.look-requires-clause-spelled
look-requires-clause-spelled g c =
    let at = c.place_of-at.ensures ∙ ap (λ shape. slot_at shape c.args.n) c.geometry-geometry.ensures in
    let shape = (g.S.Store.state c.args.store.now).shape in
    spelled_at (subst (IsSlot shape) (sym at) (slot_at_is shape c.args.n (subst IsInRange c.geometry-geometry.ensures c.keeps_ranges.ensures) c.requires.slot)) c.requires.indexes

pub returns-in_err-index-clause-works : goal.returns-in_err-index-clause-works
returns-in_err-index-clause-works g c =
    let at = c.place_of-at.ensures ∙ ap (λ shape. slot_at shape c.args.n) c.geometry-geometry.ensures in
    let shape = (g.S.Store.state c.args.store.now).shape in
    let is = subst (IsSlot shape) (sym at) (slot_at_is shape c.args.n (subst IsInRange c.geometry-geometry.ensures c.keeps_ranges.ensures) c.requires.slot) in
    let did = fell_wider {One = IsSlot} {Homes = Nowhere} (λ place here. subst (IsSlot shape) (sym here) is) (λ rank never. never) c.in_err-index.ensures.works.fell in
    search rules

pub returns-in_default-clause-works : goal.returns-in_default-clause-works
returns-in_default-clause-works g c =
    let at = c.place_of-at.ensures ∙ ap (λ shape. slot_at shape c.args.n) c.geometry-geometry.ensures in
    let shape = (g.S.Store.state c.args.store.now).shape in
    let is = subst (IsSlot shape) (sym at) (slot_at_is shape c.args.n (subst IsInRange c.geometry-geometry.ensures c.keeps_ranges.ensures) c.requires.slot) in
    let went = went_wider {Whole = IsSlot} {Homes = Nowhere} (λ place here. subst (IsSlot shape) (sym here) is) (λ rank never. never) c.in_ok-index.ensures.works.went in
    record { went = tt; fell = went-gave_up went c.give_up.ensures }

pub returns-clause-works : goal.returns-clause-works
returns-clause-works g c =
    let at = c.place_of-at.ensures ∙ ap (λ shape. slot_at shape c.args.n) c.geometry-geometry.ensures in
    let shape = (g.S.Store.state c.args.store.now).shape in
    let is = subst (IsSlot shape) (sym at) (slot_at_is shape c.args.n (subst IsInRange c.geometry-geometry.ensures c.keeps_ranges.ensures) c.requires.slot) in
    record { went = went_wider {Whole = IsSlot} (λ place here. subst (IsSlot shape) (sym here) is) (λ rank never. never) c.in_ok-index.ensures.works.went; fell = tt }

pub returns-clause-listed : goal.returns-clause-listed
returns-clause-listed g c =
    let at = c.place_of-at.ensures ∙ ap (λ shape. slot_at shape c.args.n) c.geometry-geometry.ensures in
    let shape = (g.S.Store.state c.args.store.now).shape in
    let is = subst (IsSlot shape) (sym at) (slot_at_is shape c.args.n (subst IsInRange c.geometry-geometry.ensures c.keeps_ranges.ensures) c.requires.slot) in
    record {
      looks = c.in_ok-index.ensures.found.looks;
      listed = λ store entries agrees indexed.
          c.in-Ok.ensures ∙ ap (λ (es : List IndexEntry). c.args.ids.now.items ++ ids_of c.args.label es) (found_entries is c.in_ok-index.ensures.found store entries agrees indexed ∙ ap (entries_in shape entries) at);
    }
