use Rattle.std.proofs.Common.{rules, ◌≡◌, ◌*◌, ℕ, List, ap, subst, sym, ◌∙◌, arith}
use Rattle.rma_layout.specs.Ranges.{IsInRange}
use Rattle.object_store.specs.State.{StoreState}
use Rattle.object_store.proofs.Works.{same_went, went-then, went-fell}
use Rattle.held_objects.proofs.Knows.{still}
use Rattle.label_index.specs.Index.{Lists}
use Rattle.label_index.proofs.Listing.{Collects, collects_none, collects_more, lists_all}
use Rattle.label_index.proofs.calls.ids.ids.Goals as goal

pub loop-n-init : goal.loop-n-init
loop-n-init g c = record {
  went = same_went c.stays_sound.ensures.same c.stays_sound.ensures.sound c.stays_sound.ensures.explained_still;
  collects = subst (λ (ids : List ℕ). Collects c.args.label 0 (g.S.Store.state c.args.store.now) (g.S.Store.state c.stays_sound.new.self) ids) (sym c.new-found.ensures.items) (collects_none c.stays_sound.ensures.same);
}

pub list_slot-requires-clause-indexes : goal.list_slot-requires-clause-indexes
list_slot-requires-clause-indexes g c = still c.loop-n.invariant.collects.looks c.requires.indexes

pub returns-in_err-list_slot-clause-works : goal.returns-in_err-list_slot-clause-works
returns-in_err-list_slot-clause-works g c = let did = went-fell c.loop-n.invariant.went c.in_err-list_slot.ensures.works.fell in search rules

pub loop-n-preserved : goal.loop-n-preserved
loop-n-preserved g c =
    let ranges = subst IsInRange (c.geometry-geometry.ensures ∙ ap (λ (state : StoreState g.row.L-Note.Denot). state.shape) c.stays_sound.ensures.same) c.keeps_ranges.ensures in
    record {
      went = went-then c.loop-n.invariant.went c.in_ok-list_slot.ensures.works.went;
      collects = collects_more ranges c.loop-n.invariant.collects c.in_ok-list_slot.ensures.listed;
    }

pub returns-clause-listed : goal.returns-clause-listed
returns-clause-listed g c =
    let old = g.S.Store.state c.args.store.now in
    let new = g.S.Store.state c.loop-n.store in
    let shape_is = c.geometry-geometry.ensures ∙ ap (λ (state : StoreState g.row.L-Note.Denot). state.shape) c.stays_sound.ensures.same in
    let all : c.loop-n.n ≡ c.ranks.result * c.slots.result = omega arith in
    let end : c.loop-n.n ≡ old.shape.ranks * old.shape.slots = all ∙ ((λ i. c.ranks.ensures.value i * c.slots.ensures.value i) ∙ (λ i. (shape_is i).ranks * (shape_is i).slots)) in
    subst (λ (ids : List ℕ). Lists c.args.label old new ids) (sym c.from_vec.ensures)
    (lists_all (subst IsInRange shape_is c.keeps_ranges.ensures) c.requires.indexes (subst (λ (n : ℕ). Collects c.args.label n old new c.loop-n.found.items) end c.loop-n.invariant.collects)
    c.sort_unstable.ensures.permutation c.sort_unstable.ensures.sorted)
