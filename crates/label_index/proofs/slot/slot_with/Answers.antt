use Rattle.std.proofs.Common.{◌≡◌, refl, sym, subst, ◌∙◌, arith}
use Rattle.holder_codec.specs.Index.{IsIndexHolder, IndexEntryFits}
use Rattle.label_index.specs.Entries.{with_pair}
use Rattle.label_index.proofs.Slots.{holder-with_pair}
use Rattle.label_index.proofs.slot.slot_with.Goals as goal
use Rattle.label_index.proofs.slot.slot_with.Goals.{in-Err+in_ok-insert, in_default}

-- the list is the slot's with the entry, since it is absent
pub returns-clause-holder : goal.returns-clause-holder
returns-clause-holder c =
    let entry = c.args.entry in
    let entries = c.args.index.now.entries in
    let fits : IndexEntryFits entry = record { label = omega arith; id = omega arith } in
    let copied : c.in_ok-entries.entries.items ≡ entries = c.in_ok-entries.ensures.items_if_clones_equal (λ x y same. same) ∙ c.as_slice.ensures in
    let made : c.from_vec-entries.result ≡ with_pair entry entries = elim c.match-position_of.branch [
      | in-Err+in_ok-insert w ↦ cc (w.in_ok-insert.ensures.items, w.in-Err.ensures.2 entry refl)
      | in_default w ↦
          let found = rw w.in_default.is at c.position_of.ensures in
          cc (c.requires.absent, found.2)
    ] in
    subst (λ items. IsIndexHolder (record { entries = items })) (sym made) (holder-with_pair entry entries fits c.requires.holder)
