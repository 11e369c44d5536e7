use Rattle.std.proofs.Common.{◌≡◌, length, sym, ap, subst, ◌∙◌, arith}
use Rattle.std.proofs.lemmas.List.{take_all}
use Rattle.holder_codec.specs.Index.{IsIndexHolder}
use Rattle.label_index.specs.Entries.{pair_of, without_pair}
use Rattle.label_index.proofs.Slots.{holder-without_pair}
use Rattle.label_index.proofs.slot.slot_without.Goals as goal

pub returns-clause-holder : goal.returns-clause-holder
returns-clause-holder c =
    let entries = c.args.index.now.entries in
    let made : c.loop-one.entries ≡ without_pair (pair_of c.args.entry) entries =
    c.loop-one.invariant ∙ ap (without_pair (pair_of c.args.entry)) (take_all c.loop-one.one-index entries (omega (arith, ap length c.as_slice-one-items.ensures))) in
    subst (λ items. IsIndexHolder (record { entries = items })) (sym made) (holder-without_pair (pair_of c.args.entry) entries c.requires.holder)
