use Rattle.std.proofs.Common.{◌≡◌, length, sym, ap, subst, ◌∙◌, arith}
use Rattle.std.proofs.lemmas.List.{take_all}
use Rattle.holder_codec.specs.Bucket.{IsBucketHolder}
use Rattle.id_hash.specs.Entries.{without_entry}
use Rattle.id_hash.proofs.Places.{holder-without_entry}
use Rattle.id_hash.proofs.bucket.bucket_without.Goals as goal

pub returns-clause-holder : goal.returns-clause-holder
returns-clause-holder c =
    let entries = c.args.bucket.now.entries in
    let made : c.loop-entry.entries ≡ without_entry c.args.id entries =
    c.loop-entry.invariant ∙ ap (without_entry c.args.id) (take_all c.loop-entry.entry-index entries (omega (arith, ap length c.as_slice-entry-items.ensures))) in
    subst (λ items. IsBucketHolder (record { entries = items })) (sym made) (holder-without_entry c.args.id entries c.requires.holder)
