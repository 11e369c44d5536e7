use Rattle.std.proofs.Common.{◌≡◌, take}
use Rattle.id_hash.specs.Entries.{without_entry}
use Rattle.id_hash.proofs.bucket.bucket_without.Given as goal

abbrev pub invariant-loop-entry : goal.invariant-loop-entry
invariant-loop-entry l = l.entries ≡ without_entry l.id (take l.entry-index l.bucket.entries)
