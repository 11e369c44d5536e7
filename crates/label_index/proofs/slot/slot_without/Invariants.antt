use Rattle.std.proofs.Common.{◌≡◌, take}
use Rattle.label_index.specs.Entries.{pair_of, without_pair}
use Rattle.label_index.proofs.slot.slot_without.Given as goal

abbrev pub invariant-loop-one : goal.invariant-loop-one
invariant-loop-one l = l.entries ≡ without_pair (pair_of l.entry) (take l.one-index l.index.entries)
