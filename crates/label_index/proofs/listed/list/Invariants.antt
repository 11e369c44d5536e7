use Rattle.std.proofs.Common.{◌≡◌, ◌++◌, take}
use Rattle.label_index.specs.Index.{ids_of}
use Rattle.label_index.proofs.listed.list.Given as goal

abbrev pub invariant-loop-entry : goal.invariant-loop-entry
invariant-loop-entry l = l.ids.items ≡ l.initial.ids.items ++ ids_of l.label (take l.entry-index l.index.entries)
