use Rattle.std.proofs.Common.{◌≡◌, take}
use Rattle.gdi_kinds.proofs.list_of.ListOfDuplicate.copy.Given as goal

-- the items so far are copied
abbrev pub invariant-loop-item : goal.invariant-loop-item
invariant-loop-item g l = l.items.items ≡ take l.item-index l.item-items
