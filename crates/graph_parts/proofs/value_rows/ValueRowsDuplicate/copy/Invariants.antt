use Rattle.std.proofs.Common.{◌≡◌, take}
use Rattle.graph_parts.proofs.value_rows.ValueRowsDuplicate.copy.Given as goal

-- the rows so far are copied
abbrev pub invariant-loop-ty : goal.invariant-loop-ty
invariant-loop-ty l = l.rows.items ≡ take l.ty-index l.ty-items
