use Rattle.std.proofs.Common.{◌≡◌, ◌++◌, drop, map}
use Rattle.gdi_kinds.specs.declared.call.Call.TheVariants.{Tag}
use Rattle.bulk_load.proofs.row.push_tags.Given as goal

abbrev pub invariant-loop-name : goal.invariant-loop-name
invariant-loop-name l = l.calls ++ map (Tag l.fn.id) (drop l.name-index l.names) ≡ l.fn.calls ++ map (Tag l.fn.id) l.names
