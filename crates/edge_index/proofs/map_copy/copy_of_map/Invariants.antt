use Rattle.std.proofs.Common.{◌≡◌, ◌++◌}
use Rattle.edge_index.proofs.map_copy.copy_of_map.Given as goal

-- the entries so far, and those to come
abbrev pub invariant-loop-key : goal.invariant-loop-key
invariant-loop-key g l = l.copied.entries ++ l.key-iterator ≡ l.map.entries
