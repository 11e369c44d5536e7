use Rattle.std.proofs.Common.{◌≡◌, true, map, take, List, ℕ, Bor}
use Rattle.std.specs.List.{list_any}
use Rattle.std.specs.Str.{bytes_eq}
use Rattle.std.specs.Ordering.{nat_cmp}
use Rattle.std.specs.Cmp.Lexicographic.{slice_cmp}
use Rattle.std.specs.BTreeSet as sorted
use Rattle.holder_codec.specs.Reading.{are_distinct}
use Rattle.holder_codec.proofs.names.are_distinct.Given as goal

-- the names so far are those that were seen, each once
abbrev pub invariant-loop-item : goal.invariant-loop-item
invariant-loop-item g l = record {
  seen : (name : Bor (List ℕ)) → sorted.contains (λ x y. slice_cmp nat_cmp x.now y.now) l.seen name ≡ list_any (bytes_eq name.now) (map g.N.Named.name_of (take l.item-index l.items));
  once : are_distinct (map g.N.Named.name_of (take l.item-index l.items)) ≡ true;
}
