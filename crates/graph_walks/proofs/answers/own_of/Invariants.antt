use Rattle.std.proofs.Common.{◌≡◌, ℕ, List, get_or, map}
use Rattle.std.specs.List.{filter, range_with_len}
use Rattle.gdi_kinds.specs.declared.pair.Pair.{Pair}
use Rattle.graph_walks.specs.Marks.{mark_at}
use Rattle.graph_walks.specs.Reached.{is_this}
use Rattle.graph_walks.proofs.answers.own_of.Given as goal

abbrev numbered : List ℕ → List ℕ → ℕ → Pair
numbered ids numbers p = record { id = get_or ids p 0; number = get_or numbers p 0 }

abbrev pub invariant-loop-place : goal.invariant-loop-place
invariant-loop-place l = l.pairs ≡ map (numbered l.ids l.numbers) (filter (λ p. is_this p (mark_at l.marks p)) (range_with_len 0 l.place))
