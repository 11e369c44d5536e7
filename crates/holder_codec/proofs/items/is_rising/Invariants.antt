use Rattle.std.proofs.Common.{◌≡◌, length}
use Rattle.holder_codec.specs.Order.{is_rising}
use Rattle.holder_codec.proofs.items.is_rising.Given as goal

-- what is left rises exactly where the whole list does
abbrev pub invariant-loop-rest : goal.invariant-loop-rest
invariant-loop-rest g l = is_rising g.I.Ordered.is_before l.rest ≡ is_rising g.I.Ordered.is_before l.fn.items

abbrev pub decreases-loop-rest : goal.decreases-loop-rest
decreases-loop-rest g l = length l.rest
