use Rattle.std.proofs.Common.{◌≡◌, ◌-◌}
use Rattle.holder_codec.specs.Reading.{many_at}
use Rattle.holder_codec.proofs.Loop.{with_front}
use Rattle.holder_codec.proofs.items.read_many.Given as goal

-- what was read so far, and what is still read, is all that is read
abbrev pub invariant-loop : goal.invariant-loop
invariant-loop g l = with_front l.items (many_at g.I.Item.reading (l.count - l.counter) l.words.now) ≡ many_at g.I.Item.reading l.count l.fn.words.now
