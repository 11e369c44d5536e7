use Rattle.std.proofs.Common.{◌≡◌, ◌++◌, length}
use Rattle.holder_codec.specs.Texts.{byte_words}
use Rattle.holder_codec.proofs.texts.write_bytes.Given as goal

-- what is written, and the words of what is left, are all
abbrev pub invariant-loop-rest : goal.invariant-loop-rest
invariant-loop-rest l = l.out ++ byte_words l.rest ≡ l.fn.out ++ byte_words l.bytes

abbrev pub decreases-loop-rest : goal.decreases-loop-rest
decreases-loop-rest l = length l.rest
