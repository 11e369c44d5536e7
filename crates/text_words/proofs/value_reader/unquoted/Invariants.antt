use Rattle.std.proofs.Common.{◌≡◌, ◌++◌, length}
use Rattle.std.specs.List.{flat_map}
use Rattle.text_words.specs.Spelling.{quoted_byte}
use Rattle.text_words.proofs.value_reader.unquoted.Given as goal

-- the bytes so far, and what is left
abbrev pub invariant-loop-rest : goal.invariant-loop-rest
invariant-loop-rest l = l.quoted ≡ flat_map quoted_byte l.bytes.items ++ l.rest

abbrev pub decreases-loop-rest : goal.decreases-loop-rest
decreases-loop-rest l = length l.rest
