use Rattle.std.proofs.Common.{ℕ, List, ◌≡◌, ◌++◌, length}
use Rattle.std.specs.List.{flat_map}
use Rattle.text_words.specs.Spelling.{quoted_byte}
use Rattle.text_words.proofs.line_words.after_closing.Given as goal

-- some bytes are passed, and the rest is left
abbrev pub invariant-bytes : goal.invariant-bytes
invariant-bytes l = (bytes : List ℕ) × (l.fn.quoted ≡ flat_map quoted_byte bytes ++ l.rest)

abbrev pub decreases-bytes : goal.decreases-bytes
decreases-bytes l = length l.rest
