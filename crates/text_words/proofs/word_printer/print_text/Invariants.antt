use Rattle.std.proofs.Common.{◌≡◌, ◌++◌, ◌∷◌, [], drop}
use Rattle.std.specs.List.{flat_map}
use Rattle.text_words.specs.Spelling.{quoted_byte}
use Rattle.text_words.proofs.word_printer.print_text.Given as goal

-- the bytes so far and those of the rest are all
abbrev pub invariant-loop-byte : goal.invariant-loop-byte
invariant-loop-byte l = l.out.items ++ flat_map quoted_byte (drop l.byte-index l.byte-items) ≡ (l.fn.out.items ++ 34 ∷ []) ++ flat_map quoted_byte l.byte-items
