-- Bytes in whole words.
use Rattle.std.specs.Prelude.{ℕ, zero, suc, List, [], ◌∷◌, length, take, drop}
use Rattle.std.specs.Int.{w64, from_le_bytes}
use Rattle.graph_model.specs.Sizes.{words_of_bytes}

-- so many words, each of the next 8 bytes, the first of them lowest. Bytes that are missing are 0
unfoldable pub words_from : ℕ → List ℕ → List ℕ
words_from zero bytes = []
words_from (suc n) bytes = from_le_bytes w64 (take 8 bytes) ∷ words_from n (drop 8 bytes)

-- bytes take a word for each 8 of them
abbrev pub byte_words : List ℕ → List ℕ
byte_words bytes = words_from (words_of_bytes (length bytes)) bytes
