-- Lock and gate words as two counts, one in the low half and one in the high half.
use Rattle.std.specs.Prelude.{ℕ, ◌+◌, ◌*◌, ◌^◌}

-- the word of so many views that share the object, or are about to take a share back, and so many that have it marked
abbrev pub lock_word : ℕ → ℕ → ℕ
lock_word shares marks = shares + marks * 2 ^ 32

-- the word of so many writing transactions inside, and so many that look at the whole graph
abbrev pub gate_word : ℕ → ℕ → ℕ
gate_word writers wholes = writers + wholes * 2 ^ 32
