-- When a word stands in the way of a want.
use Rattle.std.specs.Prelude.{◌≡◌, ◌≢◌, ℕ, ◌/◌, ◌%◌, ◌^◌}
use Rattle.lock_words.specs.declared.want.Want.{Want}
use Rattle.lock_words.specs.declared.want.Want.TheVariants.{Share, Mark, Rise, Writer, Whole}

-- The first three are of lock words, the last two of gate words. A gate word has the writers in its low half and the
-- whole ones in its high half.
abbrev pub Conflicts : Want → ℕ → Type 0
Conflicts Share word = (word / 2 ^ 32) % 2 ≡ 1
Conflicts Mark word = word ≢ 0
Conflicts Rise word = word ≢ 1
Conflicts Writer word = word / 2 ^ 32 ≢ 0
Conflicts Whole word = word % 2 ^ 32 ≢ 0
