use Rattle.std.proofs.Common.{◌≡◌, drop, map}
use Rattle.command_words.specs.Items.{has_short}
use Rattle.command_words.proofs.short.has_short.Given as goal

-- the words so far are plain, so what follows decides
abbrev pub invariant-loop-word : goal.invariant-loop-word
invariant-loop-word l = has_short (map (λ word. word.now) l.words) ≡ has_short (map (λ word. word.now) (drop l.word-index l.words))
