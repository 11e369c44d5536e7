use Rattle.std.proofs.Common.{◌≡◌, ℕ, ◌+◌, ◌-◌, ◌/◌, ◌<◌, max, ap, ◌∙◌, arith}
use Rattle.std.specs.Int.{div_ceil}
use Rattle.std.proofs.lemmas.Grind.{common_steps}
use Rattle.plain_graph.proofs.trial.blocks_of_words.Goals as goal

rounded : (n d : ℕ) → 0 < d → max (div_ceil n d) 1 ≡ max 1 ((n + (d - 1)) / d)
rounded n d positive = grind (arith, common_steps)

pub returns : goal.returns
returns c =
    c.max.ensures ∙ ap (λ q. max q 1) c.div_ceil.ensures ∙ rounded c.args.words (c.words.result - 1) (omega (arith, c.words.ensures.within))
    ∙ ap (λ w. max 1 ((c.args.words + ((w - 1) - 1)) / (w - 1))) c.words.ensures.value
