use Rattle.std.proofs.Common.{◌≡◌, ◌≤◌, sym, subst, ◌∙◌}
use Rattle.std.proofs.lemmas.Bool.{false≢true}
use Rattle.std.proofs.lemmas.Fmt.{decimal_injective}
use Rattle.command_words.proofs.reading.drill_of.Goals as goal

-- another size would have another text
pub returns-then-not-is_size : goal.returns-then-not-is_size
returns-then-not-is_size c = λ size seed h.
    let same : size ≡ c.in_ok-size.size = decimal_injective size c.in_ok-size.size h.0.1 c.in_ok-size.ensures.1 (sym h.0.0 ∙ c.in_ok-size.ensures.0) in
    false≢true (sym c.if-not-is_size.true ∙ c.is_size.ensures.1 (subst (λ n. (1 ≤ n) × (n ≤ 10000)) same (h.2, h.3)))
