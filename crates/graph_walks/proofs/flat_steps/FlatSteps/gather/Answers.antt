use Rattle.std.proofs.Common.{ℕ, List, length, ap, sym, ◌∙◌}
use Rattle.graph_walks.specs.Steps.{Hops, leads, steps_of, hops_of}
use Rattle.graph_walks.proofs.Renaming.{same_steps}
use Rattle.graph_walks.proofs.flat_steps.FlatSteps.gather.Goals as goal

pub returns-clause-steps : goal.returns-clause-steps
returns-clause-steps c = λ i t.
    let ids = c.into_parts-places.result.0 in
    same_steps ids (hops_of c.in_ok-starts.starts.items c.in_ok-starts.ends.items (length ids)) c.into_parts-places.result.1.items
    (λ p q. sym (ap (λ n. leads (hops_of c.in_ok-starts.starts.items c.in_ok-starts.ends.items n) p q) c.len.ensures.value) ∙ c.in_ok-starts.ensures.hops p q ∙ ap (λ (hops : List (ℕ × ℕ)). leads hops p q) c.as_slice.ensures.value) i t
    ∙ sym (ap (λ (h : Hops). leads (steps_of h) i t) c.into_parts-places.ensures.parts)
