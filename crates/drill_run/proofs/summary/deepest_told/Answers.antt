use Rattle.std.proofs.Common.{rules, tests, ◌∙◌, ap, sym}
use Rattle.std.proofs.lemmas.Iterator.{YieldsList-from_map, YieldsList-from_slice}
use Rattle.std.proofs.lemmas.Iterator.Adapters.{option_map_id}
use Rattle.std.proofs.lemmas.Iterator.Consumers.{YieldsList-at, max_from_yields_List}
use Rattle.gdi_kinds.specs.declared.pair.Pair.{Pair}
use Rattle.drill_run.specs.Told.{deepest_told}
use Rattle.drill_run.proofs.Looking.{greatest-of}
use Rattle.drill_run.proofs.summary.deepest_told.Goals as goal

pub returns-in-Levels : goal.returns-in-Levels
returns-in-Levels c =
    let found = sym (option_map_id _) ∙ max_from_yields_List c.map.result _ c.max.ensures.ran
    (YieldsList-from_map _ (λ (level : Pair). level.number) (YieldsList-at c.map.ensures.source (YieldsList-from_slice c.in-Levels.levels cc)) c.map.ensures.closure (λ x r q k. search (rules, tests))) in
    greatest-of _ _ _ found c.unwrap_or.ensures ∙ ap deepest_told (sym c.in-Levels.is)
