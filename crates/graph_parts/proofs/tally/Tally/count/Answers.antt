use Rattle.std.proofs.Common.{ap, ◌∙◌}
use Rattle.std.specs.Option.{unwrap_or}
use Rattle.graph_model.specs.Maps.{at}
use Rattle.graph_parts.proofs.OrderedMaps.{lookup-at}
use Rattle.graph_parts.proofs.tally.Tally.count.Goals as goal

pub returns : goal.returns
returns c =
    c.unwrap_or.ensures
    ∙ ap (λ o. unwrap_or o 0) (c.copied.ensures ∙ c.get.ensures.value ∙ lookup-at c.args.key c.self.inside.counts.entries ∙ ap (λ es. at es c.args.key) c.self.view_is)
