use Rattle.std.proofs.Common.{rules, tests}
use Rattle.std.proofs.lemmas.Iterator.{YieldsList-from_slice}
use Rattle.std.proofs.lemmas.Iterator.Consumers.{YieldsList-at, YieldsList-from_filter, count_from_yields_List}
use Rattle.gdi_kinds.specs.declared.outcome.Line.{Line}
use Rattle.drill_run.specs.Summaries.{is_full}
use Rattle.drill_run.proofs.summary.full_count.Goals as goal

pub returns : goal.returns
returns c =
    count_from_yields_List c.filter.result c.count.result c.count.ensures.ran
    (YieldsList-from_filter _ (λ (line : Line). is_full line.outcome) (YieldsList-at c.filter.ensures.source (YieldsList-from_slice c.args.printed.now.lines cc)) c.filter.ensures.closure (λ x b q k. search (rules, tests)))
