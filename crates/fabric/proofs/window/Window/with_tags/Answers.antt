use Rattle.std.proofs.Common.{ap, ◌∙◌}
use Rattle.window_rule.proofs.Openings.{opening_is_lawful, first_is_live, first_is_alone, first_lists}
use Rattle.fabric.proofs.window.Window.with_tags.Goals as goal

pub of_words-requires : goal.of_words-requires
of_words-requires g c =
    rw c.as_slice.ensures.value
    (opening_is_lawful g.L.Law.fits c.args.geometry c.args.tag _ c.keeps_ranges.ensures
    c.in_ok-words.ensures)

pub seated-rank-requires-clause-live : goal.seated-rank-requires-clause-live
seated-rank-requires-clause-live g c = first_is_live c.args.geometry c.args.tag _ c.keeps_ranges.ensures
    (ap (λ me. me.0) c.in_ok-table.ensures.4)

pub returns-clause-alone : goal.returns-clause-alone
returns-clause-alone g c = first_is_alone c.args.geometry c.args.tag _
    (c.seated-rank.ensures.view ∙ ap (λ me. me.0) c.in_ok-table.ensures.4)

pub returns-clause-lists : goal.returns-clause-lists
returns-clause-lists g c = λ rank below. first_lists c.args.geometry c.args.tag _
    (c.seated-rank.ensures.view ∙ ap (λ me. me.0) c.in_ok-table.ensures.4) rank below
