use Rattle.std.proofs.Common.{◌∙◌, sym, subst, map, []}
use Rattle.command_words.specs.Commands.{load_options}
use Rattle.command_words.specs.Parsed.{OrMemory}
use Rattle.command_words.proofs.Refusals.{none_are, matched_by, refused_by, short_words}
use Rattle.command_words.proofs.matching.match_names.Goals as goal

pub returns-then-has_short : goal.returns-then-has_short
returns-then-has_short c = short_words [] none_are (map (λ word. word.now) c.args.words.now) (sym c.has_short.ensures ∙ c.if-has_short.true)

pub returns-in-Ok-try_get_matches_from : goal.returns-in-Ok-try_get_matches_from
returns-in-Ok-try_get_matches_from c =
    let parse = c.in-Ok-try_get_matches_from in
    matched_by [] none_are _ c.in-Ok.ensures (map (λ word. word.now) c.args.words.now) parse.matches (sym c.has_short.ensures ∙ c.if-has_short.false) parse.ensures.matches parse.ensures.kinds

pub returns-in-Err-try_get_matches_from : goal.returns-in-Err-try_get_matches_from
returns-in-Err-try_get_matches_from c =
    let parse = c.in-Err-try_get_matches_from in
    let words = map (λ word. word.now) c.args.words.now in
    subst (OrMemory [] words) (sym c.refusal_of.ensures) (refused_by [] none_are _ c.in-Ok.ensures words parse.error parse.ensures.kinds)
