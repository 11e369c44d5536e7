use Rattle.std.proofs.Common.{rules, ap, ap₂, ◌∙◌, codes}
use Rattle.std.proofs.lemmas.Result.{IfOk-weaker}
use Rattle.clap.specs.Words.{App, with_rule}
use Rattle.command_words.specs.Items.{Text}
use Rattle.command_words.specs.Parsed.{new_option}
use Rattle.command_words.proofs.matching.load_command.Goals as goal

abbrev more : Text → App → App
more name a = with_rule a (new_option name)

pub returns : goal.returns
returns c =
    let vertices = c.in_ok-files.ensures ∙ ap (more (codes "vertices")) c.bare_command-command.ensures in
    let edges = c.in_ok-files-2.ensures ∙ ap (more (codes "edges")) vertices in
    let ranks = c.in_ok-sizes.ensures ∙ ap (more (codes "ranks")) edges in
    let blocks = c.in_ok-sizes-2.ensures ∙ ap (more (codes "blocks")) ranks in
    let words = c.in_ok-sizes-3.ensures ∙ ap (more (codes "words")) blocks in
    let buckets = c.in_ok-sizes-4.ensures ∙ ap (more (codes "buckets")) words in
    let slots = c.in_ok-sizes-5.ensures ∙ ap (more (codes "slots")) buckets in
    IfOk-weaker c.arg.result _ _ (λ made adds. adds.shape c.names.ensures.local ∙ ap₂ with_rule slots c.names.ensures.rule) c.arg.ensures
