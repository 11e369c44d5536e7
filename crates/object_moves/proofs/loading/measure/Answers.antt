use Rattle.std.proofs.Common.{length, sym, ap, ◌∙◌}
use Rattle.window_rule.specs.Known.{chain_in}
use Rattle.object_moves.specs.Loads.{blocks_asked}
use Rattle.object_moves.proofs.Chains.{asked_are, measured_is}
use Rattle.object_moves.proofs.loading.measure.Goals as goal

pub walk-requires-clause-count : goal.walk-requires-clause-count
walk-requires-clause-count g c =
    let told = c.length-length.ensures.view in
    let is = measured_is c.args.at told.known told.history c.args.rank.now.view
    c.length-length.new.self.view told.view in
    let full = c.length-length.ensures.truths.full c.args.at told.known is in
    c.chain_blocks-count.ensures
    ∙ (ap (λ s. blocks_asked s c.args.at c.length-length.result) c.geometry-geometry.ensures
    ∙ (ap (blocks_asked c.args.window.now.shape c.args.at) told.found_is
    ∙ (asked_are c.args.window.now.shape c.args.at told.known.content
    ∙ (sym full ∙ sym (ap (λ o. length (chain_in o)) is)))))
