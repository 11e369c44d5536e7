use Rattle.std.proofs.Common.{length, sym, ap, ◌∙◌}
use Rattle.window_rule.specs.Known.{chain_in}
use Rattle.object_moves.specs.Loads.{content_in}
use Rattle.object_moves.proofs.Chains.{measured_is}
use Rattle.object_moves.proofs.loading.load.Goals as goal

pub payload-requires-clause-blocks : goal.payload-requires-clause-blocks
payload-requires-clause-blocks g c =
    let told = c.in_ok-blocks.ensures.loads in
    told.loaded.0
    ∙ sym (ap chain_in (measured_is c.args.at told.known told.history c.args.rank.now.view c.measure.new.rank.view told.view))

pub payload-requires-clause-count : goal.payload-requires-clause-count
payload-requires-clause-count g c =
    let told = c.in_ok-blocks.ensures.loads in
    told.loaded.1
    ∙ sym (ap (λ o. length (content_in o)) (measured_is c.args.at told.known told.history c.args.rank.now.view c.measure.new.rank.view told.view))
