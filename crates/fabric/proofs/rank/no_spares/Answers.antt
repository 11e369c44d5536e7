use Rattle.std.proofs.Common.{rules}
use Rattle.window_rule.proofs.KeptSpares.{zeros_are_none}
use Rattle.fabric.proofs.rank.no_spares.Goals as goal

pub returns : goal.returns
returns c = zeros_are_none _ (search rules)
