use Rattle.window_rule.proofs.KeptSpares.{none_has_spares}
use Rattle.fabric.proofs.rank.Rank.seated.Goals as goal

pub invariant_of-result : goal.invariant_of-result
invariant_of-result g c = record {
  slots = c.requires.slots;
  live = c.requires.live;
  rights = c.requires.rights;
  has = none_has_spares _ _ _ _ c.requires.firsts c.requires.lasts;
}
