use Rattle.window_rule.proofs.Renewals.{renew_after}
use Rattle.fabric.proofs.rank.Rank.renew.Goals as goal

pub renew_at-requires-clause-may : goal.renew_at-requires-clause-may
renew_at-requires-clause-may g c = renew_after _ _ _ _ _ c.requires.alone c.head-head.ensures.view
