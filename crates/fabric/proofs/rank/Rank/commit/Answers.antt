use Rattle.window_rule.proofs.CommitSteps.{commit_permitted}
use Rattle.fabric.proofs.rank.Rank.commit.Goals as goal

pub fetch_add_about-requires-clause-permits : goal.fetch_add_about-requires-clause-permits
fetch_add_about-requires-clause-permits g c = commit_permitted g.L.Law.fits _ _ _ c.requires.may
