use Rattle.window_rule.specs.Commit.{Commits, entry_by}
use Rattle.fabric.proofs.rank.Rank.commit.Given as goal

abbrev pub ghosts-fetch_add_about : goal.ghosts-fetch_add_about
ghosts-fetch_add_about g a = record {
  told = λ before. Commits
      (entry_by before (g.C.Enters.reads a.about.now) (g.C.Enters.writes a.about.now)
      (g.C.Carries.note a.about.now)) before;
}
