use Rattle.fabric.proofs.rank.Rank.split.Given as goal

abbrev pub ghosts-cut : goal.ghosts-cut
ghosts-cut g a = record { rank = a.r; commits = a.commits }
