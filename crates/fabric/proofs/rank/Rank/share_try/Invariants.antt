use Rattle.window_rule.specs.Steps.{Shares, Returns, object_of}
use Rattle.window_rule.specs.Trails.{Following}
use Rattle.fabric.proofs.rank.Rank.share_try.Given as goal

abbrev pub ghosts-fetch_add : goal.ghosts-fetch_add
ghosts-fetch_add g a = record { told = Following (Shares a.window.now.shape (object_of a.word)) }

abbrev pub ghosts-fetch_sub : goal.ghosts-fetch_sub
ghosts-fetch_sub g a =
    record { told = Following (λ before _ after. Returns (object_of a.word) before after) }
