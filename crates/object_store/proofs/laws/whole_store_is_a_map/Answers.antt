use Rattle.object_store.proofs.Whole.{others_keep, commit_number, commit_adds, commit_writes}
use Rattle.object_store.proofs.laws.whole_store_is_a_map.Goals as goal

pub returns-clause-others_keep : goal.returns-clause-others_keep
returns-clause-others_keep g c = λ old new sound continues every keeps. others_keep g.L.Law.fits old new sound continues every keeps

pub returns-clause-commit_adds : goal.returns-clause-commit_adds
returns-clause-commit_adds g c = λ old new note number sound continues every commits.
    (commit_number g.L.Law.fits old new sound continues every note number commits, commit_adds g.L.Law.fits old new sound continues every note number commits)

pub returns-clause-commit_writes : goal.returns-clause-commit_writes
returns-clause-commit_writes g c = λ old new note number sound continues every commits.
    commit_writes g.L.Law.fits old new sound continues every note number commits
