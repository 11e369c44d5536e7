use Rattle.bulk_load.proofs.AloneLemmas.{one_transaction, not_wrong}
use Rattle.bulk_load.proofs.laws.right_files_are_not_wrong.Goals as goal

pub returns : goal.returns
returns c = record { one = one_transaction; right = not_wrong }
