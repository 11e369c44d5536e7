use Rattle.bulk_load.proofs.SuccessLaw.{loaded_calls_succeed}
use Rattle.bulk_load.proofs.laws.loaded_calls_succeed.Goals as goal

pub returns : goal.returns
returns c = loaded_calls_succeed
