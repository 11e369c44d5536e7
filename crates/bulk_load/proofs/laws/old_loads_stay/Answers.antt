use Rattle.bulk_load.proofs.OldLoadLaw.{old_loads_are_all, old_loads_stay}
use Rattle.bulk_load.proofs.laws.old_loads_stay.Goals as goal

pub returns-clause-stay : goal.returns-clause-stay
returns-clause-stay c = old_loads_stay

pub returns-clause-all : goal.returns-clause-all
returns-clause-all c = old_loads_are_all
