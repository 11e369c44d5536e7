use Rattle.graph_law.proofs.Standing.{stands_still}
use Rattle.graph_law.proofs.laws.knowledge_stays.Goals as goal

pub returns-clause-after_calls : goal.returns-clause-after_calls
returns-clause-after_calls c = λ call reply old new stays ordered applies knows. stands_still stays ordered applies knows
