use Rattle.std.proofs.Common.{sym, ◌∙◌}
use Rattle.meta_tables.proofs.Naming.{names_at_first, names_elsewhere}
use Rattle.meta_tables.proofs.laws.knowledge_stays.Goals as goal

pub returns-clause-at_first : goal.returns-clause-at_first
returns-clause-at_first g c = λ state none. names_at_first none

pub returns-clause-elsewhere : goal.returns-clause-elsewhere
returns-clause-elsewhere g c = λ passes Reached Makes old new apart reaches ordered knows. names_elsewhere {passes = passes} (λ reached. cc (apart, reached)) reaches ordered knows
