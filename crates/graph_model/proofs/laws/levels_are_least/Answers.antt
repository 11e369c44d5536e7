use Rattle.graph_model.proofs.Levels.{level_least}
use Rattle.graph_model.proofs.laws.levels_are_least.Goals as goal

pub returns-clause-least : goal.returns-clause-least
returns-clause-least c = level_least
