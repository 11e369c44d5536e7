use Rattle.holder_codec.specs.Keeping.{empty_represents_empty}
use Rattle.holder_codec.proofs.laws.empty_store_represents_empty_graph.Goals as goal

pub returns : goal.returns
returns c = empty_represents_empty
