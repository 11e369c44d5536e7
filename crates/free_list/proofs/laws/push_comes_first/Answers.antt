use Rattle.free_list.proofs.ListLemmas.{push_first}
use Rattle.free_list.proofs.laws.push_comes_first.Goals as goal

pub returns : goal.returns
returns c = push_first
