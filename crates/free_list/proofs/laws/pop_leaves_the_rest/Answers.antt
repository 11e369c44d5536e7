use Rattle.free_list.proofs.ListLemmas.{pop_leaves}
use Rattle.free_list.proofs.laws.pop_leaves_the_rest.Goals as goal

pub returns : goal.returns
returns c = pop_leaves
