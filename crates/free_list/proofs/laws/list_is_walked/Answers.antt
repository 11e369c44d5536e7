use Rattle.free_list.proofs.ListLemmas.{list_is_walked}
use Rattle.free_list.proofs.laws.list_is_walked.Goals as goal

pub returns : goal.returns
returns c = λ heads nexts rank most list h some few.
    list_is_walked nexts rank most _ list h.first h.threaded h.one_rank some few
