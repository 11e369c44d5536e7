use Rattle.free_list.proofs.ListLemmas.{tags_rise, found_again}
use Rattle.free_list.proofs.laws.found_again_is_unchanged.Goals as goal

pub returns : goal.returns
returns c = record { rises = tags_rise; unchanged = found_again }
