use Rattle.rising_lists.proofs.Rising.{is_rising-with_item, is_rising-where}
use Rattle.rising_lists.proofs.laws.one_item_more_or_less.Goals as goal

pub returns-clause-more : goal.returns-clause-more
returns-clause-more g c = λ key R before item items total same alike. is_rising-with_item key total same before alike item items

pub returns-clause-less : goal.returns-clause-less
returns-clause-less g c = λ key R before p items total same alike. is_rising-where key total same before alike p items
