use Rattle.label_index.proofs.Knows.{still_known}
use Rattle.label_index.proofs.Tagged.{indexes_at_first}
use Rattle.label_index.proofs.laws.knowledge_stays.Goals as goal

pub returns-clause-at_first : goal.returns-clause-at_first
returns-clause-at_first g c = λ state ranges none. indexes_at_first ranges none

pub returns-clause-looks : goal.returns-clause-looks
returns-clause-looks g c = λ old new looks. still_known looks
