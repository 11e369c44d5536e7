use Rattle.id_hash.proofs.Knows.{leads_at_first, leads_to_leads, known_elsewhere, still_known}
use Rattle.id_hash.proofs.laws.knowledge_stays.Goals as goal

pub returns-clause-at_first : goal.returns-clause-at_first
returns-clause-at_first g c = λ state ranges none. leads_at_first ranges none

pub returns-clause-looks : goal.returns-clause-looks
returns-clause-looks g c = λ old new looks. still_known looks

pub returns-clause-elsewhere : goal.returns-clause-elsewhere
returns-clause-elsewhere g c = λ Reached Makes old new apart reaches ordered. known_elsewhere (λ place is reached. absurd (cc (apart place is, reached))) reaches ordered

pub returns-clause-leads : goal.returns-clause-leads
returns-clause-leads g c = λ id found state knows. leads_to_leads knows
