use Rattle.touched_objects.proofs.NeededBlocks.{calls_lead_back, needed_by_touched}
use Rattle.touched_objects.proofs.law.needed_by_touched.Goals as goal

pub returns-clause-back : goal.returns-clause-back
returns-clause-back c = calls_lead_back

pub returns-clause-needed : goal.returns-clause-needed
returns-clause-needed c = needed_by_touched
