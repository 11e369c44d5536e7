use Rattle.touched_objects.proofs.Stayed.{each_touches_all, steps_tell_what_stayed}
use Rattle.touched_objects.proofs.law.steps_tell_of_objects.Goals as goal

pub returns-clause-touched : goal.returns-clause-touched
returns-clause-touched c = each_touches_all

pub returns-clause-stayed : goal.returns-clause-stayed
returns-clause-stayed c = steps_tell_what_stayed
