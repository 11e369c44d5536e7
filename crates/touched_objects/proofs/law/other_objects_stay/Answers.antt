use Rattle.touched_objects.proofs.OtherObjects.{other_objects}
use Rattle.touched_objects.proofs.law.other_objects_stay.Goals as goal

pub returns : goal.returns
returns c = other_objects
