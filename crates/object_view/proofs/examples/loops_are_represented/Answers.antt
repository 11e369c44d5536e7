use Rattle.object_view.proofs.Example.{stands}
use Rattle.object_view.proofs.examples.loops_are_represented.Goals as goal

pub returns : goal.returns
returns c = stands
