use Rattle.object_view.proofs.Change.{changed_view}
use Rattle.object_view.proofs.laws.changes_keep_the_view.Goals as goal

pub returns : goal.returns
returns c = λ shape one other g h vertices vertices_after edges edges_after touched gone ranges well v change.
    changed_view shape one other g well vertices edges ranges v h vertices_after edges_after touched gone change
