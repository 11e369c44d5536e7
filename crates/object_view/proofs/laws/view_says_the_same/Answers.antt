use Rattle.object_view.proofs.View.{viewed}
use Rattle.object_view.proofs.Viewed.{represented}
use Rattle.object_view.proofs.laws.view_says_the_same.Goals as goal

pub returns-clause-viewed : goal.returns-clause-viewed
returns-clause-viewed c = λ shape store g vertices edges ranges well is. viewed shape store g well vertices edges ranges is

pub returns-clause-represented : goal.returns-clause-represented
returns-clause-represented c = λ shape store g vertices edges ranges well v. represented shape store g well vertices edges ranges v
