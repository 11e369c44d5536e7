use Rattle.object_view.proofs.Growth.{grown}
use Rattle.object_view.proofs.laws.growth_is_that_of_the_graph.Goals as goal

pub returns : goal.returns
returns c = λ shape store writes g h vertices vertices_after edges edges_after ranges well well_after ordered v w rank kept within from.
    grown shape store writes g h well well_after vertices edges vertices_after edges_after ranges ordered v w rank within kept from
