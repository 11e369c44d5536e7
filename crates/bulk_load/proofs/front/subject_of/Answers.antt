use Rattle.bulk_load.proofs.front.subject_of.Goals as goal

pub returns-in-MarkedEdges : goal.returns-in-MarkedEdges
returns-in-MarkedEdges c = rw c.in-MarkedEdges.is c.marked_edge_of.ensures
