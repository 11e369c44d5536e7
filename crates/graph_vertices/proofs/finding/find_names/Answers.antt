use Rattle.graph_vertices.proofs.VertexHere.{finds_names, spelled_names}
use Rattle.graph_vertices.proofs.finding.find_names.Goals as goal

pub look-requires-clause-spelled : goal.look-requires-clause-spelled
look-requires-clause-spelled g c = spelled_names c.new.ensures c.requires.stands

pub returns-clause-found : goal.returns-clause-found
returns-clause-found g c = finds_names c.new.ensures c.requires.stands c.in_ok-names.ensures.found
