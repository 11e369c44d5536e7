use Rattle.graph_vertices.proofs.Getting.{finds_type, knows_names}
use Rattle.graph_vertices.proofs.finding.find_type.Goals as goal

pub prop-requires-clause-names : goal.prop-requires-clause-names
prop-requires-clause-names g c = knows_names c.requires.stands

pub returns-clause-found : goal.returns-clause-found
returns-clause-found g c = finds_type c.requires.stands c.in_ok-found.ensures.found
