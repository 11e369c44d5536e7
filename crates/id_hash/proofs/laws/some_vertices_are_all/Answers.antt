use Rattle.id_hash.proofs.Knows.{of_all, has_of_all}
use Rattle.id_hash.proofs.laws.some_vertices_are_all.Goals as goal

pub returns : goal.returns
returns c = record { leads_to = of_all; has = has_of_all }
