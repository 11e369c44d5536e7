use Rattle.id_hash.proofs.InBuckets.{finds}
use Rattle.id_hash.proofs.calls.find.find.Goals as goal

pub returns-clause-found : goal.returns-clause-found
returns-clause-found g c = finds c.in_ok-bucket.ensures.found c.object_in.result c.object_in.ensures c.requires.leads
