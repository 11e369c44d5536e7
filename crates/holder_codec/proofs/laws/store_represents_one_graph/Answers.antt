use Rattle.holder_codec.proofs.Leading.{represents_leads, buckets_fix_objects}
use Rattle.holder_codec.proofs.OneGraph.{same_edge_objects, same_graph}
use Rattle.holder_codec.proofs.laws.store_represents_one_graph.Goals as goal

pub returns : goal.returns
returns c = record {
  leads = represents_leads;
  objects = buckets_fix_objects;
  edge_objects = same_edge_objects;
  graph = λ shape store one other ranges r s. same_graph shape store one other r s ranges;
}
