use Rattle.holder_codec.proofs.Parts.{names_kept, buckets_kept, vertices_kept, edges_kept, index_kept, rest_kept}
use Rattle.holder_codec.proofs.part_laws.parts_look_at_their_own_objects.Goals as goal

pub returns : goal.returns
returns c = record {
  names = names_kept;
  buckets = buckets_kept;
  vertices = vertices_kept;
  heavy_edges = edges_kept;
  index = index_kept;
  rest = rest_kept;
}
