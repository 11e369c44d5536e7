use Rattle.holder_codec.proofs.SizesAreLengths.{vertex_size, edge_size, bucket_size, index_size, names_size}
use Rattle.holder_codec.proofs.laws.sizes_are_lengths.Goals as goal

pub returns : goal.returns
returns c = record {
  vertex = vertex_size;
  edge = edge_size;
  bucket = bucket_size;
  index = λ shape g place well. index_size shape place g well;
  names = names_size;
}
