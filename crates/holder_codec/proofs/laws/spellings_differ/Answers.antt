use Rattle.holder_codec.proofs.Lengths.{bucket_same, vertex_same}
use Rattle.holder_codec.proofs.EdgeObjectLaws.{edge_same}
use Rattle.holder_codec.proofs.laws.spellings_differ.Goals as goal

pub returns : goal.returns
returns c = record { buckets = bucket_same; vertices = vertex_same; edges = edge_same }
