use Rattle.std.proofs.Common.{arith}
use Rattle.holder_codec.proofs.Buckets.{length-entries}
use Rattle.holder_codec.proofs.Lengths.{length-vertex_words, length-edge_object_words}
use Rattle.holder_codec.proofs.laws.words_are_counted.Goals as goal

pub returns : goal.returns
returns c = record { bucket = λ bucket. omega (arith, length-entries bucket.entries); vertex = length-vertex_words; edge = length-edge_object_words }
