use Rattle.holder_codec.proofs.Parts.{all_but_buckets}
use Rattle.holder_codec.proofs.part_laws.buckets_alone.Goals as goal

pub returns : goal.returns
returns c = all_but_buckets
