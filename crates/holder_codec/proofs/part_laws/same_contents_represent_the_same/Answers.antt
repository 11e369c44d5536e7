use Rattle.holder_codec.proofs.Parts.{same_represents}
use Rattle.holder_codec.proofs.part_laws.same_contents_represent_the_same.Goals as goal

pub returns : goal.returns
returns c = same_represents
