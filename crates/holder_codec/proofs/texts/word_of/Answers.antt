use Rattle.std.proofs.Common.{◌∙◌}
use Rattle.holder_codec.proofs.TextLaws.{field_word}
use Rattle.holder_codec.proofs.texts.word_of.Goals as goal

pub returns : goal.returns
returns c = c.from_le_bytes.ensures ∙ rw c.copy_from_slice.ensures.after (field_word c.args.bytes.now)
