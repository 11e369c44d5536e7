use Rattle.std.proofs.Common.{ap, ◌∙◌, length, arith}
use Rattle.holder_codec.proofs.TextLaws.{length-bytes_of}
use Rattle.holder_codec.proofs.texts.read_bytes.Goals as goal

-- whole words have the bytes
pub split_at-requires-2 : goal.split_at-requires-2
split_at-requires-2 c =
    let len = ap length (c.as_slice.ensures.value ∙ c.in_ok-bytes.ensures) ∙ length-bytes_of c.split_at.result.0.now in
    omega (arith, len, c.split_at.ensures.front_len, c.div_ceil-whole.ensures)
