use Rattle.std.proofs.Common.{◌++◌, ◌<◌, length, ap, ◌∙◌, arith}
use Rattle.std.specs.Int.{w64, from_le_bytes}
use Rattle.holder_codec.specs.Texts.{byte_words}
use Rattle.holder_codec.proofs.TextLaws.{goes_on, is_done}
use Rattle.holder_codec.proofs.texts.write_bytes.Goals as goal

pub loop-rest-preserved : goal.loop-rest-preserved
loop-rest-preserved c =
    let more : 0 < length c.loop-rest.rest.now = grind arith in
    let word = c.word_of.ensures ∙ ap (from_le_bytes w64) c.split_at.ensures.front in
    rw (c.in_ok-push.ensures.ok, c.split_at.ensures.back)
    (goes_on c.loop-rest.out c.loop-rest.rest.now (c.args.out.now ++ byte_words c.args.bytes.now) c.min.result c.word_of.result c.min.ensures more word c.loop-rest.invariant)

pub returns : goal.returns
returns c = is_done c.loop-rest.out c.loop-rest.rest.now (c.args.out.now ++ byte_words c.args.bytes.now) (grind arith) c.loop-rest.invariant
