use Rattle.std.proofs.lemmas.Result.{err_from_is_err_and}
use Rattle.holder_codec.proofs.ValueLaws.{gives_text, fails_text}
use Rattle.holder_codec.proofs.texts.read_text.Goals as goal

pub returns-in_err-of : goal.returns-in_err-of
returns-in_err-of c =
    let p = err_from_is_err_and c.from_residual-in_err-of.result c.from_residual-in_err-of.ensures.1 in
    rw (p.1, p.2) (fails_text c.in_err-of.field-0.0 c.args.count c.args.words.now.now c.in_ok-bytes.bytes.items c.read_bytes.new.words.now c.as_slice.result.now c.in_ok-bytes.ensures c.as_slice.ensures.value c.in_err-of.ensures.not_text)

pub returns : goal.returns
returns c = gives_text c.args.count c.args.words.now.now c.in_ok-bytes.bytes.items c.read_bytes.new.words.now c.in_ok-of.field-0 c.as_slice.result.now c.in_ok-bytes.ensures c.as_slice.ensures.value c.in_ok-of.ensures.ok
