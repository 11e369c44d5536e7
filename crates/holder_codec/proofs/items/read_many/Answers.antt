use Rattle.std.proofs.Common.{◌≡◌, ◌++◌, ◌∷◌, []}
use Rattle.std.proofs.lemmas.Result.{err_from_is_err_and}
use Rattle.holder_codec.specs.Reading.{many_at}
use Rattle.holder_codec.proofs.Loop.{goes_on, ends, is_done}
use Rattle.holder_codec.proofs.items.read_many.Goals as goal

pub returns-in_err-item : goal.returns-in_err-item
returns-in_err-item g c =
    let p = err_from_is_err_and c.from_residual.result c.from_residual.ensures.1 in
    rw (p.1, p.2) (ends g.I.Item.reading c.in_err-item.field-0.0 c.loop.items c.args.count c.loop.counter c.loop.words.now (many_at g.I.Item.reading c.args.count c.args.words.now.now) c.loop-test.true c.in_err-item.ensures c.loop.invariant)

pub loop-preserved : goal.loop-preserved
loop-preserved g c =
    let e : c.push.new.self ≡ c.loop.items ++ c.in_ok-item.item ∷ [] = c.in_ok-push.ensures.ok in
    rw e (goes_on g.I.Item.reading c.loop.items c.args.count c.loop.counter c.loop.words.now c.in_ok-item.item c.read_from.new.words.now (many_at g.I.Item.reading c.args.count c.args.words.now.now) c.loop-test.true c.in_ok-item.ensures c.loop.invariant)

pub returns : goal.returns
returns g c = is_done g.I.Item.reading c.loop.items c.args.count c.loop.counter c.loop.words.now (many_at g.I.Item.reading c.args.count c.args.words.now.now) c.loop-test.false c.loop.invariant
