use Rattle.std.proofs.Common.{◌≡◌, ◌-◌, ap, ◌∙◌, arith}
use Rattle.window_rule.proofs.Trails.{follows_trans}
use Rattle.object_moves.proofs.Settling.{filled-more}
use Rattle.object_moves.proofs.storing.put_payload.Goals as goal

pub loop-k-preserved : goal.loop-k-preserved
loop-k-preserved g c =
    let old = c.loop-k.invariant in
    let per : c.words.result - 1 ≡ c.args.window.now.shape.words - 1 = ap (λ n. n - 1) (c.words.ensures.value ∙ ap (λ s. s.words) c.geometry-geometry.ensures) in
    let both = filled-more c.args.blocks.now c.requires.once c.args.window.now.shape c.args.words.now c.args.rank.now.view c.loop-k.rank.view c.settle.new.rank.view c.loop-k.k (c.words.result - 1)
    c.at.result.now c.at-in-loop-k.result.now per c.requires.reach (omega (arith, c.len-k-end.ensures, c.loop-k-test.true)) c.at.ensures c.at-in-loop-k.ensures old.only old.filled c.settle.ensures.view in
    record {
      window = c.settle.ensures.window ∙ old.window;
      spares = c.settle.ensures.spares ∙ old.spares;
      only = both.0;
      filled = both.1;
      follows = follows_trans c.args.rank.now.view c.loop-k.rank.view c.settle.new.rank.view old.follows c.settle.ensures.follows;
    }
