use Rattle.std.proofs.Common.{◌-◌, sym, ap, ◌∙◌, subst, arith}
use Rattle.window_rule.specs.Known.{known_of}
use Rattle.window_rule.specs.Reads.{MayGet}
use Rattle.object_moves.specs.Loads.{content_in}
use Rattle.object_moves.proofs.Chains.{told_more, word_at, word_block, word_told}
use Rattle.object_moves.proofs.loading.payload.Goals as goal

pub at-block-requires : goal.at-block-requires
at-block-requires g c =
    let words = c.words-per_block.ensures.value ∙ ap (λ s. s.words) c.geometry.ensures in
    (word_at g.L.Law.fits c.args.window.now.shape c.args.rank.now.view c.requires.range
    c.requires.truths c.args.at c.args.blocks.now (c.words-per_block.result - 1) c.loop-k.k
    (ap (λ n. n - 1) words) c.requires.blocks
    (omega (arith, c.requires.count, c.loop-k-test.true))).inside

pub get-requires-clause-block : goal.get-requires-clause-block
get-requires-clause-block g c =
    let words = c.words-per_block.ensures.value ∙ ap (λ s. s.words) c.geometry.ensures in
    let word = word_at g.L.Law.fits c.args.window.now.shape c.args.rank.now.view c.requires.range
    c.requires.truths c.args.at c.args.blocks.now (c.words-per_block.result - 1) c.loop-k.k
    (ap (λ n. n - 1) words) c.requires.blocks
    (omega (arith, c.requires.count, c.loop-k-test.true)) in
    (word_block c.args.window.now.shape c.args.rank.now.view c.args.at c.args.blocks.now
    (c.words-per_block.result - 1) c.loop-k.k c.at-block.result.now word c.at-block.ensures).0

pub get-requires-clause-may : goal.get-requires-clause-may
get-requires-clause-may g c =
    let words = c.words-per_block.ensures.value ∙ ap (λ s. s.words) c.geometry.ensures in
    let word = word_at g.L.Law.fits c.args.window.now.shape c.args.rank.now.view c.requires.range
    c.requires.truths c.args.at c.args.blocks.now (c.words-per_block.result - 1) c.loop-k.k
    (ap (λ n. n - 1) words) c.requires.blocks
    (omega (arith, c.requires.count, c.loop-k-test.true)) in
    subst (λ v. MayGet v c.at-block.result.now) (sym c.loop-k.invariant.same)
    (word_block c.args.window.now.shape c.args.rank.now.view c.args.at c.args.blocks.now
    (c.words-per_block.result - 1) c.loop-k.k c.at-block.result.now word c.at-block.ensures).1

pub loop-k-preserved : goal.loop-k-preserved
loop-k-preserved g c =
    let words = c.words-per_block.ensures.value ∙ ap (λ s. s.words) c.geometry.ensures in
    let word = word_at g.L.Law.fits c.args.window.now.shape c.args.rank.now.view c.requires.range
    c.requires.truths c.args.at c.args.blocks.now (c.words-per_block.result - 1) c.loop-k.k
    (ap (λ n. n - 1) words) c.requires.blocks
    (omega (arith, c.requires.count, c.loop-k-test.true)) in
    record {
      window = c.get.ensures.window ∙ c.loop-k.invariant.window;
      spares = c.get.ensures.spares ∙ c.loop-k.invariant.spares;
      same = c.get.ensures.view.view ∙ c.loop-k.invariant.same;
      told = told_more (content_in (known_of c.args.rank.now.view.known c.args.at)) c.loop-k.words
          c.push.new.self c.loop-k.k c.get.result
          (omega (arith, c.requires.count, c.loop-k-test.true))
          (word_told c.args.window.now.shape c.args.rank.now.view c.args.at c.args.blocks.now
          (c.words-per_block.result - 1) c.loop-k.k c.at-block.result.now c.get.result
          c.loop-k.rank.view c.get.new.self.view word c.at-block.ensures (ap (λ n. n - 1) words)
          c.loop-k.invariant.same c.get.ensures.view)
          c.loop-k.invariant.told c.in_ok-push.ensures.ok;
    }
