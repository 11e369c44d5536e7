use Rattle.std.proofs.Common.{◌≡◌, ◌+◌, ◌-◌, ◌<◌, length, get_or, sym, ap, ◌∙◌, subst, arith}
use Rattle.rma_layout.specs.Placement.{metadata}
use Rattle.window_rule.specs.Known.{chain_in, known_of}
use Rattle.window_rule.specs.Reads.{MayGet}
use Rattle.object_moves.proofs.Chains.{chain_at, link_at, met_more}
use Rattle.object_moves.proofs.loading.walk.Goals as goal

pub get-requires-clause-block : goal.get-requires-clause-block
get-requires-clause-block g c =
    (chain_at g.L.Law.fits c.args.window.now.shape c.args.rank.now.view c.requires.range
    c.requires.truths c.args.at (c.loop.counter - 1) c.loop.block
    (omega (arith, c.requires.count, c.loop-test.true, c.loop.auto.counter))
    c.loop.invariant.this).0

pub get-requires-clause-may : goal.get-requires-clause-may
get-requires-clause-may g c =
    subst (λ v. MayGet v c.loop.block) (sym c.loop.invariant.same)
    (chain_at g.L.Law.fits c.args.window.now.shape c.args.rank.now.view c.requires.range
    c.requires.truths c.args.at (c.loop.counter - 1) c.loop.block
    (omega (arith, c.requires.count, c.loop-test.true, c.loop.auto.counter))
    c.loop.invariant.this).1

pub loop-preserved : goal.loop-preserved
loop-preserved g c =
    let chain = chain_in (known_of c.args.rank.now.view.known c.args.at) in
    let j = c.loop.counter in
    let below : j < length chain = omega (arith, c.requires.count, c.loop-test.true) in
    let one : j - 1 + 1 ≡ j = omega (arith, c.loop.auto.counter) in
    let next : get_or chain j metadata ≡ c.pointer-block.result =
    ap (λ n. get_or chain n metadata) (sym one)
    ∙ (link_at g.L.Law.fits c.args.window.now.shape c.args.rank.now.view c.requires.range
    c.requires.truths c.args.at (j - 1) c.get.result c.loop.block c.loop.rank.view
    c.get.new.self.view c.loop.invariant.same (omega (arith, one, below)) c.loop.invariant.this
    c.get.ensures.view
    ∙ sym c.pointer-block.ensures) in
    let back : j + 1 - 1 ≡ j = omega arith in
    record {
      window = c.get.ensures.window ∙ c.loop.invariant.window;
      spares = c.get.ensures.spares ∙ c.loop.invariant.spares;
      same = c.get.ensures.view.view ∙ c.loop.invariant.same;
      met = met_more chain c.loop.blocks c.push-in-loop.new.self j c.pointer-block.result below next
          c.loop.invariant.met c.in_ok-push-2.ensures.ok;
      this = ap (λ n. get_or chain n metadata) back ∙ next;
    }
