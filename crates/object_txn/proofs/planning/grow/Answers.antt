use Rattle.std.proofs.Common.{◌∙◌, [], refl, sym, arith, append-nil}
use Rattle.window_rule.specs.Trails.{trail_of}
use Rattle.window_rule.proofs.Trails.{follows_trans, goes_on-refl}
use Rattle.object_txn.proofs.Explaining.{explains_earlier}
use Rattle.object_txn.proofs.PlanningFacts.{grows-then, grows_more, taken-then}
use Rattle.object_txn.proofs.planning.grow.Goals as goal

pub loop-rank-init : goal.loop-rank-init
loop-rank-init g c = record {
  window = refl;
  taken = c.requires.taken;
  only = refl;
  owns = λ block. omega arith;
  grown = record { more = []; taken = sym (append-nil c.args.taken.now.items); blocks = sym (append-nil c.args.blocks.now); on_home = tt };
  follows = goes_on-refl (trail_of c.args.rank.now.view);
}

pub loop-rank-preserved : goal.loop-rank-preserved
loop-rank-preserved g c =
    let old = c.loop-rank.invariant in record {
      window = c.take_into.ensures.window ∙ old.window;
      taken = c.take_into.ensures.taken;
      only = taken-then c.args.rank.now.view c.loop-rank.rank.view c.take_into.new.rank.view old.only c.take_into.ensures.only;
      owns = λ block. omega (arith, old.owns block, c.take_into.ensures.owns block);
      grown = grows-then c.args.home c.args.taken.now.items c.loop-rank.taken.items c.take_into.new.taken.items c.args.blocks.now c.loop-rank.blocks c.take_into.new.blocks
          old.grown c.in_default.ensures.grown;
      follows = follows_trans c.args.rank.now.view c.loop-rank.rank.view c.take_into.new.rank.view old.follows c.take_into.ensures.follows;
    }

pub returns-in-Err-clause-more : goal.returns-in-Err-clause-more
returns-in-Err-clause-more g c = λ block.
    omega (arith, c.take_into.ensures.more block, grows_more c.args.home c.args.taken.now.items c.loop-rank.taken.items c.args.blocks.now c.loop-rank.blocks c.loop-rank.invariant.grown block)

pub returns-in-Err-clause-only : goal.returns-in-Err-clause-only
returns-in-Err-clause-only g c =
    taken-then c.args.rank.now.view c.loop-rank.rank.view c.take_into.new.rank.view c.loop-rank.invariant.only c.take_into.ensures.only

pub returns-in-Err-clause-refused : goal.returns-in-Err-clause-refused
returns-in-Err-clause-refused g c =
    explains_earlier c.args.window.now.shape c.args.rank.now.view c.loop-rank.rank.view c.take_into.new.rank.view c.in-Err.why
    c.loop-rank.invariant.follows c.in-Err.ensures.refused

pub returns-clause-more : goal.returns-clause-more
returns-clause-more g c = λ block.
    grows_more c.args.home c.args.taken.now.items c.loop-rank.taken.items c.args.blocks.now c.loop-rank.blocks c.loop-rank.invariant.grown block

pub returns-clause-owns : goal.returns-clause-owns
returns-clause-owns g c = c.loop-rank.invariant.owns

pub returns-in-Err-clause-owns : goal.returns-in-Err-clause-owns
returns-in-Err-clause-owns g c = λ block. omega (arith, c.loop-rank.invariant.owns block, c.take_into.ensures.owns block)
