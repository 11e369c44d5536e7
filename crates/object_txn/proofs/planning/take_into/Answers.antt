use Rattle.std.proofs.Common.{◌∷◌, [], arith, ap}
use Rattle.window_rule.specs.Partition.{times}
use Rattle.object_txn.proofs.MakingFacts.{noted_more}
use Rattle.object_txn.proofs.planning.take_into.Goals as goal

pub returns-in_err-block-clause-more : goal.returns-in_err-block-clause-more
returns-in_err-block-clause-more g c = λ block. omega (arith, ap (times block) c.in_err-block.ensures.unnoted)

pub returns-in_err-push-clause-more : goal.returns-in_err-push-clause-more
returns-in_err-push-clause-more g c = λ block.
    noted_more c.args.taken.now.items c.take_one.new.taken.items c.in_ok-block.block c.in_ok-block.ensures.noted.noted block

pub returns-clause-more : goal.returns-clause-more
returns-clause-more g c = λ block.
    noted_more c.args.taken.now.items c.take_one.new.taken.items c.in_ok-block.block c.in_ok-block.ensures.noted.noted block

pub returns-clause-grown : goal.returns-clause-grown
returns-clause-grown g c = record {
  more = c.in_ok-block.block ∷ [];
  taken = c.in_ok-block.ensures.noted.noted;
  blocks = c.in_ok-push.ensures.ok;
  on_home = (c.in_ok-block.ensures.noted.free.on, tt);
}
