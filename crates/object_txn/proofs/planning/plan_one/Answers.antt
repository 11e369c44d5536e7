use Rattle.std.proofs.Common.{◌++◌, subst, List}
use Rattle.rma_layout.specs.Placement.{Place}
use Rattle.object_txn.specs.Planning.{Grows, own_start}
use Rattle.object_txn.proofs.planning.plan_one.Goals as goal

pub returns-clause-plan : goal.returns-clause-plan
returns-clause-plan g c = record {
  kept = c.len-kept.ensures;
  used = c.used_by-used.ensures;
  grown = subst (λ home. Grows home c.args.taken.now.items c.grow.new.taken.items (c.args.blocks ++ own_start c.args.at c.args.blocks) c.grow.new.blocks) c.rank.ensures
      (subst (λ (l : List Place). Grows c.rank.result c.args.taken.now.items c.grow.new.taken.items l c.grow.new.blocks) c.in_ok-blocks.ensures c.in_ok-grow.ensures.grown);
  enough = c.in_ok-grow.ensures.enough;
}
