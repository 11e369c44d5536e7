use Rattle.std.proofs.Common.{length, sym, ap, subst, arith}
use Rattle.graph_walks.specs.Flat.{AreConsecutive}
use Rattle.graph_walks.specs.Steps.{Rises}
use Rattle.graph_walks.proofs.Finding.{set-rises}
use Rattle.graph_walks.proofs.places.Places.new.Goals as goal

pub invariant_of-result : goal.invariant_of-result
invariant_of-result c = (
  record {
    rises = subst Rises (sym c.into_vec.ensures) (set-rises c.args.ids c.requires);
    few = let same = ap length c.into_vec.ensures in omega (arith, same, c.len.ensures, c.if-len-ge4294967296.false);
  },
  λ all. subst AreConsecutive (sym c.into_vec.ensures) (subst AreConsecutive c.as_slice-3.ensures (c.are_consecutive-consecutive.ensures all)),
)
