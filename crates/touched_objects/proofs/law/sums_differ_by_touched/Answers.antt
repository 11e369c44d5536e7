use Rattle.touched_objects.proofs.Standing.{sums_differ_by_these, used_differs}
use Rattle.touched_objects.proofs.law.sums_differ_by_touched.Goals as goal

pub returns-clause-sums : goal.returns-clause-sums
returns-clause-sums c = sums_differ_by_these

pub returns-clause-used : goal.returns-clause-used
returns-clause-used c = used_differs
