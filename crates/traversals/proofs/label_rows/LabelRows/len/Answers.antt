use Rattle.std.proofs.Common.{List, ℕ, length, ap, arith}
use Rattle.traversals.proofs.Rows.{rows-length}
use Rattle.traversals.proofs.label_rows.LabelRows.len.Goals as goal

pub returns : goal.returns
returns c = omega (arith, c.len.ensures, rows-length 0 c.self.inside.ends.items c.self.inside.numbers.items, ap (λ (rows : List (List ℕ)). length rows) c.self.view_is)
