use Rattle.std.proofs.Common.{arith, inl, inr, refl}
use Rattle.run_check.proofs.Orders.{one_more}
use Rattle.run_check.proofs.ordering.Reached.pass.Goals as goal

pub returns-then-least-self-clause-behind : goal.returns-then-least-self-clause-behind
returns-then-least-self-clause-behind c = λ before come.
    one_more before _ _ _ c.args.line.now come c.requires.same (grind arith) (grind arith) (inr (grind arith))

pub returns-else-least-self-clause-behind : goal.returns-else-least-self-clause-behind
returns-else-least-self-clause-behind c = λ before come.
    one_more before _ _ _ c.args.line.now come c.requires.same (grind arith) (grind arith) (inl refl)
