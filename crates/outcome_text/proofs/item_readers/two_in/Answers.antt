use Rattle.std.proofs.Common.{inl, inr}
use Rattle.std.specs.Fmt.{decimal}
use Rattle.outcome_text.proofs.InverseLemmas.{no_split}
use Rattle.outcome_text.proofs.ItemLemmas.{no_two}
use Rattle.outcome_text.proofs.item_readers.two_in.Goals as goal

pub returns-in_err-first : goal.returns-in_err-first
returns-in_err-first c = rw c.from_residual.ensures (λ m n a b same. no_split c.args.mark (decimal m) (decimal n) c.args.word.now c.in_err-first.ensures same)

pub returns-in_err-number_of : goal.returns-in_err-number_of
returns-in_err-number_of c =
    rw c.from_residual-in_err-number_of.ensures (no_two c.args.mark c.args.word.now _ _ c.requires c.in_ok-first.ensures.0 c.in_ok-first.ensures.1 (inl c.in_err-number_of.ensures))

pub returns-in_err-number_of-2 : goal.returns-in_err-number_of-2
returns-in_err-number_of-2 c =
    rw c.from_residual-in_err-number_of-2.ensures (no_two c.args.mark c.args.word.now _ _ c.requires c.in_ok-first.ensures.0 c.in_ok-first.ensures.1 (inr c.in_err-number_of-2.ensures))
