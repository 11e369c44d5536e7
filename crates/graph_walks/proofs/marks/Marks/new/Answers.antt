use Rattle.std.proofs.Common.{◌≡◌, ℕ, length, get_or, ap, ◌∙◌, arith}
use Rattle.std.specs.Prelude.{replicate}
use Rattle.std.proofs.lemmas.List.{get_or-replicate, length-replicate}
use Rattle.graph_walks.proofs.Marking.{none_marked}
use Rattle.graph_walks.proofs.marks.Marks.new.Goals as goal

pub returns-clause-none : goal.returns-clause-none
returns-clause-none c =
    let all : c.in_ok-marks.marks.items ≡ replicate c.args.count 4294967295 = c.in_ok-marks.ensures.items_if_clones_equal (λ y is. is) in
    none_marked c.in_ok-marks.marks.items (λ k below.
    let long = ap length all in
    ap (λ ms. get_or ms k 0) all ∙ get_or-replicate c.args.count k 4294967295 0 (omega (arith, below, long, length-replicate {A = ℕ} c.args.count 4294967295)))
