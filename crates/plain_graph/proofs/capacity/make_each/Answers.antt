use Rattle.std.proofs.Common.{◌≡◌, ◌+◌, ◌<◌, ◌∷◌, suc, get_or, drop, drop-cons, arith, ap, ◌∙◌, subst}
use Rattle.std.specs.List.{AllByRecursion}
use Rattle.std.proofs.lemmas.List.{drop_all}
use Rattle.plain_graph.specs.Rooms.{taken_on}
use Rattle.plain_graph.proofs.Finding.{finds_all, finds_more, finds_short, made_more}
use Rattle.plain_graph.proofs.capacity.make_each.Goals as goal

pub loop-rank-preserved : goal.loop-rank-preserved
loop-rank-preserved c =
    let i = c.loop-rank.rank-index in
    let makes = c.args.makes.now in
    let x = get_or makes i 0 in
    let next : suc i ≡ i + 1 = omega arith in
    let rest : drop i makes ≡ x ∷ drop (i + 1) makes = drop-cons makes i 0 c.loop-rank-test.true ∙ ap (λ n. x ∷ drop n makes) next in
    let both = subst (AllByRecursion (λ rank. rank < c.args.geometry.now.ranks)) rest c.loop-rank.invariant.below in
    let room : taken_on c.loop-rank.taken x < c.args.geometry.now.blocks = omega (arith, c.if-taken-blocks.false, c.taken.ensures, c.blocks-blocks.ensures.value) in
    record {
      below = both.1;
      finds = λ g used. finds_more c.args.geometry.now g makes (drop i makes) (drop (i + 1) makes) x c.loop-rank.taken rest both.0 (c.loop-rank.invariant.finds g used) c.take.new.self room c.in_ok-take.ensures;
      taken = λ rank. made_more x (drop i makes) (drop (i + 1) makes) rank _ (taken_on c.loop-rank.taken rank) (taken_on c.take.new.self rank) rest (c.in_ok-take.ensures rank) (c.loop-rank.invariant.taken rank);
    }

pub returns-then-taken-blocks-clause-short : goal.returns-then-taken-blocks-clause-short
returns-then-taken-blocks-clause-short c = λ g used.
    let i = c.loop-rank.rank-index in
    let makes = c.args.makes.now in
    let x = get_or makes i 0 in
    let next : suc i ≡ i + 1 = omega arith in
    let rest : drop i makes ≡ x ∷ drop (i + 1) makes = drop-cons makes i 0 c.loop-rank-test.true ∙ ap (λ n. x ∷ drop n makes) next in
    let both = subst (AllByRecursion (λ rank. rank < c.args.geometry.now.ranks)) rest c.loop-rank.invariant.below in
    finds_short c.args.geometry.now g makes (drop i makes) (drop (i + 1) makes) x c.loop-rank.taken rest both.0 (c.loop-rank.invariant.finds g used)
    (omega (arith, c.if-taken-blocks.true, c.taken.ensures, c.blocks-blocks.ensures.value))

pub returns-clause-short : goal.returns-clause-short
returns-clause-short c = λ g used.
    let i = c.loop-rank.rank-index in
    let makes = c.args.makes.now in
    finds_all c.args.geometry.now g makes (drop i makes) c.loop-rank.taken (drop_all i makes c.loop-rank-test.false) (c.loop-rank.invariant.finds g used)
