use Rattle.std.proofs.Common.{◌+◌, cond, ap, sym, ◌∙◌, arith}
use Rattle.std.specs.Prelude.{count_by}
use Rattle.std.specs.List.{range_with_len}
use Rattle.graph_walks.specs.Marks.{mark_at}
use Rattle.graph_walks.specs.Reached.{is_this}
use Rattle.graph_walks.proofs.Answering.{count-more, few-counted}
use Rattle.graph_walks.proofs.answers.sizes_of.Goals as goal

pub raise-requires-clause-few : goal.raise-requires-clause-few
raise-requires-clause-few c = λ q below.
    let is = c.loop-place.invariant.each q (omega (arith, below, c.loop-place.invariant.len)) in
    let few = few-counted (λ p. is_this q (mark_at c.args.marks.now p)) c.loop-place.place in
    omega (arith, is, few, c.loop-place-test.true)

pub loop-place-preserved : goal.loop-place-preserved
loop-place-preserved c = record {
  len = c.raise.ensures.len ∙ c.loop-place.invariant.len;
  each = λ p below.
      c.raise.ensures.each p
      ∙ ap (λ n. n + cond (is_this p c.get.result) 1 0) (c.loop-place.invariant.each p below)
      ∙ ap (λ m. count_by (λ q. is_this p (mark_at c.args.marks.now q)) (range_with_len 0 c.loop-place.place) + cond (is_this p m) 1 0) c.get.ensures
      ∙ sym (count-more (λ q. is_this p (mark_at c.args.marks.now q)) c.loop-place.place);
}
