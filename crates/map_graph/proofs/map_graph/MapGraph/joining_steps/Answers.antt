use Rattle.std.proofs.Common.{◌++◌, sym, ap, subst, ◌∙◌}
use Rattle.std.specs.List.{AllByRecursion, flat_map}
use Rattle.std.proofs.lemmas.List.{append-nil}
use Rattle.graph_model.specs.Maps.{keys}
use Rattle.graph_model.specs.Walks.{both_ways}
use Rattle.graph_walks.specs.Steps.{Hops, leads, steps_of}
use Rattle.map_graph.specs.Plain.{Plain}
use Rattle.map_graph.proofs.Steps.{EndsAreIn, both_over, steps_more, ends-there, joining-over}
use Rattle.map_graph.proofs.map_graph.MapGraph.joining_steps.Goals as goal

pub loop-key-init : goal.loop-key-init
loop-key-init c =
    let all = c.into_iter-key-iterator.ensures.into_iter_gives ∙ c.iter-key-items.ensures.rest ∙ ap (λ (p : Plain). p.graph.edges) c.self.view_is in
    record {
      ids = ap (λ (h : Hops). h.ids) c.in_ok-steps.ensures ∙ c.in_ok-places.ensures;
      ends = subst (AllByRecursion (EndsAreIn (keys c.args.self.now.graph.vertices))) (sym all) (ends-there c.args.self.now.graph c.requires);
      steps = ap (λ (h : Hops). steps_of h ++ flat_map both_over c.into_iter-key-iterator.result) c.in_ok-steps.ensures ∙ ap (λ es. flat_map both_over es) all;
    }

pub loop-key-preserved : goal.loop-key-preserved
loop-key-preserved c = record {
  ids = c.in_ok-add_both_ways.ensures.ids ∙ c.loop-key.invariant.ids;
  ends = (subst (AllByRecursion (EndsAreIn (keys c.args.self.now.graph.vertices))) c.in-Some.ensures.steps c.loop-key.invariant.ends).1;
  steps =
      steps_more both_over (steps_of c.loop-key.steps) (steps_of c.add_both_ways.new.steps) (flat_map both_over c.args.self.now.graph.edges) c.loop-key.key-iterator c.next.new.self (c.in-Some.key.now, c.in-Some.edge.now) c.in-Some.ensures.steps
      (c.in_ok-add_both_ways.ensures.steps
      ∙ ap (λ s. steps_of c.loop-key.steps ++ both_ways s c.target.result) c.source.ensures
      ∙ ap (λ s. steps_of c.loop-key.steps ++ both_ways c.in-Some.key.now.source s) c.target.ensures)
      c.loop-key.invariant.steps;
}

pub returns-clause-steps : goal.returns-clause-steps
returns-clause-steps c = λ i t.
    c.in_ok-flat.ensures.steps i t
    ∙ ap (λ steps. leads steps i t)
    (sym (append-nil (steps_of c.loop-key.steps)) ∙ ap (λ es. steps_of c.loop-key.steps ++ flat_map both_over es) (sym c.in-None.ensures.steps.0) ∙ c.loop-key.invariant.steps)
    ∙ sym (joining-over c.args.self.now.graph.edges i t)
