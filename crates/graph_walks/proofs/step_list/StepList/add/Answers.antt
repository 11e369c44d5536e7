use Rattle.std.proofs.Common.{◌≡◌, ◌&&◌, [], ◌∷◌, ◌++◌, if◌then◌else◌, subst}
use Rattle.graph_model.specs.Maps.{has}
use Rattle.graph_walks.specs.Steps.{Hops, steps_of}
use Rattle.graph_walks.proofs.Listing.{step_added}
use Rattle.graph_walks.proofs.step_list.StepList.add.Goals as goal

pub returns-clause-steps : goal.returns-clause-steps
returns-clause-steps c =
    subst (λ (h : Hops). steps_of (record { ids = c.self.inside.places; hops = c.push.new.self.items }) ≡ steps_of h ++ (if has h.ids c.args.from && has h.ids c.args.to then (c.args.from, c.args.to) ∷ [] else [])) c.self.view_is
    (step_added c.self.inside.places c.self.inside.hops.items c.push.new.self.items c.args.from c.args.to c.in-Some.from c.in-Some-place.to c.in-Some.ensures c.in-Some-place.ensures c.in_ok-push.ensures.items)
