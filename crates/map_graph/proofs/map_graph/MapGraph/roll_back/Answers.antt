use Rattle.std.proofs.Common.{sym, subst, ◌∙◌}
use Rattle.graph_undo.specs.Undo.{rolled_back, undone, LeadBack}
use Rattle.graph_undo.proofs.RolledBack.{last_keeps_ends, lead_on}
use Rattle.map_graph.specs.Noted.{undo_of}
use Rattle.map_graph.proofs.map_graph.MapGraph.roll_back.Goals as goal

pub undo-requires : goal.undo-requires
undo-requires c =
    last_keeps_ends c.pop.new.self (undo_of c.in-Some.step) c.loop-step.self.graph (rolled_back c.loop-step.journal c.loop-step.self.graph)
    (subst (λ steps. LeadBack steps c.loop-step.self.graph (rolled_back c.loop-step.journal c.loop-step.self.graph)) c.in-Some.ensures (record { is = λ i. rolled_back c.loop-step.journal c.loop-step.self.graph; ends = c.loop-step.invariant.ends }))

pub loop-step-preserved : goal.loop-step-preserved
loop-step-preserved c =
    let lead : LeadBack c.pop.new.self (undone (undo_of c.in-Some.step) c.loop-step.self.graph) (rolled_back c.loop-step.journal c.loop-step.self.graph) =
    lead_on c.pop.new.self (undo_of c.in-Some.step) c.loop-step.self.graph (rolled_back c.loop-step.journal c.loop-step.self.graph)
    (subst (λ steps. LeadBack steps c.loop-step.self.graph (rolled_back c.loop-step.journal c.loop-step.self.graph)) c.in-Some.ensures (record { is = λ i. rolled_back c.loop-step.journal c.loop-step.self.graph; ends = c.loop-step.invariant.ends })) in
    let now = subst (λ g. LeadBack c.pop.new.self g (rolled_back c.loop-step.journal c.loop-step.self.graph)) (sym c.in_ok-undo.ensures.graph) lead in
    record {
      shape = c.undo.ensures.shape ∙ c.loop-step.invariant.shape;
      back = now.is ∙ c.loop-step.invariant.back;
      ends = now.ends;
    }
