use Rattle.std.proofs.Common.{◌≡◌, ◌∙◌, refl, sym, subst}
use Rattle.graph_model.specs.WellFormed.{IsWellFormed}
use Rattle.graph_undo.specs.Undo.{LeadBack}
use Rattle.map_graph.proofs.map_graph.MapGraph.run_and_take_back.Goals as goal

pub returns-clause-well_formed : goal.returns-clause-well_formed
returns-clause-well_formed c =
    let g = c.args.self.now.graph in
    let here : LeadBack c.new-journal.result g g = subst (λ steps. LeadBack steps g g) (sym c.new-journal.ensures) (record { is = refl; ends = tt }) in
    let back : c.roll_back.new.self.graph ≡ g = c.in_ok-roll_back.ensures.graph ∙ (c.in_ok-replies.ensures.leads g here).is in
    subst IsWellFormed (sym back) c.requires
