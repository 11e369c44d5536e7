use Rattle.std.proofs.Common.{◌≡◌, ◌+◌, ◌-◌, length, sym, ◌∙◌, arith}
use Rattle.std.proofs.lemmas.Bool.{eqb-true}
use Rattle.graph_walks.proofs.Finding.{set-rises, consecutive}
use Rattle.graph_walks.proofs.places.are_consecutive.Goals as goal

pub returns : goal.returns
returns c = λ all.
    let long : length c.args.ids.now ≡ (length c.args.ids.now - 1) + 1 = omega (arith, c.if-ids-eq0.false) in
    consecutive c.args.ids.now (length c.args.ids.now - 1) (set-rises c.args.ids.now c.requires) long (sym c.saturating_sub.ensures ∙ eqb-true _ _ all)
