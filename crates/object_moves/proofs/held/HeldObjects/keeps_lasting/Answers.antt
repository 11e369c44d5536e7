use Rattle.std.proofs.Common.{sym, ap, ◌∙◌, subst}
use Rattle.window_rule.specs.View.{Locks}
use Rattle.window_rule.specs.ContentsHold.{Lasts}
use Rattle.window_rule.specs.Locks.{hold_of}
use Rattle.object_moves.proofs.HeldMaps.{locks_last}
use Rattle.object_moves.proofs.held.HeldObjects.keeps_lasting.Goals as goal

pub returns : goal.returns
returns c = λ object held. subst (λ (l : Locks). Lasts (hold_of l object)) c.self.view_is
    (locks_last c.self.inside.modes.entries object (λ none. held (ap (λ (l : Locks). hold_of l object) (sym c.self.view_is) ∙ none)))
