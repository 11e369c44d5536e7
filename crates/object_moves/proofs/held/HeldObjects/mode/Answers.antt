use Rattle.std.proofs.Common.{sym, ap, ◌∙◌}
use Rattle.window_rule.specs.Locks.{hold_of}
use Rattle.object_moves.specs.Held.{hold_in, locks_in}
use Rattle.object_moves.proofs.HeldMaps.{hold_of-locks_in}
use Rattle.object_moves.proofs.held.HeldObjects.mode.Goals as goal

pub returns : goal.returns
returns c =
    ap hold_in (c.copied.ensures ∙ c.get.ensures.value)
    ∙ (sym (hold_of-locks_in c.self.inside.modes.entries c.key.result)
    ∙ (ap (hold_of (locks_in c.self.inside.modes.entries)) c.key.ensures
    ∙ ap (λ locks. hold_of locks c.args.at) c.self.view_is))
