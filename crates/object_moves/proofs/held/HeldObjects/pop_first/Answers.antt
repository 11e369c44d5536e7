use Rattle.std.proofs.Common.{ap, ◌∙◌}
use Rattle.window_rule.specs.Locks.{hold_of}
use Rattle.object_moves.specs.Held.{hold_in, locks_in}
use Rattle.object_moves.proofs.HeldMaps.{hold_of-locks_in}
use Rattle.object_moves.proofs.held.HeldObjects.pop_first.Goals as goal

pub returns-clause-once : goal.returns-clause-once
returns-clause-once c =
    ap (hold_of (locks_in c.pop_first.new.self.entries)) c.pointer.ensures
    ∙ (hold_of-locks_in c.pop_first.new.self.entries c.in_ok-raw.raw
    ∙ ap hold_in c.in_ok-raw.ensures.updates.1)
