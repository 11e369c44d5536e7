use Rattle.std.proofs.Common.{sym, ap, ◌∙◌, ◌≡◌, cond, None, Some, Result, Ok, Err, OnErr}
use Rattle.rma_layout.specs.Placement.{same_place}
use Rattle.window_rule.specs.Locks.{hold_of}
use Rattle.object_moves.specs.Held.{hold_as, hold_in, locks_in}
use Rattle.object_moves.proofs.HeldMaps.{hold_of-locks_in, hold_of-insert_entry}
use Rattle.object_moves.proofs.held.HeldObjects.put.Goals as goal

on_err : {A E : Type 0} {P : Type 0} (result : Result A E) → P → OnErr result P
on_err (Ok a) h = tt
on_err (Err e) h = h

pub returns-in_err-insert-clause-absent : goal.returns-in_err-insert-clause-absent
returns-in_err-insert-clause-absent c =
    let none : hold_of c.args.self.now c.args.at ≡ None =
    ap (λ locks. hold_of locks c.args.at) (sym c.self.view_is)
    ∙ (ap (hold_of (locks_in c.self.inside.modes.entries)) (sym c.key.ensures)
    ∙ (hold_of-locks_in c.self.inside.modes.entries c.key.result
    ∙ ap hold_in c.in_err-insert.ensures.absent)) in
    on_err c.from_residual.result none

pub returns-clause-ok : goal.returns-clause-ok
returns-clause-ok c = λ other.
    ap (λ entries. hold_of (locks_in entries) other) c.in_ok-insert.ensures.entries
    ∙ (hold_of-insert_entry c.key.result c.args.mode other c.self.inside.modes.entries
    ∙ (ap (λ object. cond (same_place object other) (Some (hold_as c.args.mode)) (hold_of (locks_in c.self.inside.modes.entries) other)) c.key.ensures
    ∙ ap (λ locks. cond (same_place c.args.at other) (Some (hold_as c.args.mode)) (hold_of locks other)) c.self.view_is))
