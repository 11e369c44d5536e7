use Rattle.std.proofs.Common.{refl, sym, ap, ◌∙◌, subst, IsOk}
use Rattle.lock_words.specs.declared.want.Want.TheVariants.{Mark}
use Rattle.window_rule.specs.View.{View, Marked, OfObject}
use Rattle.window_rule.specs.Steps.{locked, tried, unlocked}
use Rattle.object_txn.proofs.LockingFacts.{locked_back, locks_back, locks_put, was_refused}
use Rattle.object_txn.specs.Tied.{HasLocks}
use Rattle.object_txn.proofs.locking.mark_anew.Goals as goal

pub returns-in-Err-clause-refused : goal.returns-in-Err-clause-refused
returns-in-Err-clause-refused g c =
    let before = c.args.rank.now.view in
    was_refused c.args.window.now.shape (OfObject c.args.at) Mark c.in-Err.word before c.mark_try.new.self.view (tried before)
    c.in-Err.ensures.view refl c.in-Err.ensures.cause (λ alone. cc (subst IsOk c.in-Err.is (c.mark_try.ensures.alone alone)))

pub returns-in-Ok-clause-locks : goal.returns-in-Ok-clause-locks
returns-in-Ok-clause-locks g c =
    locks_put c.args.at Marked c.args.held.now c.put.new.self c.in-Ok.ensures.ok c.args.window.now.shape c.args.rank.now.view.locks c.mark_try.new.self.view.locks
    c.requires.object (ap (λ (v : View g.row.L-Note.Denot). v.locks) c.in_default.ensures.view) c.requires.locks

pub returns-in-Err-put-clause-locks : goal.returns-in-Err-put-clause-locks
returns-in-Err-put-clause-locks g c =
    let before = c.args.rank.now.view in
    let view = c.mark_leave.ensures.view ∙ ap (unlocked c.args.at) c.in_default.ensures.view in
    subst (λ held. HasLocks c.args.window.now.shape c.mark_leave.new.self.view.locks held) (sym c.in-Err-put.ensures.err)
    (locks_back c.args.window.now.shape before.locks c.mark_leave.new.self.view.locks c.args.held.now c.args.at Marked
    c.requires.absent (ap (λ (v : View g.row.L-Note.Denot). v.locks) view) c.requires.locks)

pub returns-in-Err-put-clause-locked : goal.returns-in-Err-put-clause-locked
returns-in-Err-put-clause-locked g c =
    let before = c.args.rank.now.view in
    locked_back c.args.at before c.mark_leave.new.self.view (unlocked c.args.at (tried (locked c.args.at Marked before))) c.args.held.now c.put.new.self
    (c.mark_leave.ensures.view ∙ ap (unlocked c.args.at) c.in_default.ensures.view) refl refl c.requires.absent c.in-Err-put.ensures.err
