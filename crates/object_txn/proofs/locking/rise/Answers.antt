use Rattle.std.proofs.Common.{refl, ap, subst, IsOk}
use Rattle.lock_words.specs.declared.want.Want.TheVariants.{Rise}
use Rattle.window_rule.specs.View.{View, Marked, OfObject}
use Rattle.window_rule.specs.Steps.{tried}
use Rattle.object_txn.proofs.LockingFacts.{locks_put, was_refused}
use Rattle.object_txn.proofs.locking.rise.Goals as goal

pub returns-in-Err-clause-refused : goal.returns-in-Err-clause-refused
returns-in-Err-clause-refused g c =
    let before = c.args.rank.now.view in
    was_refused c.args.window.now.shape (OfObject c.args.at) Rise c.in-Err.word before c.rise_try.new.self.view (tried before)
    c.in-Err.ensures.view refl c.in-Err.ensures.cause (λ alone. cc (subst IsOk c.in-Err.is (c.rise_try.ensures.alone alone)))

pub returns-clause-locks : goal.returns-clause-locks
returns-clause-locks g c =
    locks_put c.args.at Marked c.args.held.now c.put.new.self c.in-Ok.ensures.ok c.args.window.now.shape c.args.rank.now.view.locks c.rise_try.new.self.view.locks
    c.requires.object (ap (λ (v : View g.row.L-Note.Denot). v.locks) c.in_default.ensures.view) c.requires.locks
