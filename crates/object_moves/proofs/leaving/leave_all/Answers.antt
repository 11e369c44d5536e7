use Rattle.std.proofs.Common.{ap, ◌∙◌}
use Rattle.window_rule.specs.View.{View}
use Rattle.window_rule.specs.Locks.{hold_of}
use Rattle.window_rule.proofs.Trails.{follows_trans}
use Rattle.object_moves.proofs.LeavingFacts.{first_held, leave_first, still_held, only-then}
use Rattle.object_moves.proofs.leaving.leave_all.Goals as goal

pub leave-requires-clause-object : goal.leave-requires-clause-object
leave-requires-clause-object g c =
    c.loop-at.invariant.blocks _ _ (first_held c.loop-at.held c.pop_first.new.self _ _ c.in-Some.ensures.some)

pub loop-at-preserved : goal.loop-at-preserved
loop-at-preserved g c =
    let held = c.loop-at.held in
    let more = c.pop_first.new.self in
    let old = c.loop-at.invariant in
    let now = c.leave.ensures in record {
      window = now.window ∙ old.window;
      spares = now.spares ∙ old.spares;
      locks = λ object. ap (λ (v : View g.row.L-Note.Denot). hold_of v.locks object) now.left
          ∙ leave_first held more _ _ c.in-Some.ensures.some c.in-Some.ensures.once _ old.locks object;
      blocks = λ object hold e. old.blocks object hold
          (still_held held more _ _ c.in-Some.ensures.some c.in-Some.ensures.once object hold e);
      only = only-then c.args.rank.now.view c.loop-at.rank.view c.leave.new.rank.view _ old.only now.left;
      follows = follows_trans c.args.rank.now.view c.loop-at.rank.view c.leave.new.rank.view old.follows now.follows;
    }
