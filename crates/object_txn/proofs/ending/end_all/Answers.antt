use Rattle.std.proofs.Common.{rules, sym, ap, ◌∙◌, subst}
use Rattle.window_rule.specs.View.{View}
use Rattle.fabric.specs.Window.{RankModel}
use Rattle.object_txn.specs.Endings.{GivesEach}
use Rattle.object_txn.specs.Tied.{IsTied}
use Rattle.object_txn.proofs.EndingFacts.{free_by, rank_by_parts}
use Rattle.object_txn.proofs.ending.end_all.Goals as goal

pub returns-clause-given : goal.returns-clause-given
returns-clause-given g c = record {
  left = c.leave_gate.new.rank;
  private = ap (λ (v : View g.row.L-Note.Denot). v.private) c.leave_gate.ensures.view ∙ ap (λ (v : View g.row.L-Note.Denot). v.private) c.leave_all.ensures.left.only;
  spares = c.leave_gate.ensures.spares ∙ c.leave_all.ensures.spares;
  given = subst (λ (r : RankModel g.row.L-Note.Denot). GivesEach c.args.txn.now.taken.items c.leave_gate.new.rank r) (sym (rank_by_parts c.truths.new.self c.give_all.new.rank
      c.truths.ensures.window c.truths.ensures.view c.truths.ensures.spares)) c.give_all.ensures.given;
}

pub returns-clause-free : goal.returns-clause-free
returns-clause-free g c =
    let tied : IsTied c.args.window.now c.truths.new.self c.end.new.self = search rules in
    free_by c.args.window.now c.truths.new.self c.end.new.self tied c.end.ensures
