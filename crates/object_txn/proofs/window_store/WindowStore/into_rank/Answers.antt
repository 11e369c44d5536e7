use Rattle.std.proofs.Common.{refl, subst, sym}
use Rattle.window_rule.specs.Trails.{Follows}
use Rattle.window_rule.proofs.Trails.{follows_same}
use Rattle.fabric.specs.Window.{RankModel}
use Rattle.object_txn.proofs.window_store.WindowStore.into_rank.Goals as goal
use Rattle.object_txn.proofs.window_store.WindowStore.into_rank.Goals.{then-ne, else-ne}

pub returns-clause-follows : goal.returns-clause-follows
returns-clause-follows g c = elim c.if-ne.branch [
  | then-ne w ↦ subst (λ (r : RankModel g.row.L-Note.Denot). Follows c.args.self.rank.view r.view) (sym w.rank-is) w.end_all.ensures.follows
  | else-ne w ↦ subst (λ (r : RankModel g.row.L-Note.Denot). Follows c.args.self.rank.view r.view) (sym w.rank-is) (follows_same c.args.self.rank.view c.args.self.rank.view c.args.self.rank.view refl refl)
]
