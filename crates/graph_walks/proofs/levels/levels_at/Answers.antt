use Rattle.std.proofs.Common.{◌≡◌, ℕ, suc, ◌+◌, ◌||◌, ◌&&◌, List, refl, ap, ◌∙◌}
use Rattle.std.specs.Prelude.{is_none}
use Rattle.std.proofs.Common.{Vec, Global}
use Rattle.std.specs.List.{list_any}
use Rattle.graph_model.specs.Maps.{has}
use Rattle.graph_walks.specs.Marks.{mark_at}
use Rattle.graph_walks.specs.Steps.{leads}
use Rattle.graph_walks.proofs.Bools.{from_none}
use Rattle.graph_walks.proofs.Fronts.{round}
use Rattle.graph_walks.proofs.levels.levels_at.Goals as goal

pub loop-level-preserved : goal.loop-level-preserved
loop-level-preserved c =
    let both =
    round c.args.steps.now.hops c.args.from c.loop-level.level _ c.loop-level.front.items c.next_front.new.next.items (mark_at c.loop-level.levels) (mark_at c.next_front.new.marks) c.loop-level.auto.level refl
    c.loop-level.invariant.marks c.loop-level.invariant.front
    (λ j. c.in_ok-next_front.ensures.marks j ∙ ap (λ (vs : List ℕ). Rattle.std.specs.Option.option_or (mark_at c.loop-level.levels j) (Rattle.std.specs.Prelude.if◌then◌else◌ (list_any (λ v. leads c.args.steps.now.hops v j) vs) (Rattle.std.proofs.Common.Some c.loop-level.level) Rattle.std.proofs.Common.None)) c.deref.ensures.value)
    (λ j. c.in_ok-next_front.ensures.next j ∙ from_none c.clear.new.self.items j (is_none (mark_at c.loop-level.levels j) && list_any (λ v. leads c.args.steps.now.hops v j) c.deref.result.now) c.clear.ensures.items
    ∙ ap (λ (vs : List ℕ). is_none (mark_at c.loop-level.levels j) && list_any (λ v. leads c.args.steps.now.hops v j) vs) c.deref.ensures.value) in
    record {
      len = c.in_ok-next_front.ensures.len ∙ c.loop-level.invariant.len;
      marks = both.0;
      front = λ k is x. ap (λ (v : Vec ℕ Global). has v.items x) c.swap.ensures.x_after ∙ both.1 k is x;
    }
