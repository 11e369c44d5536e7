use Rattle.std.proofs.Common.{◌≡◌, ℕ, ◌&&◌, ◌||◌, Some, None, length, take, if◌then◌else◌}
use Rattle.std.specs.Prelude.{is_none}
use Rattle.std.specs.List.{list_any}
use Rattle.std.specs.Option.{option_or}
use Rattle.graph_model.specs.Maps.{has}
use Rattle.graph_walks.specs.Marks.{mark_at}
use Rattle.graph_walks.specs.Steps.{leads}
use Rattle.graph_walks.proofs.levels.next_front.Given as goal

abbrev pub invariant-loop-v : goal.invariant-loop-v
invariant-loop-v l = record {
  len : length l.marks ≡ length l.fn.marks;
  marks : (j : ℕ) → mark_at l.marks j ≡ option_or (mark_at l.fn.marks j) (if list_any (λ v. leads l.steps.hops v j) (take l.v-index l.front) then Some l.mark else None);
  next : (j : ℕ) → has l.next.items j ≡ (has l.fn.next.items j || (is_none (mark_at l.fn.marks j) && list_any (λ v. leads l.steps.hops v j) (take l.v-index l.front)));
}
