use Rattle.object_store.proofs.Holding.{absorb_whole, absorb_held}
use Rattle.object_store.proofs.objects.Objects.absorb.Goals as goal

pub loop-at-preserved : goal.loop-at-preserved
loop-at-preserved c = record {
  whole = absorb_whole c.loop-at.self c.put.new.self c.loop-at.others c.pop_first.new.self _ _ _ c.in-Some.ensures.some c.in-Ok.ensures.ok c.loop-at.invariant.whole;
  held = absorb_held c.loop-at.self c.put.new.self c.loop-at.others c.pop_first.new.self _ _ c.in-Some.ensures.some c.in-Ok.ensures.ok c.loop-at.invariant.held;
}
