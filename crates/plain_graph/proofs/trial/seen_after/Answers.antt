use Rattle.std.proofs.Common.{◌≡◌, ◌∙◌, subst}
use Rattle.rma_layout.specs.Ranges.{IsInRange}
use Rattle.plain_graph.specs.Touching.{Marks}
use Rattle.plain_graph.proofs.Trying.{first_seen, left_there}
use Rattle.plain_graph.proofs.trial.seen_after.Goals as goal

pub loop-object-init : goal.loop-object-init
loop-object-init c =
    let shape = c.args.map.now.shape in
    let g = c.args.map.now.graph in
    let marks : Marks = c.in_ok-touched.touched in
    let within : IsInRange shape = subst IsInRange c.requires c.keeps_ranges.ensures in
    let given : c.into_iter-object-iterator.result ≡ c.objects-object-items.result.now.entries = c.into_iter-object-iterator.ensures.into_iter_gives.0 in
    let left : c.into_iter-object-iterator.result ≡ marks = given ∙ c.objects-object-items.ensures.entries in
    record {
      seen = first_seen shape g c.args.journal.now marks within c.in_ok-touched.ensures c.objects-object-items.ensures.once c.new-seen.result.items c.into_iter-object-iterator.result c.new-seen.ensures.items left;
      there = left_there shape g c.args.journal.now marks within c.in_ok-touched.ensures c.objects-object-items.ensures.once c.into_iter-object-iterator.result left;
    }
