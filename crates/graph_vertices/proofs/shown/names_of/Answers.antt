use Rattle.std.proofs.Common.{◌<◌, length}
use Rattle.graph_vertices.proofs.Lines.{each_there, named_more}
use Rattle.graph_vertices.proofs.shown.names_of.Goals as goal

pub at-name-requires : goal.at-name-requires
at-name-requires c = each_there (λ n. n < length c.args.names.now) c.args.labels.now c.loop-place.place _ c.requires c.at-label.ensures

pub loop-place-preserved : goal.loop-place-preserved
loop-place-preserved c = named_more c.args.names.now c.args.labels.now c.loop-place.place _ _ _ _ c.loop-place.invariant c.at-label.ensures c.at-name.ensures c.in_ok-push.ensures.ok
