use Rattle.map_graph.proofs.Noting.{noted_more}
use Rattle.map_graph.proofs.map_graph.MapGraph.note_edges.Goals as goal

pub loop-key-preserved : goal.loop-key-preserved
loop-key-preserved c =
    noted_more c.args.self.now.graph c.loop-key.journal c.note_if_there.new.journal _ c.loop-key.key-iterator c.next.new.self c.in-Some.key.now c.in-Some.ensures.steps c.in_ok-note_if_there.ensures c.loop-key.invariant
