use Rattle.std.proofs.Common.{rules, ◌≤◌, length, sym, subst}
use Rattle.graph_model.specs.Sizes.{most_words}
use Rattle.holder_codec.specs.declared.vertex_holder.VertexHolder.{VertexHolder}
use Rattle.holder_codec.specs.Vertex.{IsVertexHolder, vertex_words}
use Rattle.object_store.specs.Calls.{WritesObject}
use Rattle.object_store.proofs.Works.{went-fell, went-then}
use Rattle.held_objects.proofs.Changes.{may_write, spelled_part}
use Rattle.vertex_ops.proofs.LabelSets.{some_words}
use Rattle.edge_ops.proofs.EdgesParted.{found_few, parts_end}
use Rattle.edge_ops.proofs.parted.part_end.Goals as goal

pub look-requires-clause-spelled : goal.look-requires-clause-spelled
look-requires-clause-spelled g c = spelled_part c.requires.vertex

pub put-requires-clause-may : goal.put-requires-clause-may
put-requires-clause-may g c = may_write (some_words c.in_ok-holder.holder) c.in_ok-holder.ensures.found

pub returns-clause-parted : goal.returns-clause-parted
returns-clause-parted g c =
    parts_end c.args.id c.in_ok-holder.ensures.found c.requires.vertex (subst IsVertexHolder c.parted-parted.ensures.made c.parted-parted.ensures.is)
    (subst (λ (h : VertexHolder). WritesObject c.args.end (vertex_words h) (g.S.Store.state c.look.new.store) (g.S.Store.state c.put.new.store)) c.parted-parted.ensures.made c.in_ok-put.ensures.wrote)

pub put-requires-clause-few : goal.put-requires-clause-few
put-requires-clause-few g c =
    subst (λ (h : VertexHolder). length (vertex_words h) ≤ most_words) (sym c.parted-parted.ensures.made) (found_few c.args.id c.in_ok-holder.ensures.found c.requires.vertex)

pub returns-in_err-put-clause-works : goal.returns-in_err-put-clause-works
returns-in_err-put-clause-works g c = let did = went-fell c.in_ok-holder.ensures.works.went c.in_err-put.ensures.works.fell in search rules

pub returns-clause-works : goal.returns-clause-works
returns-clause-works g c = record { went = went-then c.in_ok-holder.ensures.works.went c.in_ok-put.ensures.works.went; fell = tt }
