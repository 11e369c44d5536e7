use Rattle.std.proofs.Common.{◌≡◌, ◌∙◌, ap}
use Rattle.object_store.proofs.Works.{went-works}
use Rattle.held_objects.proofs.Changes.{changes_ok, may_write, spelled_part}
use Rattle.holder_codec.proofs.Lengths.{vertex_same}
use Rattle.vertex_ops.specs.Vertices.{holder_for, IsOrderlyWithSingle, valued}
use Rattle.vertex_ops.specs.Holders.{with_value}
use Rattle.vertex_ops.proofs.LabelSets.{some_words}
use Rattle.vertex_ops.proofs.PropLists.{valued_is, valued_orderly}
use Rattle.vertex_ops.proofs.calls.set_prop.set_prop.Goals as goal

pub look-requires-clause-spelled : goal.look-requires-clause-spelled
look-requires-clause-spelled g c = spelled_part c.requires.vertex

pub settle-requires-clause-may : goal.settle-requires-clause-may
settle-requires-clause-may g c = may_write (some_words c.in_ok-holder.holder) c.in_ok-holder.ensures.found

pub returns-clause-works : goal.returns-clause-works
returns-clause-works g c = went-works c.settle.result c.in_ok-holder.ensures.works.went c.settle.ensures.works

pub returns-clause-valued : goal.returns-clause-valued
returns-clause-valued g c =
    let value = c.args.value.now in
    changes_ok holder_for (IsOrderlyWithSingle c.args.prop) vertex_same c.in_ok-holder.ensures.found (valued c.args.prop value) (λ one. one ≡ with_value c.args.prop value c.in_ok-holder.holder) c.settle.result c.with_value-made.result (g.S.Store.state c.settle.new.store)
    (λ one is held fits same. (is ∙ ap (with_value c.args.prop value) same ∙ valued_is c.args.prop value held fits, valued_orderly c.args.prop value held fits)) c.requires.vertex c.with_value-made.ensures.made c.with_value-made.ensures.is c.settle.ensures.settled
