use Rattle.std.proofs.Common.{◌≡◌, ◌∙◌, ap}
use Rattle.object_store.proofs.Works.{went-works}
use Rattle.held_objects.proofs.Changes.{changes_ok, may_write, spelled_part}
use Rattle.holder_codec.proofs.Lengths.{vertex_same}
use Rattle.vertex_ops.specs.Vertices.{holder_for, IsOrderly, tagged}
use Rattle.vertex_ops.specs.Holders.{with_label}
use Rattle.vertex_ops.proofs.LabelSets.{tagged_is, tagged_orderly, some_words}
use Rattle.vertex_ops.proofs.calls.set_label.set_label.Goals as goal

pub look-requires-clause-spelled : goal.look-requires-clause-spelled
look-requires-clause-spelled g c = spelled_part c.requires.vertex

pub settle-requires-clause-may : goal.settle-requires-clause-may
settle-requires-clause-may g c = may_write (some_words c.in_ok-holder.holder) c.in_ok-holder.ensures.found

pub returns-clause-works : goal.returns-clause-works
returns-clause-works g c = went-works c.settle.result c.in_ok-holder.ensures.works.went c.settle.ensures.works

pub returns-clause-labelled : goal.returns-clause-labelled
returns-clause-labelled g c =
    changes_ok holder_for IsOrderly vertex_same c.in_ok-holder.ensures.found (tagged c.args.label) (λ one. one ≡ with_label c.args.label c.in_ok-holder.holder) c.settle.result c.with_label-made.result (g.S.Store.state c.settle.new.store)
    (λ one is held fits same. (is ∙ ap (with_label c.args.label) same ∙ tagged_is c.args.label held, tagged_orderly c.args.label held fits)) c.requires.vertex c.with_label-made.ensures.made c.with_label-made.ensures.is c.settle.ensures.settled
