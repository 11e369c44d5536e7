use Rattle.std.proofs.Common.{◌≡◌, ◌∙◌, ap, Ok}
use Rattle.object_store.proofs.Works.{went-works}
use Rattle.held_objects.proofs.Changes.{changes_ok, may_write, spelled_part}
use Rattle.holder_codec.proofs.Lengths.{vertex_same}
use Rattle.vertex_ops.specs.Vertices.{holder_for, IsOrderly, untagged}
use Rattle.vertex_ops.specs.Holders.{without_label}
use Rattle.vertex_ops.proofs.LabelSets.{untagged_is, untagged_orderly, some_words}
use Rattle.vertex_ops.proofs.calls.clear_label.clear_label.Goals as goal

pub look-requires-clause-spelled : goal.look-requires-clause-spelled
look-requires-clause-spelled g c = spelled_part c.requires.vertex

pub settle-requires-clause-may : goal.settle-requires-clause-may
settle-requires-clause-may g c = may_write (some_words c.in_ok-holder.holder) c.in_ok-holder.ensures.found

pub returns-clause-works : goal.returns-clause-works
returns-clause-works g c = went-works c.settle.result c.in_ok-holder.ensures.works.went c.settle.ensures.works

pub returns-clause-unlabelled : goal.returns-clause-unlabelled
returns-clause-unlabelled g c =
    changes_ok holder_for IsOrderly vertex_same c.in_ok-holder.ensures.found {F = Unit {0}} (untagged c.args.label) (λ one. one ≡ without_label c.args.label c.in_ok-holder.holder) c.settle.result (Ok c.without_label-made.result) (g.S.Store.state c.settle.new.store)
    (λ one is held fits same. (is ∙ ap (without_label c.args.label) same ∙ untagged_is c.args.label held, untagged_orderly c.args.label held fits)) c.requires.vertex c.without_label-made.ensures.made c.without_label-made.ensures.is c.settle.ensures.settled
