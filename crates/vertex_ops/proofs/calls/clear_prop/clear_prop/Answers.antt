use Rattle.std.proofs.Common.{◌≡◌, ◌∙◌, ap, Ok}
use Rattle.object_store.proofs.Works.{went-works}
use Rattle.held_objects.proofs.Changes.{changes_ok, may_write, spelled_part}
use Rattle.holder_codec.proofs.Lengths.{vertex_same}
use Rattle.vertex_ops.specs.Vertices.{holder_for, IsOrderly, unvalued}
use Rattle.vertex_ops.specs.Holders.{without_value}
use Rattle.vertex_ops.proofs.LabelSets.{some_words}
use Rattle.vertex_ops.proofs.PropLists.{unvalued_is, unvalued_orderly}
use Rattle.vertex_ops.proofs.calls.clear_prop.clear_prop.Goals as goal

pub look-requires-clause-spelled : goal.look-requires-clause-spelled
look-requires-clause-spelled g c = spelled_part c.requires.vertex

pub settle-requires-clause-may : goal.settle-requires-clause-may
settle-requires-clause-may g c = may_write (some_words c.in_ok-holder.holder) c.in_ok-holder.ensures.found

pub returns-clause-works : goal.returns-clause-works
returns-clause-works g c = went-works c.settle.result c.in_ok-holder.ensures.works.went c.settle.ensures.works

pub returns-clause-unvalued : goal.returns-clause-unvalued
returns-clause-unvalued g c =
    changes_ok holder_for IsOrderly vertex_same c.in_ok-holder.ensures.found {F = Unit {0}} (unvalued c.args.prop) (λ one. one ≡ without_value c.args.prop c.in_ok-holder.holder) c.settle.result (Ok c.without_value-made.result) (g.S.Store.state c.settle.new.store)
    (λ one is held fits same. (is ∙ ap (without_value c.args.prop) same ∙ unvalued_is c.args.prop held fits, unvalued_orderly c.args.prop held fits)) c.requires.vertex c.without_value-made.ensures.made c.without_value-made.ensures.is c.settle.ensures.settled
