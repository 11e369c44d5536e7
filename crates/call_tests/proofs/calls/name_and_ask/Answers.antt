use Rattle.graph_law.proofs.Standing.{stands_first, stands_still}
use Rattle.call_tests.proofs.calls.name_and_ask.Goals as goal

pub new_label-requires-clause-stands : goal.new_label-requires-clause-stands
new_label-requires-clause-stands g c = stands_first _ c.in_ok-begin.ensures.done.wrote_nothing

pub new_label-requires-2-clause-stands : goal.new_label-requires-2-clause-stands
new_label-requires-2-clause-stands g c =
    let begun = stands_first _ c.in_ok-begin.ensures.done.wrote_nothing in
    let label = c.in_ok-label.ensures in
    stands_still label.works.went.reaches.stays label.works.went.keeps.sound.writes_in_order label.applied begun

pub new_type-requires-clause-stands : goal.new_type-requires-clause-stands
new_type-requires-clause-stands g c =
    let begun = stands_first _ c.in_ok-begin.ensures.done.wrote_nothing in
    let label = c.in_ok-label.ensures in
    let after_label = stands_still label.works.went.reaches.stays label.works.went.keeps.sound.writes_in_order label.applied begun in
    let again = c.in_ok-again.ensures in
    stands_still again.works.went.reaches.stays again.works.went.keeps.sound.writes_in_order again.applied after_label

pub has_vertex-requires-clause-stands : goal.has_vertex-requires-clause-stands
has_vertex-requires-clause-stands g c =
    let begun = stands_first _ c.in_ok-begin.ensures.done.wrote_nothing in
    let label = c.in_ok-label.ensures in
    let after_label = stands_still label.works.went.reaches.stays label.works.went.keeps.sound.writes_in_order label.applied begun in
    let again = c.in_ok-again.ensures in
    let after_again = stands_still again.works.went.reaches.stays again.works.went.keeps.sound.writes_in_order again.applied after_label in
    let typed = c.in_ok-typed.ensures in
    stands_still typed.works.went.reaches.stays typed.works.went.keeps.sound.writes_in_order typed.applied after_again

pub vertex_tags-requires-clause-stands : goal.vertex_tags-requires-clause-stands
vertex_tags-requires-clause-stands g c =
    let begun = stands_first _ c.in_ok-begin.ensures.done.wrote_nothing in
    let label = c.in_ok-label.ensures in
    let after_label = stands_still label.works.went.reaches.stays label.works.went.keeps.sound.writes_in_order label.applied begun in
    let again = c.in_ok-again.ensures in
    let after_again = stands_still again.works.went.reaches.stays again.works.went.keeps.sound.writes_in_order again.applied after_label in
    let typed = c.in_ok-typed.ensures in
    let after_typed = stands_still typed.works.went.reaches.stays typed.works.went.keeps.sound.writes_in_order typed.applied after_again in
    let has = c.in_ok-has.ensures in
    stands_still has.works.went.reaches.stays has.works.went.keeps.sound.writes_in_order has.applied after_typed

pub vertex_props-requires-clause-stands : goal.vertex_props-requires-clause-stands
vertex_props-requires-clause-stands g c =
    let begun = stands_first _ c.in_ok-begin.ensures.done.wrote_nothing in
    let label = c.in_ok-label.ensures in
    let after_label = stands_still label.works.went.reaches.stays label.works.went.keeps.sound.writes_in_order label.applied begun in
    let again = c.in_ok-again.ensures in
    let after_again = stands_still again.works.went.reaches.stays again.works.went.keeps.sound.writes_in_order again.applied after_label in
    let typed = c.in_ok-typed.ensures in
    let after_typed = stands_still typed.works.went.reaches.stays typed.works.went.keeps.sound.writes_in_order typed.applied after_again in
    let has = c.in_ok-has.ensures in
    let after_has = stands_still has.works.went.reaches.stays has.works.went.keeps.sound.writes_in_order has.applied after_typed in
    let tags = c.in_ok-tags.ensures in
    stands_still tags.works.went.reaches.stays tags.works.went.keeps.sound.writes_in_order tags.applied after_has

pub vertex_get-requires-clause-stands : goal.vertex_get-requires-clause-stands
vertex_get-requires-clause-stands g c =
    let begun = stands_first _ c.in_ok-begin.ensures.done.wrote_nothing in
    let label = c.in_ok-label.ensures in
    let after_label = stands_still label.works.went.reaches.stays label.works.went.keeps.sound.writes_in_order label.applied begun in
    let again = c.in_ok-again.ensures in
    let after_again = stands_still again.works.went.reaches.stays again.works.went.keeps.sound.writes_in_order again.applied after_label in
    let typed = c.in_ok-typed.ensures in
    let after_typed = stands_still typed.works.went.reaches.stays typed.works.went.keeps.sound.writes_in_order typed.applied after_again in
    let has = c.in_ok-has.ensures in
    let after_has = stands_still has.works.went.reaches.stays has.works.went.keeps.sound.writes_in_order has.applied after_typed in
    let tags = c.in_ok-tags.ensures in
    let after_tags = stands_still tags.works.went.reaches.stays tags.works.went.keeps.sound.writes_in_order tags.applied after_has in
    let props = c.in_ok-props.ensures in
    stands_still props.works.went.reaches.stays props.works.went.keeps.sound.writes_in_order props.applied after_tags
