use Rattle.std.proofs.Common.{rules, ◌≡◌, ◌+◌, ◌∙◌, ◌++◌, ◌∷◌, [], take, ap, subst, sym}
use Rattle.std.specs.List.{Contains}
use Rattle.std.proofs.lemmas.List.{take_more}
use Rattle.std.proofs.lemmas.List.Elements.{Contains-get_or}
use Rattle.rma_layout.specs.Shape.{Shape}
use Rattle.rma_layout.specs.Placement.{IsBlock, Place}
use Rattle.object_store.specs.Works.{Nowhere}
use Rattle.object_store.proofs.Works.{fell_wider, same_went, went-fell, went-then, went_wider}
use Rattle.edge_ops.proofs.EdgesParted.{parts_next, parts_none}
use Rattle.edge_ops.proofs.far_ends.part_ends.Goals as goal

pub loop-end-init : goal.loop-end-init
loop-end-init g c = record {
  went = same_went c.stays_sound.ensures.same c.stays_sound.ensures.sound c.stays_sound.ensures.explained_still;
  parts = parts_none c.stays_sound.ensures.same;
  last = tt;
}

pub part_next-requires-clause-object : goal.part_next-requires-clause-object
part_next-requires-clause-object g c =
    let there = subst (Contains c.args.ends.now) (sym c.end-item.is) (Contains-get_or c.args.ends.now c.loop-end.end-index c.end-item.result c.loop-end-test.true) in
    subst (λ (shape : Shape). IsBlock shape c.end-item.result) (sym c.loop-end.invariant.went.keeps.shape) (c.requires.blocks c.end-item.result there)

pub part_next-requires-clause-vertex : goal.part_next-requires-clause-vertex
part_next-requires-clause-vertex g c =
    let there = subst (Contains c.args.ends.now) (sym c.end-item.is) (Contains-get_or c.args.ends.now c.loop-end.end-index c.end-item.result c.loop-end-test.true) in
    c.loop-end.invariant.parts.known c.end-item.result (c.requires.known c.end-item.result there)

pub returns-in_err-part_next-clause-works : goal.returns-in_err-part_next-clause-works
returns-in_err-part_next-clause-works g c =
    let there = subst (Contains c.args.ends.now) (sym c.end-item.is) (Contains-get_or c.args.ends.now c.loop-end.end-index c.end-item.result c.loop-end-test.true) in
    let did = went-fell c.loop-end.invariant.went (fell_wider {One = λ _. Contains c.args.ends.now} {Homes = Nowhere} (λ place is. subst (Contains c.args.ends.now) (sym is) there) (λ rank never. never) c.in_err-part_next.ensures.works.fell) in
    search rules

pub loop-end-preserved : goal.loop-end-preserved
loop-end-preserved g c =
    let ends = c.args.ends.now in
    let i = c.loop-end.end-index in
    let end = c.end-item.result in
    let there = subst (Contains c.args.ends.now) (sym c.end-item.is) (Contains-get_or c.args.ends.now c.loop-end.end-index c.end-item.result c.loop-end-test.true) in
    let more : take (c.loop-end.end-index + 1) c.args.ends.now ≡ take c.loop-end.end-index c.args.ends.now ++ c.end-item.result ∷ [] = take_more ends i end c.loop-end-test.true ∙ ap (λ (p : Place). take c.loop-end.end-index c.args.ends.now ++ p ∷ []) (sym c.end-item.is) in
    let next = parts_next ends i end c.loop-end.last more c.loop-end.invariant.parts c.loop-end.invariant.last c.in_ok-part_next.ensures.parted c.in_ok-part_next.ensures.works.went.reaches
    c.loop-end.invariant.went.keeps.sound.writes_in_order c.in_ok-part_next.ensures.works.went.keeps.sound.writes_in_order in
    record {
      went = went-then c.loop-end.invariant.went (went_wider {Whole = λ _. Contains c.args.ends.now} {Homes = Nowhere} (λ place is. subst (Contains c.args.ends.now) (sym is) there) (λ rank never. never) c.in_ok-part_next.ensures.works.went);
      parts = next.0;
      last = next.1;
    }
