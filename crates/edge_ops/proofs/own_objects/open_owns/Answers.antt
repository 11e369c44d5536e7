use Rattle.std.proofs.Common.{rules, ◌≡◌, ◌+◌, ◌∙◌, ◌++◌, ◌∷◌, [], List, take, ap, subst, sym}
use Rattle.std.specs.List.{Contains}
use Rattle.std.proofs.lemmas.List.{take_more}
use Rattle.std.proofs.lemmas.List.Elements.{Contains-get_or}
use Rattle.object_store.specs.Works.{Nowhere}
use Rattle.object_store.proofs.Works.{fell_wider, same_went, went-fell, went-then, went_wider}
use Rattle.holder_codec.specs.declared.edge_record.EdgeRecord.{EdgeRecord}
use Rattle.edge_ops.specs.Parting.{IsOwnAmong, OpensOwns}
use Rattle.edge_ops.proofs.OwnsCleared.{opens_more, opens_none, own_known_on}
use Rattle.edge_ops.proofs.own_objects.open_owns.Goals as goal

pub loop-edge-init : goal.loop-edge-init
loop-edge-init g c = record {
  went = same_went c.stays_sound.ensures.same c.stays_sound.ensures.sound c.stays_sound.ensures.explained_still;
  opens = opens_none c.stays_sound.ensures.same;
}

pub open_own-requires-clause-own : goal.open_own-requires-clause-own
open_own-requires-clause-own g c =
    let there = subst (Contains c.args.edges.now) (sym c.edge-item.is) (Contains-get_or c.args.edges.now c.loop-edge.edge-index c.edge-item.result c.loop-edge-test.true) in
    own_known_on c.edge-item.result.form c.loop-edge.invariant.opens.looks (c.requires.owns c.edge-item.result there)

pub returns-in_err-open_own-clause-works : goal.returns-in_err-open_own-clause-works
returns-in_err-open_own-clause-works g c =
    let there = subst (Contains c.args.edges.now) (sym c.edge-item.is) (Contains-get_or c.args.edges.now c.loop-edge.edge-index c.edge-item.result c.loop-edge-test.true) in
    let did = went-fell c.loop-edge.invariant.went (fell_wider {One = λ _. IsOwnAmong c.args.edges.now} {Homes = Nowhere} (λ place is. (c.edge-item.result, there, is)) (λ rank never. never) c.in_err-open_own.ensures.works.fell) in
    search rules

pub loop-edge-preserved : goal.loop-edge-preserved
loop-edge-preserved g c =
    let there = subst (Contains c.args.edges.now) (sym c.edge-item.is) (Contains-get_or c.args.edges.now c.loop-edge.edge-index c.edge-item.result c.loop-edge-test.true) in
    let more : take (c.loop-edge.edge-index + 1) c.args.edges.now ≡ take c.loop-edge.edge-index c.args.edges.now ++ c.edge-item.result ∷ [] =
    take_more c.args.edges.now c.loop-edge.edge-index c.edge-item.result c.loop-edge-test.true ∙ ap (λ (r : EdgeRecord). take c.loop-edge.edge-index c.args.edges.now ++ r ∷ []) (sym c.edge-item.is) in
    record {
      went = went-then c.loop-edge.invariant.went (went_wider {Whole = λ _. IsOwnAmong c.args.edges.now} {Homes = Nowhere} (λ place is. (c.edge-item.result, there, is)) (λ rank never. never) c.in_ok-open_own.ensures.works.went);
      opens = subst (λ (done : List EdgeRecord). OpensOwns done (g.S.Store.state c.args.store.now) (g.S.Store.state c.open_own.new.store)) (sym more)
          (opens_more c.edge-item.result c.loop-edge.invariant.opens c.in_ok-open_own.ensures.looks c.in_ok-open_own.ensures.may);
    }
