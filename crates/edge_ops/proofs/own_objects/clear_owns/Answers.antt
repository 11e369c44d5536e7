use Rattle.std.proofs.Common.{rules, ◌≡◌, ◌+◌, ◌∙◌, ◌++◌, ◌∷◌, [], List, take, ap, subst, sym}
use Rattle.std.specs.List.{Contains}
use Rattle.std.proofs.lemmas.List.{take_more}
use Rattle.std.proofs.lemmas.List.Elements.{Contains-get_or}
use Rattle.rma_layout.specs.Shape.{Shape}
use Rattle.object_store.specs.State.{StoreState}
use Rattle.object_store.specs.Works.{Nowhere}
use Rattle.object_store.proofs.Works.{fell_wider, same_went, went-fell, went-then, went_wider}
use Rattle.holder_codec.specs.declared.edge_record.EdgeRecord.{EdgeRecord}
use Rattle.edge_ops.specs.Opening.{OwnIsBlock}
use Rattle.edge_ops.specs.Parting.{ClearsOwns, IsOwnAmong, OwnMayWrite}
use Rattle.edge_ops.proofs.OwnsCleared.{clears_more, clears_none, may_still_cleared}
use Rattle.edge_ops.proofs.own_objects.clear_owns.Goals as goal

pub loop-edge-init : goal.loop-edge-init
loop-edge-init g c = record {
  went = same_went c.stays_sound.ensures.same c.stays_sound.ensures.sound c.stays_sound.ensures.explained_still;
  clears = clears_none c.stays_sound.ensures.same;
  may = λ edge is. subst (λ (state : StoreState g.row.L-Note.Denot). OwnMayWrite edge.form state) (sym c.stays_sound.ensures.same) (c.requires.may edge is);
}

pub clear_own-requires-clause-own : goal.clear_own-requires-clause-own
clear_own-requires-clause-own g c =
    let there = subst (Contains c.args.edges.now) (sym c.edge-item.is) (Contains-get_or c.args.edges.now c.loop-edge.edge-index c.edge-item.result c.loop-edge-test.true) in
    subst (λ (shape : Shape). OwnIsBlock c.edge-item.result.form shape) (sym c.loop-edge.invariant.went.keeps.shape) (c.requires.blocks c.edge-item.result there)

pub clear_own-requires-clause-may : goal.clear_own-requires-clause-may
clear_own-requires-clause-may g c =
    let there = subst (Contains c.args.edges.now) (sym c.edge-item.is) (Contains-get_or c.args.edges.now c.loop-edge.edge-index c.edge-item.result c.loop-edge-test.true) in
    c.loop-edge.invariant.may c.edge-item.result there

pub returns-in_err-clear_own-clause-works : goal.returns-in_err-clear_own-clause-works
returns-in_err-clear_own-clause-works g c =
    let there = subst (Contains c.args.edges.now) (sym c.edge-item.is) (Contains-get_or c.args.edges.now c.loop-edge.edge-index c.edge-item.result c.loop-edge-test.true) in
    let did = went-fell c.loop-edge.invariant.went (fell_wider {One = λ _. IsOwnAmong c.args.edges.now} {Homes = Nowhere} (λ place is. (c.edge-item.result, there, is)) (λ rank never. never) c.in_err-clear_own.ensures.works.fell) in
    search rules

pub loop-edge-preserved : goal.loop-edge-preserved
loop-edge-preserved g c =
    let there = subst (Contains c.args.edges.now) (sym c.edge-item.is) (Contains-get_or c.args.edges.now c.loop-edge.edge-index c.edge-item.result c.loop-edge-test.true) in
    let more : take (c.loop-edge.edge-index + 1) c.args.edges.now ≡ take c.loop-edge.edge-index c.args.edges.now ++ c.edge-item.result ∷ [] =
    take_more c.args.edges.now c.loop-edge.edge-index c.edge-item.result c.loop-edge-test.true ∙ ap (λ (r : EdgeRecord). take c.loop-edge.edge-index c.args.edges.now ++ r ∷ []) (sym c.edge-item.is) in
    record {
      went = went-then c.loop-edge.invariant.went (went_wider {Whole = λ _. IsOwnAmong c.args.edges.now} {Homes = Nowhere} (λ place is. (c.edge-item.result, there, is)) (λ rank never. never) c.in_ok-clear_own.ensures.works.went);
      clears = subst (λ (done : List EdgeRecord). ClearsOwns done (g.S.Store.state c.args.store.now) (g.S.Store.state c.clear_own.new.store)) (sym more)
          (clears_more c.loop-edge.invariant.clears c.edge-item.result c.in_ok-clear_own.ensures.cleared);
      may = λ edge is. may_still_cleared (g.S.Store.state c.loop-edge.store) (g.S.Store.state c.clear_own.new.store) c.edge-item.result.form edge.form c.in_ok-clear_own.ensures.cleared (c.loop-edge.invariant.may edge is);
    }
