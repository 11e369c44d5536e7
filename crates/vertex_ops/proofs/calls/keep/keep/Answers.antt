use Rattle.std.proofs.Common.{rules, ◌≡◌, ◌≤◌, ℕ, List, length, Ok, ap, subst, arith}
use Rattle.object_words.specs.Contents.{content_of}
use Rattle.graph_model.specs.Sizes.{most_words}
use Rattle.holder_codec.specs.Vertex.{vertex_words}
use Rattle.held_objects.specs.Knows.{Knows}
use Rattle.held_objects.proofs.Changes.{wrote_known}
use Rattle.vertex_ops.proofs.LabelSets.{takes}
use Rattle.object_store.proofs.Works.{access_fell, went-then, went-fell, went-gave_up, write_works}
use Rattle.vertex_ops.proofs.calls.keep.keep.Goals as goal

pub returns-in_default-clause-works : goal.returns-in_default-clause-works
returns-in_default-clause-works g c = record { went = tt; fell = went-gave_up c.in_ok-open.ensures.works.went c.give_up.ensures }

pub returns-in_err-write-clause-works : goal.returns-in_err-write-clause-works
returns-in_err-write-clause-works g c =
    let write = c.in_err-write.ensures in
    let did = access_fell {state = g.S.Store.state} {explains = g.S.Store.explains} {says = g.S.Store.says} {old = c.open.new.store} {new = c.write-2.new.self} write.keeps write.refused write.explained write.explained_still in
    let fell = went-fell c.in_ok-open.ensures.works.went did in
    search rules

pub returns-clause-works : goal.returns-clause-works
returns-clause-works g c =
    let write = c.in_ok-write.ensures in
    let did = write_works {says = g.S.Store.says} _ (Ok c.in_ok-write.field-0) c.in_ok-open.ensures.may write.keeps write.done tt tt write.explained_still in
    record { went = went-then c.in_ok-open.ensures.works.went did.went; fell = tt }

pub returns-clause-kept : goal.returns-clause-kept
returns-clause-kept g c =
    let write = c.in_ok-write.ensures in
    let few : length (vertex_words c.args.holder) ≤ most_words = omega (arith, c.if-as_slice-gt-MOST_WORDS.false, ap length c.as_slice.ensures, ap length c.in-Ok.ensures) in
    record {
      answer = takes (length (vertex_words c.args.holder)) few;
      held = λ _. subst (λ (words : List ℕ). Knows (λ _ contents. content_of contents c.args.at ≡ words) (g.S.Store.state c.write-2.new.self)) c.in-Ok.ensures
          (wrote_known c.in_ok-open.ensures.ordered write.done);
      unchanged = λ same. absurd cc;
    }
