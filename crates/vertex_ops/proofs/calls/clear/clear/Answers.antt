use Rattle.std.proofs.Common.{rules, ◌≡◌, ℕ, List, Ok, subst}
use Rattle.object_words.specs.Contents.{content_of}
use Rattle.held_objects.specs.Knows.{Knows}
use Rattle.object_store.proofs.Works.{access_fell, went-then, went-fell, write_works}
use Rattle.held_objects.proofs.Changes.{wrote_known}
use Rattle.vertex_ops.proofs.calls.clear.clear.Goals as goal

pub returns-in_err-write-clause-works : goal.returns-in_err-write-clause-works
returns-in_err-write-clause-works g c =
    let write = c.in_err-write.ensures in
    let did = access_fell {state = g.S.Store.state} {explains = g.S.Store.explains} {says = g.S.Store.says} {old = c.open.new.store} {new = c.write.new.self} write.keeps write.refused write.explained write.explained_still in
    let fell = went-fell c.in_ok-open.ensures.works.went did in
    search rules

pub returns-clause-works : goal.returns-clause-works
returns-clause-works g c =
    let write = c.in_ok-write.ensures in
    let did = write_works {says = g.S.Store.says} _ (Ok c.in_ok-write.field-0) c.in_ok-open.ensures.may write.keeps write.done tt tt write.explained_still in
    record { went = went-then c.in_ok-open.ensures.works.went did.went; fell = tt }

pub returns-clause-cleared : goal.returns-clause-cleared
returns-clause-cleared g c =
    subst (λ (words : List ℕ). Knows (λ _ contents. content_of contents c.args.at ≡ words) (g.S.Store.state c.write.new.self)) c.new.ensures
    (wrote_known c.in_ok-open.ensures.ordered c.in_ok-write.ensures.done)
