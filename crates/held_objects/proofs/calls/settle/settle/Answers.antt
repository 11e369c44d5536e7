use Rattle.std.proofs.Common.{rules, Ok}
use Rattle.object_store.proofs.Works.{access_fell, same_went, write_works}
use Rattle.held_objects.proofs.calls.settle.settle.Goals as goal

pub returns-in-Ok-Refused-clause-works : goal.returns-in-Ok-Refused-clause-works
returns-in-Ok-Refused-clause-works g c = record { went = same_went c.stays_sound.ensures.same c.stays_sound.ensures.sound c.stays_sound.ensures.explained_still; fell = tt }

pub returns-then-as_slice-gt-MOST_WORDS-clause-works :
    goal.returns-then-as_slice-gt-MOST_WORDS-clause-works
returns-then-as_slice-gt-MOST_WORDS-clause-works g c =
    record { went = same_went c.stays_sound-then-as_slice-gt-MOST_WORDS.ensures.same c.stays_sound-then-as_slice-gt-MOST_WORDS.ensures.sound c.stays_sound-then-as_slice-gt-MOST_WORDS.ensures.explained_still; fell = tt }

pub returns-in_err-write-clause-works : goal.returns-in_err-write-clause-works
returns-in_err-write-clause-works g c =
    let write = c.in_err-write.ensures in
    let did = access_fell {state = g.S.Store.state} {explains = g.S.Store.explains} {says = g.S.Store.says} {old = c.args.store.now} {new = c.write.new.self} write.keeps write.refused write.explained write.explained_still in
    search rules

pub returns-clause-works : goal.returns-clause-works
returns-clause-works g c =
    let write = c.in_ok-write.ensures in
    let did = write_works {says = g.S.Store.says} _ (Ok c.in_ok-write.field-0) c.requires.may write.keeps write.done tt tt write.explained_still in
    record { went = did.went; fell = tt }
