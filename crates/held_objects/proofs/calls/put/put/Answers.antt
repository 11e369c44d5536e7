use Rattle.object_store.proofs.Works.{gave_up-fell, write_works}
use Rattle.held_objects.proofs.calls.put.put.Goals as goal

pub returns-in_default-clause-works : goal.returns-in_default-clause-works
returns-in_default-clause-works g c = record { went = tt; fell = gave_up-fell c.give_up.ensures }

pub returns-clause-works : goal.returns-clause-works
returns-clause-works g c = record { went = tt; fell = gave_up-fell c.give_up-in-Err.ensures }

pub returns-in-Ok-write_words-clause-works : goal.returns-in-Ok-write_words-clause-works
returns-in-Ok-write_words-clause-works g c =
    write_works _ c.write.result c.requires.may c.write.ensures.keeps c.write.ensures.done c.write.ensures.refused c.write.ensures.explained c.write.ensures.explained_still
