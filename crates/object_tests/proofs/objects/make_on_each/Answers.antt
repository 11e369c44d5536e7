use Rattle.std.proofs.Common.{ap, ◌∙◌, [], inl, inr}
use Rattle.std.specs.Prelude.{is_some}
use Rattle.object_words.specs.Contents.{words_at}
use Rattle.object_words.proofs.Places.{words_at_here}
use Rattle.object_tests.proofs.objects.make_on_each.Goals as goal

-- it was just made
pub write-requires-clause-may : goal.write-requires-clause-may
write-requires-clause-may g c =
    let made = c.in_ok-made.made in
    inr (inl (ap (λ writes. is_some (words_at writes made)) c.in_ok-made.ensures.done.writes
    ∙ ap is_some (words_at_here (g.S.Store.state c.loop-home.store).writes made [])))
