use Rattle.std.proofs.Common.{◌≡◌, true, length}
use Rattle.std.specs.Prelude.{is_some}
use Rattle.rma_layout.specs.Placement.{Place}
use Rattle.object_words.specs.Contents.{overlay, words_at}
use Rattle.object_store.proofs.objects.Objects.absorb.Given as goal

abbrev pub invariant-loop-at : goal.invariant-loop-at
invariant-loop-at l = record {
  whole : overlay l.self l.others ≡ overlay l.initial.self l.initial.others;
  held : (object : Place) → is_some (words_at l.others object) ≡ true → is_some (words_at l.self object) ≡ true;
}

abbrev pub decreases-loop-at : goal.decreases-loop-at
decreases-loop-at l = length l.others
