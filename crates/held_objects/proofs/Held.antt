-- What is read of an object that holds one spelling of something.
use Rattle.std.proofs.Common.{◌≡◌, ◌∙◌, ℕ, List, [], refl, sym, ap, subst, Option, Some, None, IsSome, ◌⊎◌, inl, inr}
use Rattle.std.specs.Option.{unwrap_or}
use Rattle.rma_layout.specs.Shape.{Shape}
use Rattle.rma_layout.specs.Ranges.{IsInRange}
use Rattle.rma_layout.specs.Placement.{Place}
use Rattle.object_words.specs.Contents.{Contents, IsByRisingObject, content_of, words_at, with_words}
use Rattle.object_words.specs.Entries.{Entry, store_after}
use Rattle.graph_model.specs.Graph.{Graph}
use Rattle.object_store.specs.State.{StoreState, committed}
use Rattle.object_store.specs.Sound.{Continues}
use Rattle.object_store.specs.Calls.{ReadsObject}
use Rattle.object_words.proofs.Places.{words_at_here}
use Rattle.object_store.proofs.Working.{found_words}
use Rattle.object_store.proofs.Works.{read_looks}
use Rattle.holder_codec.specs.Represents.{Represents}
use Rattle.holder_codec.specs.Knowing.{MayBeAt}
use Rattle.held_objects.specs.Knows.{Knows}
use Rattle.held_objects.specs.Held.{IsSpelled, FindsHolder}
use Rattle.held_objects.proofs.Knows.{before}

module _ {N : Type 0} {old new : StoreState N} {object : Place} {words : List ℕ} (fits : Shape → Entry N → Type 0) (ranges : IsInRange new.shape)
    (found : (g : Graph) × Represents new.shape (store_after new.seen) g) (keeps : Continues fits old new) (did : ReadsObject object old new words) where
  stands : MayBeAt new.shape new.reads (committed new)
  stands = record { graph = found.0; represents = found.1; agrees = keeps.sound.agrees }

  ordered : IsByRisingObject old.writes
  ordered = subst IsByRisingObject did.writes keeps.sound.writes_in_order

  pub finds_holder : {H : Type 0} {IsHolder : H → Type 0} {words_of : H → List ℕ} {held : H} → IsHolder held → words ≡ words_of held → FindsHolder IsHolder words_of object old new held
  finds_holder {H} {IsHolder} {words_of} {held} is spelled = record {
    looks = read_looks did;
    ranges = subst IsInRange keeps.shape ranges;
    in_order = ordered;
    stands = stands;
    is = is;
    words = λ contents agrees. found_words old new object words ordered did contents agrees ∙ spelled;
    there = own_or_read (words_at old.writes object) refl;
  }
    where
      own_or_read : (own : Option (List ℕ)) → words_at old.writes object ≡ own → IsSome (words_at new.writes object) ⊎ (content_of new.reads object ≡ words_of held)
      own_or_read (Some ws) e = inl (subst IsSome (sym (ap (λ (w : Contents). words_at w object) did.writes ∙ e)) refl)
      own_or_read None e =
          let reads : new.reads ≡ with_words old.reads object words = did.reads ∙ rw e refl in
          inr (ap (λ (c : Contents). content_of c object) reads ∙ (ap (λ o. unwrap_or o []) (words_at_here old.reads object words) ∙ spelled))

  pub is_held : {H : Type 0} {IsHolder : H → Type 0} {words_of : H → List ℕ} → Knows (IsSpelled IsHolder words_of object) old → ((held : H) → IsHolder held → words ≡ words_of held → ⊥) → ⊥
  is_held knows none =
      let there = knows.always (committed new) (before (read_looks did).stays (committed new) stands) in
      none there.held there.is (sym (found_words old new object words ordered did (committed new) keeps.sound.agrees) ∙ there.words)
