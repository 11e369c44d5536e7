-- A store that stands for every rank has seen its own entries alone.
use Rattle.std.proofs.Common.{◌≡◌, ℕ, ◌+◌, ◌<◌, List, [], ◌∷◌, ◌++◌, length, sym, ap, ◌∙◌, subst, arith, length-append, Some, slice_get}
use Rattle.std.specs.List.{range_with_len, Contains}
use Rattle.std.proofs.lemmas.List.{append-nil}
use Rattle.std.proofs.lemmas.List.FromFn.{length-range_with_len, get_or-range_with_len}
use Rattle.rma_layout.specs.Shape.{Shape}
use Rattle.object_words.specs.Contents.{overlay}
use Rattle.object_words.specs.Entries.{Entry, store_after}
use Rattle.object_words.proofs.Histories.{contents_after-push}
use Rattle.object_store.specs.State.{StoreState, HasEveryRight, committed, next_entry}
use Rattle.object_store.specs.Sound.{Continues, IsSound, KeepsCommits}
use Rattle.object_store.specs.Calls.{Commits}
use Rattle.object_store.proofs.Committing.{get_last}

pub ranks_are_rights : (ranks rank : ℕ) → rank < ranks → Contains (range_with_len 0 ranks) rank
ranks_are_rights ranks rank below = (rank, omega (arith, length-range_with_len 0 ranks), get_or-range_with_len 0 ranks rank rank below ∙ omega arith)

no_more : {X : Type 0} (xs ys : List X) → length (xs ++ ys) ≡ length xs → xs ++ ys ≡ xs
no_more xs [] e = append-nil xs
no_more xs (y ∷ ys) e = absurd (omega (arith, length-append xs (y ∷ ys)))

one_more : {X : Type 0} (xs ys : List X) (x : X) → length (xs ++ ys) ≡ length xs + 1 → slice_get (xs ++ ys) (length xs) ≡ Some x → xs ++ ys ≡ xs ++ x ∷ []
one_more xs [] x e h = absurd (omega (arith, length-append xs []))
one_more xs (y ∷ z ∷ zs) x e h = absurd (omega (arith, length-append xs (y ∷ z ∷ zs)))
one_more xs (y ∷ []) x e h = let same : Some y ≡ Some x = sym (get_last xs y) ∙ h in let it : y ≡ x = cc same in ap (λ last. xs ++ last ∷ []) it

module _ {N : Type 0} (fits : Shape → Entry N → Type 0) (old new : StoreState N) (sound : IsSound fits old) (continues : Continues fits old new) (every : HasEveryRight old) where
  still_every : HasEveryRight new
  still_every rank below =
      subst (λ (rights : List ℕ). Contains rights rank) (sym (ap (λ b. b.rights) continues.base))
      (every rank (subst (λ (shape : Shape). rank < shape.ranks) continues.shape below))

  owned : new.own ≡ range_with_len 0 (length new.seen)
  owned = continues.sound.own still_every

  pub others_keep : KeepsCommits old new → new.seen ≡ old.seen
  others_keep keeps =
      let own : range_with_len 0 (length new.seen) ≡ range_with_len 0 (length old.seen) = sym owned ∙ (keeps.own ∙ sound.own every) in
      let len : length new.seen ≡ length old.seen = sym (length-range_with_len 0 (length new.seen)) ∙ (ap length own ∙ length-range_with_len 0 (length old.seen)) in
      sym continues.seen.1 ∙ no_more old.seen continues.seen.0 (ap length continues.seen.1 ∙ len)

  pub commit_number : (note : N) (number : ℕ) → Commits note old new number → number ≡ length old.seen
  commit_number note number commits =
      let own : range_with_len 0 (length new.seen) ≡ range_with_len 0 (length old.seen) ++ number ∷ [] = sym owned ∙ (commits.own ∙ ap (λ own. own ++ number ∷ []) (sound.own every)) in
      omega (arith, commits.last, length-range_with_len 0 (length new.seen), ap length own, length-append (range_with_len 0 (length old.seen)) (number ∷ []), length-range_with_len 0 (length old.seen))

  pub commit_adds : (note : N) (number : ℕ) → Commits note old new number → new.seen ≡ old.seen ++ next_entry old note ∷ []
  commit_adds note number commits =
      let n = commit_number note number commits in
      let len : length (old.seen ++ continues.seen.0) ≡ length old.seen + 1 = ap length continues.seen.1 ∙ (commits.last ∙ ap (λ k. k + 1) n) in
      let last : slice_get (old.seen ++ continues.seen.0) (length old.seen) ≡ Some (next_entry old note) =
      ap (λ xs. slice_get xs (length old.seen)) continues.seen.1 ∙ (ap (slice_get new.seen) (sym n) ∙ commits.entry) in
      sym continues.seen.1 ∙ one_more old.seen continues.seen.0 (next_entry old note) len last

  pub commit_writes : (note : N) (number : ℕ) → Commits note old new number → committed new ≡ overlay (committed old) old.writes
  commit_writes note number commits =
      ap store_after (commit_adds note number commits) ∙ contents_after-push [] old.seen (next_entry old note)
