-- What a plain store does where it makes an object, or has none left.
use Rattle.std.proofs.Common.{◌≡◌, ℕ, ◌-◌, ◌^◌, ◌<◌, true, not, ◌&&◌, List, [], ◌∷◌, length, refl, sym, ap, ◌∙◌, arith, Option, Some, None, inl, inr}
use Rattle.std.specs.Prelude.{is_some}
use Rattle.atomic_table.specs.Seated.{TableId}
use Rattle.rma_layout.specs.Shape.{Shape}
use Rattle.rma_layout.specs.Placement.{Place}
use Rattle.object_words.specs.Contents.{Contents, content_of, words_at, with_words, is_empty, Agrees, IsSameContents}
use Rattle.object_words.specs.Blocks.{empty_objects}
use Rattle.object_words.specs.Entries.{store_after}
use Rattle.object_store.specs.declared.phase.Phase.TheVariants.{Writing}
use Rattle.object_store.specs.declared.plain_refused.PlainRefused.TheVariants.{Empty}
use Rattle.object_store.specs.declared.transaction.Transaction.{Transaction}
use Rattle.object_store.specs.Sound.{KeepsCommits}
use Rattle.object_store.specs.Calls.{MakesObject}
use Rattle.object_store.specs.Refusals.{RefusesFresh}
use Rattle.object_store.specs.Ledger.{Account}
use Rattle.object_store.specs.Plain.{plain_state, said_by, IsFirstVacant, IsNoneVacant}
use Rattle.object_store.proofs.Committing.{no_transaction}
use Rattle.object_store.proofs.Staying.{stays_read}
use Rattle.object_store.proofs.Counting.{all_made, not_all_made}

vacant_parts : (words : List ℕ) (found : Option (List ℕ)) → (is_empty words && not (is_some found)) ≡ true → (words ≡ []) × (found ≡ None)
vacant_parts [] None h = (refl, refl)
vacant_parts [] (Some w) h = absurd (cc h)
vacant_parts (w ∷ ws) found h = absurd (cc h)

same_told : (f g : ℕ → ℕ) (n : ℕ) → Some f ≡ Some g → f n ≡ g n
same_told f g n e = let same : f ≡ g = cc e in ap (λ h. h n) same

module _ {N : Type 0} (shape new_shape : Shape) (table now : TableId) (txn new_txn : Transaction) (account new : Account N) (committed : Contents) (home : ℕ) where
  keeps : new ≡ account → KeepsCommits (plain_state shape table txn account) (plain_state new_shape now new_txn new)
  keeps is = record { own = ap (λ a. a.own) is; allowance = ap (λ a. 2 ^ 62 - length a.seen) is; seen = λ _. ap (λ a. a.seen) is }

  pub fresh_done : (object : Place) → new_shape ≡ shape → new ≡ account → txn.phase ≡ Writing
      → new_txn ≡ record { phase = Writing; reads = with_words txn.reads object []; writes = with_words txn.writes object [] }
      → IsSameContents committed (store_after account.seen) → Agrees txn.reads (store_after account.seen) → IsFirstVacant shape committed txn.writes home object → home < shape.ranks
      → MakesObject home (plain_state shape table txn account) (plain_state new_shape now new_txn new) object
  fresh_done object s is phase made same agrees first below =
      let parts = vacant_parts (content_of committed object) (words_at txn.writes object) first.vacant in
      record {
        rank = first.on;
        block = (omega (arith, first.on), first.within);
        unreserved = λ reserved. omega (arith, first.unreserved);
        empty = ap (λ a. content_of (store_after a.seen) object) is ∙ (sym (same object) ∙ parts.0);
        unwritten = parts.1;
        reads = ap (λ t. t.reads) made;
        writes = ap (λ t. t.writes) made;
        stays = record {
          shape = s;
          phase = ap (λ t. t.phase) made ∙ sym phase;
          commits = keeps is;
          most = ap (λ sh. Some (λ rank. empty_objects sh (store_after new.seen) rank)) s ∙ ap (λ a. Some (λ rank. empty_objects shape (store_after a.seen) rank)) is;
          strict = refl;
          tries = refl;
          changes = refl;
          reads = λ other words h. ap (λ t. words_at t.reads other) made
              ∙ stays_read txn.reads (store_after account.seen) object [] agrees (sym (same object) ∙ parts.0) other words h;
        };
        most = λ most told.
            let less = not_all_made shape committed (store_after account.seen) txn.writes home object same first in
            omega (arith, less, same_told (λ rank. empty_objects shape (store_after account.seen) rank) most home told);
      }

  pub fresh_refused : new ≡ account → new_txn ≡ no_transaction → IsSameContents committed (store_after account.seen) → IsNoneVacant shape committed txn.writes home
      → RefusesFresh home (plain_state shape table txn account) (plain_state new_shape now new_txn new) (said_by (Empty home))
  fresh_refused is ended same none = record {
    aborted = record { commits = keeps is; ended = record { phase = ap (λ t. t.phase) ended; reads = ap (λ t. t.reads) ended; writes = ap (λ t. t.writes) ended } };
    names = inr (inl refl);
    told = λ _. inr refl;
    passing = refl;
    full = λ most told _. all_made shape committed (store_after account.seen) txn.writes home same none ∙ same_told (λ rank. empty_objects shape (store_after account.seen) rank) most home told;
  }
