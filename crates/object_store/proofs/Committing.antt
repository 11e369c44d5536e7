-- What a commit of a plain store does.
use Rattle.std.proofs.Common.{◌≡◌, ℕ, ◌+◌, ◌^◌, ◌<◌, false, List, [], ◌∷◌, ◌++◌, length, refl, sym, ap, ◌∙◌, subst, arith, length-append, Some, slice_get}
use Rattle.std.specs.List.{All, range_with_len}
use mathlib.Core.List.{IsPrefix}
use Rattle.atomic_table.specs.Seated.{TableId}
use Rattle.rma_layout.specs.Shape.{Shape}
use Rattle.object_words.specs.Contents.{Contents, Agrees, IsByRisingObject, IsSameContents, overlay}
use Rattle.object_words.specs.Entries.{Entry, IsLegalHistory, store_after}
use Rattle.object_words.proofs.Histories.{contents_after-push}
use Rattle.object_words.proofs.Overlays.{same-overlay}
use Rattle.object_store.specs.declared.phase.Phase.TheVariants.{Idle}
use Rattle.object_store.specs.declared.transaction.Transaction.{Transaction}
use Rattle.object_store.specs.State.{next_entry}
use Rattle.object_store.specs.Sound.{Continues}
use Rattle.object_store.specs.Calls.{Commits}
use Rattle.object_store.specs.Ledger.{Account, IsHistory, account_with}
use Rattle.object_store.specs.Plain.{plain_state}

abbrev pub no_transaction : Transaction
no_transaction = record { phase = Idle; reads = []; writes = [] }

pub get_last : {X : Type 0} (xs : List X) (x : X) → slice_get (xs ++ x ∷ []) (length xs) ≡ Some x
get_last [] x = refl
get_last (y ∷ ys) x = get_last ys x

pub same-commit : {N : Type 0} (committed writes : Contents) (account new : Account N) (entry : Entry N)
    → new ≡ account_with account entry → entry.writes ≡ writes → IsByRisingObject writes
    → IsSameContents committed (store_after account.seen) → IsSameContents (overlay committed writes) (store_after new.seen)
same-commit committed writes account new entry is wrote h same =
    let after : store_after new.seen ≡ overlay (store_after account.seen) writes =
    ap (λ a. store_after a.seen) is ∙ (contents_after-push [] account.seen entry ∙ ap (overlay (store_after account.seen)) wrote) in
    subst (λ (contents : Contents). IsSameContents (overlay committed writes) contents) (sym after) (same-overlay committed (store_after account.seen) writes h same)

module _ {N : Type 0} (fits : Shape → Entry N → Type 0) (shape : Shape) (table now : TableId) (txn ended : Transaction) (account new : Account N) (entry : Entry N) where
  pub commit_keeps : now ≡ table → ended ≡ no_transaction → new ≡ account_with account entry → IsHistory fits new → account.shape ≡ shape
      → Continues fits (plain_state shape table txn account) (plain_state shape now ended new)
  commit_keeps t x is h s = record {
    shape = refl;
    base = ap (λ name. record { table = name; rights = range_with_len 0 shape.ranks }) t;
    counts_blocks = refl;
    seen = subst (λ (a : Account N). IsPrefix account.seen a.seen) (sym is) (entry ∷ [], refl);
    changes = ([], refl);
    clean = λ _ clean. clean;
    takes = omega arith;
    lock_free = λ _ _. refl;
    sound = record {
      legal = subst (λ (sh : Shape). IsLegalHistory false sh new.seen) (ap (λ a. a.shape) is ∙ s) h.legal;
      fit = subst (λ (sh : Shape). All (fits sh) new.seen) (ap (λ a. a.shape) is ∙ s) h.fit;
      agrees = subst (λ (t : Transaction). Agrees t.reads (store_after new.seen)) (sym x) (λ object words none. absurd (cc none));
      reads_in_order = subst (λ (t : Transaction). IsByRisingObject t.reads) (sym x) refl;
      writes_in_order = subst (λ (t : Transaction). IsByRisingObject t.writes) (sym x) refl;
      idle_reads = λ _. ap (λ t. t.reads) x;
      idle_writes = λ _. ap (λ t. t.writes) x;
      own = λ _. h.own;
    };
  }

  pub commit_done : (note : N) (number : ℕ) → number ≡ length account.seen → length account.seen < 2 ^ 62
      → entry ≡ next_entry (plain_state shape table txn account) note → ended ≡ no_transaction → new ≡ account_with account entry
      → Commits note (plain_state shape table txn account) (plain_state shape now ended new) number
  commit_done note number n room e x is =
      let len : length new.seen ≡ length account.seen + 1 = ap (λ a. length a.seen) is ∙ length-append account.seen (entry ∷ []) in
      record {
        entry = ap (slice_get new.seen) n ∙ (ap (λ a. slice_get a.seen (length account.seen)) is ∙ (get_last account.seen entry ∙ ap Some e));
        behind = omega (arith, n);
        last = omega (arith, n, len);
        own = ap (λ a. a.own) is ∙ ap (λ k. account.own ++ k ∷ []) (sym n);
        allowance = omega (arith, len, room);
        ended = record { phase = ap (λ t. t.phase) x; reads = ap (λ t. t.reads) x; writes = ap (λ t. t.writes) x };
        blocks = λ _ never. absurd (cc never);
      }
