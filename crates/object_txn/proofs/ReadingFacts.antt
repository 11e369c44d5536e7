-- What reading an object makes of a transaction.
use Rattle.std.proofs.Common.{◌≡◌, ℕ, cond, List, inl, inr, sym, ap, ◌∙◌, Some, None}
use Rattle.std.specs.Prelude.{is_some}
use Rattle.rma_layout.specs.Placement.{Place}
use Rattle.object_words.specs.Contents.{Contents, IsByRisingObject, with_words, words_at}
use Rattle.window_rule.specs.View.{View}
use Rattle.window_rule.specs.Known.{known_of}
use Rattle.window_rule.proofs.LockLemmas.{place_cases}
use Rattle.object_txn.specs.declared.txn.Txn.{Txn}
use Rattle.object_txn.specs.Moves.{Reads}
use Rattle.object_txn.specs.Tied.{words_in}
use Rattle.object_txn.proofs.Maps.{with_words_again, words_at_other}

module _ {N : Type 0} (object : Place) (after : View N) (old new : Txn) (words : List ℕ) where
  -- it wasn't read before
  pub reads_committed : words_at old.writes object ≡ None → words_at old.reads object ≡ None → words_in (known_of after.known object) ≡ Some words
      → new.reads ≡ with_words old.reads object words → Reads object after old new words
  reads_committed unwritten unread known is = record {
    found = sym known ∙ sym (ap (λ own. cond (is_some own) own (words_in (known_of after.known object))) unwritten);
    reads = is ∙ sym (ap (λ own. cond (is_some own) old.reads (with_words old.reads object words)) unwritten);
    stay = λ other was e. ap (λ (r : Contents). words_at r other) is ∙ elim (place_cases other object) [
      | inl here ↦ absurd (cc (sym unread ∙ (ap (words_at old.reads) (sym here) ∙ e)))
      | inr differ ↦ words_at_other old.reads object words other differ ∙ e
    ];
  }

  -- it was
  pub reads_again : words_at old.writes object ≡ None → words_at old.reads object ≡ Some words → IsByRisingObject old.reads
      → words_in (known_of after.known object) ≡ Some words → new.reads ≡ old.reads → Reads object after old new words
  reads_again unwritten read rising known is = record {
    found = sym known ∙ sym (ap (λ own. cond (is_some own) own (words_in (known_of after.known object))) unwritten);
    reads = is ∙ (sym (with_words_again old.reads object words rising read)
        ∙ sym (ap (λ own. cond (is_some own) old.reads (with_words old.reads object words)) unwritten));
    stay = λ other was e. ap (λ (r : Contents). words_at r other) is ∙ e;
  }
