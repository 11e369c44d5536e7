-- What a plain store tells, and what a new one is.
use Rattle.std.proofs.Common.{◌≡◌, refl, sym, ap, subst, arith}
use Rattle.atomic_table.specs.Seated.{TableId}
use Rattle.rma_layout.specs.Shape.{Shape}
use Rattle.object_words.specs.Entries.{Entry}
use Rattle.object_store.specs.declared.transaction.Transaction.{Transaction}
use Rattle.object_store.specs.Ledger.{Account, opened}
use Rattle.object_store.specs.Sound.{IsSound}
use Rattle.object_store.specs.Plain.{plain_state, StandsAlone, IsNew}
use Rattle.object_store.proofs.Committing.{no_transaction}
use Rattle.object_store.proofs.Whole.{ranks_are_rights}

pub plain_is : {N : Type 0} (shape : Shape) (table : TableId) (txn : Transaction) (account : Account N) → StandsAlone (plain_state shape table txn account)
plain_is shape table txn account = record {
  every_right = ranks_are_rights shape.ranks;
  clean = refl;
  most = refl;
  strict = refl;
  counts_blocks = refl;
  allowance = refl;
  tries = refl;
  takes = refl;
  changes = refl;
}

new_sound : {N : Type 0} (fits : Shape → Entry N → Type 0) (shape : Shape) (table : TableId) → IsSound fits (plain_state shape table no_transaction (opened {N = N} shape))
new_sound fits shape table = record {
  legal = record { maps = λ k entry below. absurd (omega arith); reads = tt; blocks = λ never. absurd (cc never) };
  fit = λ k entry below. absurd (omega arith);
  agrees = λ object words never. absurd (cc never);
  reads_in_order = refl;
  writes_in_order = refl;
  idle_reads = λ _. refl;
  idle_writes = λ _. refl;
  own = λ _. refl;
}

pub new_is : {N : Type 0} (fits : Shape → Entry N → Type 0) (shape : Shape) (table : TableId) (txn : Transaction) (account : Account N)
    → txn ≡ no_transaction → account ≡ opened shape → IsNew fits shape (plain_state shape table txn account)
new_is {N} fits shape table txn account x is = record {
  shape_is = refl;
  phase = ap (λ t. t.phase) x;
  seen = ap (λ a. a.seen) is;
  sound = subst (λ (t : Transaction). IsSound fits (plain_state shape table t account)) (sym x)
      (subst (λ (a : Account N). IsSound fits (plain_state shape table no_transaction a)) (sym is) (new_sound fits shape table));
  plain = plain_is shape table txn account;
}
