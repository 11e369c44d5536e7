-- The chains of a transaction's objects stay known.
use Rattle.std.proofs.Common.{◌≡◌, ◌≢◌, ℕ, ◌-◌, not, ◌&&◌, false, true, cond, List, [], ◌∷◌, length, inl, inr, refl, sym, ap, ◌∙◌, subst, arith, Option, Some, None}
use Rattle.std.specs.Prelude.{is_some}
use Rattle.std.proofs.lemmas.Bool.Decides.{nat_tests}
use Rattle.rma_layout.specs.Shape.{Shape}
use Rattle.rma_layout.specs.Placement.{Place, IsReserved, same_place}
use Rattle.object_words.specs.Blocks.{blocks_for, is_reserved}
use Rattle.object_words.specs.Contents.{Contents, with_words, words_at}
use Rattle.object_words.specs.Entries.{Entry}
use Rattle.window_rule.specs.View.{View, Known, Locks}
use Rattle.window_rule.specs.Known.{known_of, without_known}
use Rattle.window_rule.specs.Lengths.{measured}
use Rattle.window_rule.specs.Locks.{hold_of}
use Rattle.window_rule.specs.Objects.{chain_length}
use Rattle.window_rule.specs.Truths.{IsTrueView}
use Rattle.window_rule.proofs.LockLemmas.{place_cases, same_place-false, same_place-refl}
use Rattle.window_rule.proofs.Readings.{reading-stays}
use Rattle.object_moves.specs.Noted.{Chains, blocks_of}
use Rattle.object_txn.specs.declared.txn.Txn.{Txn}
use Rattle.object_txn.specs.Moves.{Locked}
use Rattle.object_txn.specs.Tied.{IsNone, KnowsChains, chain_known, words_in}
use Rattle.object_txn.proofs.Maps.{words_at_other}

-- what is known of the other objects stays where one is measured
pub known_elsewhere : {N : Type 0} (object : Place) (known : Known) (history : List (Entry N)) (before after : View N) → after ≡ measured object known history before
    → (other : Place) → other ≢ object → known_of after.known other ≡ known_of before.known other
known_elsewhere {N} object known history before after is other ne =
    ap (λ (v : View N). known_of v.known other) is
    ∙ (ap (λ b. cond b (Some known) (known_of (without_known before.known object) other)) (same_place-false object other (λ e. ne (sym e)))
    ∙ reading-stays before.known object other ne)

-- an object that isn't reserved has no block while it is empty
pub empty_chain : {N : Type 0} (fits : Shape → Entry N → Type 0) (shape : Shape) (view : View N) → IsTrueView fits shape view → (object : Place)
    → (IsReserved shape object.block → ⊥) → words_in (known_of view.known object) ≡ Some [] → chain_known (known_of view.known object) ≡ Some []
empty_chain {N} fits shape view is object unreserved empty = by_cases (known_of view.known object) refl empty
  where
    no_block : (chain : List Place) → length chain ≡ 0 → chain ≡ []
    no_block [] e = refl
    no_block (block ∷ more) e = absurd (omega (arith, e))

    is_empty_list : (words : List ℕ) → Some words ≡ Some [] → words ≡ []
    is_empty_list words e = cc e

    asks_none : chain_length shape object [] ≡ 0
    asks_none =
        let free : is_reserved shape object.block ≡ false = grind (arith, nat_tests) in
        ap (λ b. cond (not b && true) 0 (blocks_for 0 (shape.words - 1))) free

    by_cases : (found : Option Known) → known_of view.known object ≡ found → words_in found ≡ Some [] → chain_known found ≡ Some []
    by_cases None e h = absurd (cc h)
    by_cases (Some known) e h = ap Some (no_block known.chain (is.full object known e
        ∙ (ap (chain_length shape object) (is_empty_list known.content h) ∙ asks_none)))

-- the chain of an object is noted
module _ (object : Place) (blocks : List Place) (old new : Chains)
    (put : (other : Place) → blocks_of new other ≡ cond (same_place object other) (Some blocks) (blocks_of old other)) where
  noted_is : blocks_of new object ≡ Some blocks
  noted_is = put object ∙ ap (λ b. cond b (Some blocks) (blocks_of old object)) (same_place-refl object)

  others_are : (other : Place) → other ≢ object → blocks_of new other ≡ blocks_of old other
  others_are other ne = put other ∙ ap (λ b. cond b (Some blocks) (blocks_of old other)) (same_place-false object other (λ e. ne (sym e)))

  pub noted_here : blocks_of new object ≢ None
  noted_here none = cc (sym noted_is ∙ none)

  pub chains_noted : {N : Type 0} (before after : View N) (txn : Txn) → txn.chains ≡ old
      → ((other : Place) → other ≢ object → known_of after.known other ≡ known_of before.known other)
      → chain_known (known_of after.known object) ≡ Some blocks → hold_of txn.held object ≢ None
      → KnowsChains before txn → KnowsChains after (record txn { chains = new })
  chains_noted before after txn is others here held h = record {
    known_is = λ other was e. elim (place_cases other object) [
      | inl same ↦ ap (λ (p : Place). chain_known (known_of after.known p)) same ∙ (here ∙ (sym noted_is ∙ (ap (blocks_of new) (sym same) ∙ e)))
      | inr differ ↦ ap chain_known (others other differ) ∙ h.known_is other was (was_noted other differ ∙ e)
    ];
    locked = λ other none. elim (place_cases other object) [
      | inl same ↦ absurd (held (ap (hold_of txn.held) (sym same) ∙ none))
      | inr differ ↦ sym (was_noted other differ) ∙ h.locked other none
    ];
    of_reads = λ other words e none. elim (place_cases other object) [
      | inl same ↦ noted_here (ap (blocks_of new) (sym same) ∙ none)
      | inr differ ↦ h.of_reads other words e (was_noted other differ ∙ none)
    ];
    of_writes = λ other words e none. elim (place_cases other object) [
      | inl same ↦ noted_here (ap (blocks_of new) (sym same) ∙ none)
      | inr differ ↦ h.of_writes other words e (was_noted other differ ∙ none)
    ];
  }
    where
      was_noted : (other : Place) → other ≢ object → blocks_of txn.chains other ≡ blocks_of new other
      was_noted other ne = ap (λ (c : Chains). blocks_of c other) is ∙ sym (others_are other ne)

module _ {N : Type 0} where
  -- an object was locked, or was tried to
  pub chains_locked : (before after : View N) (object : Place) (txn : Txn) (held : Locks) → Locked object before after txn.held held
      → KnowsChains before txn → KnowsChains after (record txn { held = held })
  chains_locked before after object txn held locked h = record {
    known_is = λ other blocks e. ap chain_known (locked.known other (elim (place_cases other object) [
      | inl here ↦ inr (λ none. cc (sym (h.locked other (ap (hold_of txn.held) here ∙ none)) ∙ e))
      | inr differ ↦ inl differ
    ])) ∙ h.known_is other blocks e;
    locked = λ other none. h.locked other (elim (place_cases other object) [
      | inr differ ↦ sym (locked.others other differ) ∙ none
      | inl here ↦ elim locked.here [
        | inl as_before ↦ ap (hold_of txn.held) here ∙ (sym as_before ∙ (ap (hold_of held) (sym here) ∙ none))
        | inr (inl was_none) ↦ ap (hold_of txn.held) here ∙ was_none
        | inr (inr marked) ↦ absurd (cc (sym marked ∙ (ap (hold_of held) (sym here) ∙ none)))
      ]
    ]);
    of_reads = h.of_reads;
    of_writes = h.of_writes;
  }

  -- what was read of an object whose chain is noted is noted
  pub chains_read : (view : View N) (txn : Txn) (reads : Contents) (object : Place) (words : List ℕ) → reads ≡ with_words txn.reads object words
      → blocks_of txn.chains object ≢ None → KnowsChains view txn → KnowsChains view (record txn { reads = reads })
  chains_read view txn reads object words is noted h = record {
    known_is = h.known_is;
    locked = h.locked;
    of_reads = λ other was e. elim (place_cases other object) [
      | inl same ↦ subst (λ (p : Place). blocks_of txn.chains p ≢ None) (sym same) noted
      | inr differ ↦ h.of_reads other was (sym (words_at_other txn.reads object words other differ) ∙ (ap (λ (r : Contents). words_at r other) (sym is) ∙ e))
    ];
    of_writes = h.of_writes;
  }

  -- and what is written to it
  pub chains_written : (view : View N) (txn : Txn) (writes : Contents) (object : Place) (words : List ℕ) → writes ≡ with_words txn.writes object words
      → blocks_of txn.chains object ≢ None → KnowsChains view txn → KnowsChains view (record txn { writes = writes })
  chains_written view txn writes object words is noted h = record {
    known_is = h.known_is;
    locked = h.locked;
    of_reads = h.of_reads;
    of_writes = λ other was e. elim (place_cases other object) [
      | inl same ↦ subst (λ (p : Place). blocks_of txn.chains p ≢ None) (sym same) noted
      | inr differ ↦ h.of_writes other was (sym (words_at_other txn.writes object words other differ) ∙ (ap (λ (r : Contents). words_at r other) (sym is) ∙ e))
    ];
  }

  -- without a transaction there is none
  pub chains_none : (view : View N) (txn : Txn) → IsNone txn → KnowsChains view txn
  chains_none view txn none = record {
    known_is = λ object blocks e. absurd (cc (sym (unnoted object) ∙ e));
    locked = λ object _. unnoted object;
    of_reads = λ object words e. absurd (cc (sym (ap (λ (c : Contents). words_at c object) none.reads) ∙ e));
    of_writes = λ object words e. absurd (cc (sym (ap (λ (c : Contents). words_at c object) none.writes) ∙ e));
  }
    where
      unnoted : (object : Place) → blocks_of txn.chains object ≡ None
      unnoted object = ap (λ (c : Chains). blocks_of c object) none.chains

  -- an object whose chain isn't noted wasn't read
  pub unread_while_unnoted : (view : View N) (txn : Txn) (object : Place) → KnowsChains view txn → blocks_of txn.chains object ≡ None → words_at txn.reads object ≡ None
  unread_while_unnoted view txn object h none = by_cases (words_at txn.reads object) refl
    where
      by_cases : (found : Option (List ℕ)) → words_at txn.reads object ≡ found → found ≡ None
      by_cases None e = refl
      by_cases (Some words) e = absurd (h.of_reads object words e none)

pub unnoted_by : (chains : Chains) (object : Place) → is_some (blocks_of chains object) ≡ false → blocks_of chains object ≡ None
unnoted_by chains object h = by_cases (blocks_of chains object) h
  where
    by_cases : (found : Option (List Place)) → is_some found ≡ false → found ≡ None
    by_cases None e = refl
    by_cases (Some blocks) e = absurd (cc e)
