-- Each step on a lock word keeps the invariant, and answers as it says.
use Rattle.std.proofs.Common.{◌≡◌, ◌≢◌, ◌↔◌, ℕ, List, set, ◌+◌, ◌-◌, ◌/◌, ◌%◌, ◌^◌, ◌≤◌, map, refl, sym, ap, ◌∙◌, subst, inl, inr, arith, Bool, ◌==◌, Some, None, ne_eqb, eq-eqb}
use Rattle.std.proofs.lemmas.Bool.{cases_eq}
use prog.Atomic.{either}
use Rattle.object_words.specs.Entries.{Entry}
use Rattle.rma_layout.specs.declared.word.Word.TheVariants.{Lock}
use Rattle.rma_layout.specs.Shape.{Shape}
use Rattle.rma_layout.specs.Placement.{Place, IsBlock}
use Rattle.window_rule.specs.Words.{Words, with_word}
use Rattle.window_rule.specs.Permits.{Moment, Permits, Goes}
use Rattle.lock_words.specs.Conflicts.{Conflicts}
use Rattle.lock_words.specs.declared.want.Want.{Want}
use Rattle.lock_words.specs.declared.want.Want.TheVariants.{Share, Mark, Rise}
use Rattle.window_rule.specs.View.{View, Known, OfObject, Hold, Shared, Marked, Returning}
use Rattle.window_rule.specs.Dirty.{dirt_of}
use Rattle.window_rule.specs.Known.{known_of, without_known}
use Rattle.window_rule.specs.ContentsHold.{Lasts}
use Rattle.window_rule.specs.StampsHold.{opened_of}
use Rattle.window_rule.proofs.Readings.{reading-gone, reading-stays}
use Rattle.window_rule.specs.Locks.{hold_of, with_lock, without_lock, in_all, shares_of, lasting_of, marks_of}
use Rattle.window_rule.specs.RightsHold.{IsAlone}
use Rattle.window_rule.specs.LocksHold.{IsCounted}
use Rattle.window_rule.specs.Lawful.{IsLawful, locks_of}
use Rattle.window_rule.specs.Steps.{Tries, Shares, Marks, Rises, Leaves, Returns, tried, locked, unlocked, returned, refused}
use Rattle.window_rule.proofs.LockLemmas.{place_cases, no_mark_beside, hold_of-with_same, hold_of-with_other, hold_of-without_same, hold_of-without_other}
use Rattle.window_rule.proofs.LocksKept.{Recounts}
use Rattle.window_rule.proofs.LawfulKept.{beside_locks, lock_step_keeps, shares-le-ranks, alone_counts, lasting-le}

module _ {N : Type 0} (fits : Shape → Entry N → Type 0) (shape : Shape) (object : Place)
    (block : IsBlock shape object) (before : View N) where
  module _ (words : Words) (views : List (View N)) (id : ℕ)
      (now : Moment fits shape words views id before) where
    -- the counts of the object, and the view's part in them
    record Found : Type 0 where
      counted : IsCounted (words (Lock object)) (in_all shares_of object (map locks_of views))
          (in_all lasting_of object (map locks_of views))
          (in_all marks_of object (map locks_of views))
      few_shares : in_all shares_of object (map locks_of views) ≤ 64
      lasting : in_all lasting_of object (map locks_of views) ≤ in_all shares_of object
          (map locks_of views)
      alone_shares : IsAlone shape before
          → in_all shares_of object (map locks_of views) ≡ shares_of (hold_of before.locks object)
      alone_marks : IsAlone shape before
          → in_all marks_of object (map locks_of views) ≡ marks_of (hold_of before.locks object)

    found_now : Found
    found_now = record {
      counted = now.lawful.holds.locks.counted object block;
      few_shares = omega
          (arith, shares-le-ranks fits shape words views id object now.lawful, now.in_range.ranks);
      lasting = lasting-le fits shape words views id object;
      alone_shares = λ alone.
          alone_counts fits shape words views id before object shares_of now.lawful now.there
          alone refl;
      alone_marks = λ alone.
          alone_counts fits shape words views id before object marks_of now.lawful now.there
          alone refl;
    }

    -- a step after which the object is locked so keeps the invariant if the counts are right
    holds_with : (word : ℕ) (after : View N) (hold : Hold)
        → beside_locks after ≡ beside_locks before → after.known ≡ before.known
        → after.locks ≡ with_lock before.locks object hold
        → hold_of before.locks object ≢ Some Marked
        → (Lasts (hold_of before.locks object) → Lasts (Some hold))
        → Recounts object (map locks_of views) word (hold_of before.locks object) (Some hold)
        → IsLawful fits shape (with_word words (Lock object) word) (set views id after)
    holds_with word after hold beside known locks unmarked lasts recount =
        lock_step_keeps fits shape words views id before after object word block now (record {
          beside = beside;
          known = λ other reading is. sym (ap (λ k. known_of k other) known) ∙ is;
          lasts = λ reading is was. subst Lasts
              (sym (ap (λ all. hold_of all object) locks ∙ hold_of-with_same before.locks object hold))
              (lasts was);
          marked = λ mark why. absurd (unmarked mark);
          others = λ other ne. ap (λ all. hold_of all other) locks
              ∙ hold_of-with_other before.locks object other hold ne;
          counts = subst (Recounts object (map locks_of views) word (hold_of before.locks object))
              (sym (ap (λ all. hold_of all object) locks ∙ hold_of-with_same before.locks object hold))
              recount;
        })

    -- the same where the object is not locked afterwards, and what is left of what was read is not
    -- of it
    holds_without : (word : ℕ) (after : View N) → beside_locks after ≡ beside_locks before
        → after.locks ≡ without_lock before.locks object
        → ((other : Place) (reading : Known) → known_of after.known other ≡ Some reading
        → known_of before.known other ≡ Some reading)
        → ((reading : Known) → known_of after.known object ≡ Some reading
        → ¬ Lasts (hold_of before.locks object))
        → (hold_of before.locks object ≡ Some Marked
        → (dirt_of before.dirty object ≡ None) × (opened_of before.stamps.opened object ≡ None))
        → Recounts object (map locks_of views) word (hold_of before.locks object) None
        → IsLawful fits shape (with_word words (Lock object) word) (set views id after)
    holds_without word after beside locks known forgot clean recount =
        lock_step_keeps fits shape words views id before after object word block now (record {
          beside = beside;
          known = known;
          lasts = λ reading is was. absurd (forgot reading is was);
          marked = λ mark why. elim why [
            | inl dirty ↦ absurd (dirty (clean mark).0)
            | inr opened ↦ absurd (opened (clean mark).1)
          ];
          others = λ other ne. ap (λ all. hold_of all other) locks
              ∙ hold_of-without_other before.locks object other ne;
          counts = subst (Recounts object (map locks_of views) word (hold_of before.locks object))
              (sym (ap (λ all. hold_of all object) locks ∙ hold_of-without_same before.locks object))
              recount;
        })

    -- the mark is set where the word is what it has to be
    mark_set : words (Lock object) ≡ shares_of (hold_of before.locks object)
        → marks_of (hold_of before.locks object) ≡ 0
        → shares_of (hold_of before.locks object) ≡ lasting_of (hold_of before.locks object)
        → shares_of (hold_of before.locks object) ≤ 1
        → IsLawful fits shape (with_word words (Lock object) (2 ^ 32))
        (set views id (tried (locked object Marked before)))
    mark_set word no_mark all_last one_share =
        let facts = found_now in
        let counted = facts.counted in
        holds_with (2 ^ 32) (tried (locked object Marked before)) Marked refl refl refl
        (λ mark. let one : marks_of (hold_of before.locks object) ≡ 1 = ap marks_of mark in
        omega arith) (λ lasts. tt) (λ s l m es el em. record {
          word_is = omega (arith, counted.word_is, counted.one_mark, facts.few_shares);
          one_mark = omega (arith, counted.word_is, counted.one_mark);
          apart = λ one. omega (arith, counted.word_is, facts.lasting);
        })

    -- a step that was refused leaves the word and the locks
    refusal_keeps : (want : Want)
        → IsLawful fits shape (with_word words (Lock object) (words (Lock object)))
        (set views id (refused (OfObject object) want (words (Lock object)) (tried before)))
    refusal_keeps want =
        let counted = found_now.counted in
        lock_step_keeps fits shape words views id before
        (refused (OfObject object) want (words (Lock object)) (tried before)) object
        (words (Lock object)) block now (record {
          beside = refl;
          known = λ other reading is. is;
          lasts = λ reading is was. was;
          marked = λ mark why. mark;
          others = λ other ne. refl;
          counts = λ s l m es el em. record {
            word_is = omega (arith, counted.word_is);
            one_mark = omega (arith, counted.one_mark);
            apart = λ one. omega (arith, counted.apart);
          };
        })

    -- the mark is set where the word is the view's own share or 0, and else the word conflicts
    mark_goes : (want : Want) (own : ℕ) → own ≡ shares_of (hold_of before.locks object)
        → marks_of (hold_of before.locks object) ≡ 0
        → shares_of (hold_of before.locks object) ≡ lasting_of (hold_of before.locks object)
        → own ≤ 1
        → (Conflicts want (words (Lock object)) ↔ words (Lock object) ≢ own)
        → Goes fits shape
        (with_word words (Lock object)
        (either (words (Lock object) == own) (2 ^ 32) (words (Lock object)))) views id before
        (λ after. Tries shape want before (words (Lock object)) after
        (tried (locked object Marked before))
        (refused (OfObject object) want (words (Lock object)) (tried before)))
    mark_goes want own own_is no_mark all_last one_share conflicts =
        let facts = found_now in
        let word = words (Lock object) in
        elim (cases_eq word own) [
          | inl hit ↦ record {
            after = tried (locked object Marked before);
            lawful = subst (λ (test : Bool). IsLawful fits shape
                (with_word words (Lock object) (either test (2 ^ 32) word))
                (set views id (tried (locked object Marked before))))
                (sym (eq-eqb word own hit))
                (mark_set (hit ∙ own_is) no_mark all_last (omega arith));
            same_rights = refl;
            told = record {
              took = λ _. refl;
              failed = λ conflict. absurd (conflicts.0 conflict hit);
              alone = λ _ conflict. conflicts.0 conflict hit;
            };
          }
          | inr miss ↦ record {
            after = refused (OfObject object) want word (tried before);
            lawful = subst (λ (test : Bool). IsLawful fits shape
                (with_word words (Lock object) (either test (2 ^ 32) word))
                (set views id (refused (OfObject object) want word (tried before))))
                (sym (ne_eqb word own miss)) (refusal_keeps want);
            same_rights = refl;
            told = record {
              took = λ free. absurd (free (conflicts.1 miss));
              failed = λ _. refl;
              alone = λ alone _. miss
                  (omega (
                    arith,
                    facts.alone_shares alone,
                    facts.alone_marks alone,
                    facts.counted.word_is,
                  ));
            };
          }
        ]

  pub mark_permitted : hold_of before.locks object ≡ None
      → Permits fits shape (Lock object) (λ word. either (word == 0) (2 ^ 32) word) before
      (Marks shape object before)
  mark_permitted none = record {
    goes = λ words views id now word_fits. mark_goes words views id now Mark 0
        (sym (ap shares_of none)) (ap marks_of none) (ap shares_of none ∙ sym (ap lasting_of none))
        (omega arith) ((λ h. h), (λ h. h));
  }

  pub rise_permitted : hold_of before.locks object ≡ Some Shared
      → Permits fits shape (Lock object) (λ word. either (word == 1) (2 ^ 32) word) before
      (Rises shape object before)
  rise_permitted shared = record {
    goes = λ words views id now word_fits. mark_goes words views id now Rise 1
        (sym (ap shares_of shared)) (ap marks_of shared)
        (ap shares_of shared ∙ sym (ap lasting_of shared)) (omega arith) ((λ h. h), (λ h. h));
  }

  forgotten : (other : Place) (reading : Known)
      → known_of (without_known before.known object) other ≡ Some reading
      → known_of before.known other ≡ Some reading
  forgotten other reading is =
      elim (place_cases other object) [
        | inl same ↦ absurd
            (let gone : None ≡ Some reading = sym
            (ap (known_of (without_known before.known object)) same
            ∙ reading-gone before.known object) ∙ is in cc gone)
        | inr ne ↦ sym (reading-stays before.known object other ne) ∙ is
      ]

  none_left : (reading : Known)
      → known_of (without_known before.known object) object ≡ Some reading → ⊥
  none_left reading is = let gone : None ≡ Some reading = sym (reading-gone before.known object)
      ∙ is in cc gone

  -- a share is taken from the word
  share_taken : (Told : ℕ → View N → Type 0) (after : View N)
      → shares_of (hold_of before.locks object) ≡ 1
      → beside_locks after ≡ beside_locks before → after.rights ≡ before.rights
      → after.locks ≡ without_lock before.locks object
      → ((other : Place) (reading : Known) → known_of after.known other ≡ Some reading
      → known_of before.known other ≡ Some reading)
      → ((reading : Known) → known_of after.known object ≡ Some reading
      → ¬ Lasts (hold_of before.locks object))
      → ((word : ℕ) → Told word after)
      → Permits fits shape (Lock object) (λ word. (word + (2 ^ 64 - 1)) % 2 ^ 64) before Told
  share_taken Told after one_share beside rights locks known forgot told = record {
    goes = λ words views id now word_fits.
        let facts = found_now words views id now in
        let no_mark : marks_of (hold_of before.locks object) ≡ 0 = no_mark_beside
        (hold_of before.locks object) one_share in
        let counted = facts.counted in record {
          after = after;
          lawful = holds_without words views id now
              ((words (Lock object) + (2 ^ 64 - 1)) % 2 ^ 64) after beside locks known forgot
              (λ mark. absurd (let one : marks_of (hold_of before.locks object) ≡ 1 =
              ap marks_of mark in omega arith)) (λ s l m es el em. record {
                word_is = omega (arith, counted.word_is, counted.one_mark, facts.few_shares);
                one_mark = omega (arith, counted.one_mark);
                apart = λ one. omega (arith, counted.apart);
              });
          same_rights = rights;
          told = told (words (Lock object));
        };
  }

  -- a share is given up
  pub share_leave_permitted : hold_of before.locks object ≡ Some Shared
      → Permits fits shape (Lock object) (λ word. (word + (2 ^ 64 - 1)) % 2 ^ 64) before
      (λ _ after. Leaves object before after)
  share_leave_permitted shared =
      share_taken (λ _ after. Leaves object before after) (unlocked object before)
      (ap shares_of shared) refl refl refl forgotten (λ reading is was. none_left reading is)
      (λ word. refl)

  -- a share that was refused is taken back
  pub share_return_permitted : hold_of before.locks object ≡ Some Returning
      → Permits fits shape (Lock object) (λ word. (word + (2 ^ 64 - 1)) % 2 ^ 64) before
      (λ _ after. Returns object before after)
  share_return_permitted returning =
      share_taken (λ _ after. Returns object before after) (returned object before)
      (ap shares_of returning) refl refl refl (λ other reading is. is)
      (λ reading is was. subst Lasts returning was) (λ word. refl)

  -- the mark is given up
  pub mark_leave_permitted : hold_of before.locks object ≡ Some Marked
      → dirt_of before.dirty object ≡ None → opened_of before.stamps.opened object ≡ None
      → Permits fits shape (Lock object) (λ word. (word + (2 ^ 64 - 2 ^ 32)) % 2 ^ 64) before
      (λ _ after. Leaves object before after)
  mark_leave_permitted marked clean closed = record {
    goes = λ words views id now word_fits.
        let facts = found_now words views id now in
        let no_share : shares_of (hold_of before.locks object) ≡ 0 = ap shares_of marked in
        let one_mark : marks_of (hold_of before.locks object) ≡ 1 = ap marks_of marked in
        let counted = facts.counted in record {
          after = unlocked object before;
          lawful = holds_without words views id now
              ((words (Lock object) + (2 ^ 64 - 2 ^ 32)) % 2 ^ 64)
              (unlocked object before) refl refl forgotten (λ reading is was. none_left reading is)
              (λ mark. (clean, closed)) (λ s l m es el em. record {
                word_is = omega (arith, counted.word_is, counted.one_mark, facts.few_shares);
                one_mark = omega (arith, counted.one_mark);
                apart = λ one. omega (arith, counted.one_mark);
              });
          same_rights = refl;
          told = refl;
        };
  }

  pub share_permitted : hold_of before.locks object ≡ None
      → Permits fits shape (Lock object) (λ word. (word + 1) % 2 ^ 64) before
      (Shares shape object before)
  share_permitted none = record {
    goes = λ words views id now word_fits.
        let facts = found_now words views id now in
        let counted = facts.counted in
        let word = words (Lock object) in
        let no_share : shares_of (hold_of before.locks object) ≡ 0 = ap shares_of none in
        let no_lasting : lasting_of (hold_of before.locks object) ≡ 0 = ap lasting_of none in
        let no_mark : marks_of (hold_of before.locks object) ≡ 0 = ap marks_of none in
        elim (cases_eq ((word / 2 ^ 32) % 2) 1) [
          | inl conflict ↦
              let after = refused (OfObject object) Share word
              (tried (locked object Returning before)) in record {
                after = after;
                lawful = holds_with words views id now
                    ((word + 1) % 2 ^ 64) after Returning refl refl refl
                    (λ mark. let one : marks_of (hold_of before.locks object) ≡ 1 =
                    ap marks_of mark in omega arith) (λ lasts. subst Lasts none lasts)
                    (λ s l m es el em. record {
                      word_is = omega (arith, counted.word_is, counted.one_mark, facts.few_shares);
                      one_mark = omega (arith, counted.one_mark);
                      apart = λ one. omega (arith, counted.apart);
                    });
                same_rights = refl;
                told = record {
                  took = λ free. absurd (free conflict);
                  failed = λ _. refl;
                  alone = λ alone _. omega
                      (arith, facts.alone_shares alone, facts.alone_marks alone, counted.word_is);
                };
              }
          | inr free ↦
              let after = tried (locked object Shared before) in record {
                after = after;
                lawful = holds_with words views id now
                    ((word + 1) % 2 ^ 64) after Shared refl refl refl
                    (λ mark. let one : marks_of (hold_of before.locks object) ≡ 1 =
                    ap marks_of mark in omega arith) (λ lasts. tt) (λ s l m es el em. record {
                      word_is = omega (arith, counted.word_is, counted.one_mark, facts.few_shares);
                      one_mark = omega (arith, counted.one_mark);
                      apart = λ one. absurd (free (omega (arith, counted.word_is, facts.few_shares)));
                    });
                same_rights = refl;
                told = record {
                  took = λ _. refl;
                  failed = λ conflict. absurd (free conflict);
                  alone = λ _ conflict. free conflict;
                };
              }
        ];
  }
