-- The free-list word of a block is loaded.
use Rattle.std.proofs.Common.{◌≡◌, ◌≢◌, ℕ, zero, suc, ◌<◌, cond, List, [], ◌∷◌, length, drop, get_or, refl, sym, ap, ◌∙◌, subst, inl, inr, arith, Option, Some, None, eq-eqb, ne_eqb}
use Rattle.std.specs.List.{AllByRecursion}
use Rattle.std.proofs.lemmas.Bool.{cases_eq}
use Rattle.object_words.specs.Entries.{Entry}
use Rattle.rma_layout.specs.declared.word.Word.TheVariants.{FreeList}
use Rattle.rma_layout.specs.Shape.{Shape}
use Rattle.rma_layout.specs.Placement.{Place, metadata}
use Rattle.window_rule.specs.View.{View, HeadNote, OwnBlock}
use Rattle.window_rule.specs.Words.{Words, nexts_in, heads_in}
use Rattle.window_rule.specs.Objects.{AreThreaded, number_to, first_of, tag_of}
use Rattle.window_rule.specs.ContentsHold.{IsOwnKnown}
use Rattle.window_rule.specs.NotesHold.{IsNoted}
use Rattle.window_rule.specs.RightsHold.{IsAlone}
use Rattle.window_rule.specs.Permits.{Moment, Permits, Goes}
use Rattle.window_rule.specs.Pool.{Nexts, nexted, noted_next, next_in, own_of, note_of}
use Rattle.window_rule.proofs.LengthRead.{load_goes}
use Rattle.window_rule.proofs.NotesKept.{note_is}
use Rattle.window_rule.proofs.NoteSteps.{notes_change, next_goes}
use Rattle.window_rule.proofs.PushSteps.{found_own}

known_link : (nexts : Place → ℕ) (all : List OwnBlock) (block : Place) (next : ℕ)
    (found : Option OwnBlock) → own_of all block ≡ found → next_in found ≡ Some next
    → AllByRecursion (IsOwnKnown nexts) all → nexts block ≡ next
known_link nexts all block next None is e h = absurd (cc e)
known_link nexts all block next (Some own) is e h =
    let f = found_own (IsOwnKnown nexts) all block own is h in
    ap nexts (sym f.block_is) ∙ f.holds next e

threaded_at : (nexts : Place → ℕ) (list : List Place) (k : ℕ) → k < length list
    → AreThreaded nexts list → nexts (get_or list k metadata) ≡ number_to (drop (suc k) list)
threaded_at nexts [] k below h = absurd (omega arith)
threaded_at nexts (block ∷ more) zero below h = h.0
threaded_at nexts (block ∷ more) (suc k) below h = threaded_at nexts more k (omega arith) h.1

module _ {N : Type 0} (fits : Shape → Entry N → Type 0) (shape : Shape) (block : Place)
    (before : View N) (some_block : block.block ≢ 0) where
  module _ (words : Words) (views : List (View N)) (id : ℕ)
      (now : Moment fits shape words views id before) where
    -- where a view is alone, the list that it has noted is the list
    walk_tells : (note : HeadNote) (k : ℕ) → IsAlone shape before
        → note_of before.notes block.rank ≡ Some note → k < length note.list
        → get_or note.list k metadata ≡ block
        → words (FreeList block) ≡ number_to (drop (suc k) note.list)
    walk_tells note k alone noted below at =
        let h = now.lawful.holds in
        let was = h.notes id before now.there in
        let is = note_is (IsNoted (heads_in words) now.lawful.ground.free)
        before.notes block.rank note noted was.notes in
        let head = (note_is
        (λ (n : HeadNote). n.head ≡ heads_in words n.rank) before.notes block.rank note noted
        (was.alone alone).now).0 in
        let list = (is.0.same (ap tag_of head)).list in
        ap (nexts_in words) (sym at)
        ∙ threaded_at (nexts_in words) note.list k below
        (subst (AreThreaded (nexts_in words)) (sym list) (h.free.lists note.rank).threaded)

    stay : (found : Option HeadNote) → noted_next found block (words (FreeList block)) before ≡ before
        → Goes fits shape words views id before
        (λ after. after ≡ noted_next found block (words (FreeList block)) before)
    stay found same = record {
      after = before;
      lawful = notes_change fits shape words views id before now before refl refl refl
          (now.lawful.holds.notes id before now.there);
      same_rights = refl;
      told = sym same;
    }

    noted_goes : (found : Option HeadNote) → note_of before.notes block.rank ≡ found
        → Goes fits shape words views id before
        (λ after. after ≡ noted_next found block (words (FreeList block)) before)
    noted_goes None noted = stay None refl
    noted_goes (Some note) noted =
        let next = words (FreeList block) in
        elim (cases_eq (first_of note.head) block.block) [
          | inl same ↦
              let gone = next_goes fits shape words views id before now block (record {
                note = note;
                noted = noted;
                first = same;
                some_block = some_block;
              }) in record {
                after = gone.after;
                lawful = gone.lawful;
                same_rights = gone.same_rights;
                told = gone.told
                    ∙ sym (ap (λ b. cond b (nexted note next before) before)
                    (eq-eqb (first_of note.head) block.block same));
              }
          | inr ne ↦ stay (Some note) (ap (λ b. cond b (nexted note next before) before)
              (ne_eqb (first_of note.head) block.block ne))
        ]

  pub next_permitted : Permits fits shape (FreeList block) (λ found. found) before
      (Nexts shape block before)
  next_permitted = record {
    goes = λ words views id now small.
        let h = now.lawful.holds in
        let gone = noted_goes words views id now (note_of before.notes block.rank) refl in
        load_goes fits shape words (FreeList block) views id before
        (Nexts shape block before (words (FreeList block))) (record {
          after = gone.after;
          lawful = gone.lawful;
          same_rights = gone.same_rights;
          told = record {
            view = gone.told;
            link = h.free.links block;
            own = λ next e. known_link (nexts_in words) before.private block next
                (own_of before.private block) refl e (h.own id before now.there);
            alone = λ alone note noted k below at.
                walk_tells words views id now note k alone noted below at;
          };
        });
  }
