-- A word of a block is loaded.
use Rattle.std.proofs.Common.{◌≡◌, ℕ, zero, suc, ◌+◌, ◌-◌, ◌%◌, ◌<◌, List, [], ◌∷◌, length, get_or, refl, sym, ap, ◌∙◌, subst, arith, Some}
use lib.ListN.{get_elem?}
use mathlib.Core.Option.{some}
use Rattle.rma_layout.specs.declared.word.Word.TheVariants.{Data}
use Rattle.rma_layout.specs.Shape.{Shape}
use Rattle.rma_layout.specs.Placement.{Place, metadata, raw_of}
use Rattle.object_words.specs.Entries.{Entry}
use Rattle.window_rule.specs.View.{View, Known}
use Rattle.window_rule.specs.Known.{known_of}
use Rattle.window_rule.specs.Words.{Words, sizes_in, data_in}
use Rattle.window_rule.specs.Objects.{AreLinked, IsKeptIn, IsKept}
use Rattle.window_rule.specs.Permits.{Permits}
use Rattle.window_rule.specs.Reads.{IsWordOf, Gets}
use Rattle.window_rule.specs.Lawful.{Ground, Holds}
use Rattle.window_rule.proofs.LengthRead.{load_goes}
use Rattle.window_rule.proofs.NoteSteps.{notes_change}

linked_next : (cells : Place → ℕ → ℕ) (chain : List Place) (j : ℕ) → j + 1 < length chain
    → AreLinked cells chain
    → cells (get_or chain j metadata) 0 ≡ raw_of (get_or chain (suc j) metadata)
linked_next cells [] j below h = absurd (omega arith)
linked_next cells (one ∷ []) j below h = absurd (omega arith)
linked_next cells (one ∷ (two ∷ more)) zero below h = h.0
linked_next cells (one ∷ (two ∷ more)) (suc j) below h = linked_next cells (two ∷ more) j
    (omega arith) h.1

linked_last : (cells : Place → ℕ → ℕ) (chain : List Place) (j : ℕ) → j + 1 ≡ length chain
    → AreLinked cells chain → cells (get_or chain j metadata) 0 ≡ 0
linked_last cells [] j end h = absurd (omega arith)
linked_last cells (one ∷ []) zero end h = h.0
linked_last cells (one ∷ []) (suc j) end h = absurd (omega arith)
linked_last cells (one ∷ (two ∷ more)) zero end h = absurd (omega arith)
linked_last cells (one ∷ (two ∷ more)) (suc j) end h = linked_last cells (two ∷ more) j
    (omega arith) h.1

word_of : (shape : Shape) (sizes : Place → ℕ) (cells : Place → ℕ → ℕ) (object : Place)
    (chain : List Place) (content : List ℕ) (j i : ℕ) (block : Place)
    → IsKeptIn shape sizes cells object chain content → get_or chain j metadata ≡ block
    → IsWordOf shape chain content j i (cells block i)
word_of shape sizes cells object chain content j i block h at = record {
  link = λ zero_th inside. ap (cells block) zero_th
      ∙ (ap (λ b. cells b 0) (sym at)
      ∙ (linked_next cells chain j inside h.linked
      ∙ ap (λ n. raw_of (get_or chain n metadata)) (let e : suc j ≡ j + 1 = omega arith in e)));
  last = λ zero_th end. ap (cells block) zero_th
      ∙ (ap (λ b. cells b 0) (sym at) ∙ linked_last cells chain j end h.linked);
  payload = λ k below j_is i_is. ap (cells block) i_is
      ∙ (ap (λ b. cells b (1 + k % (shape.words - 1))) (sym at)
      ∙ (ap (λ n. cells (get_or chain n metadata) (1 + k % (shape.words - 1))) j_is
      ∙ h.payload k below));
}

module _ {N : Type 0} (fits : Shape → Entry N → Type 0) (shape : Shape) (words : Words)
    (views : List (View N)) (ground : Ground N) (h : Holds fits shape words views ground) (id : ℕ)
    (before : View N) (there : get_elem? views id ≡ some before) where
  -- what the view knows of an object, the words keep
  pub known_kept : (object : Place) (known : Known) → known_of before.known object ≡ Some known
      → IsKeptIn shape (sizes_in words) (data_in words) object known.chain known.content
  known_kept object known is =
      let told = ((h.holdings id before there).read object known is).0 in
      let block = (h.memory id before there object known is).0 in
      subst (λ chain. IsKeptIn shape (sizes_in words) (data_in words) object chain known.content)
      told.chain_is
      (subst (IsKept shape (sizes_in words) (data_in words) object (ground.objects object).chain)
      told.content_is (h.objects object block))

pub get_permitted : {N : Type 0} (fits : Shape → Entry N → Type 0) (shape : Shape) (block : Place)
    (i : ℕ) (before : View N)
    → Permits fits shape (Data block i) (λ found. found) before (Gets shape block i before)
get_permitted fits shape block i before = record {
  goes = λ words views id now small.
      let h = now.lawful.holds in
      load_goes fits shape words (Data block i) views id before
      (Gets shape block i before (words (Data block i))) (record {
        after = before;
        lawful = notes_change fits shape words views id before now before refl refl refl
            (h.notes id before now.there);
        same_rights = refl;
        told = record {
          view = refl;
          known = λ object known j is at. word_of shape (sizes_in words)
              (data_in words) object known.chain known.content j i block
              (known_kept fits shape words views now.lawful.ground h id before now.there object
              known is) at.1;
          held = λ word has e. h.cells id before now.there block i word has e;
        };
      });
}
