-- What a user of a window may conclude where its words and all views are lawful.
use Rattle.std.specs.Prelude.{◌≡◌, ◌≢◌, ℕ, List, length, Some, None, true}
use Rattle.std.specs.List.{AllByRecursion}
use mathlib.Core.Option.{some}
use mathlib.Core.List.{IsPrefix}
use lib.ListN.{get_elem?}
use Rattle.rma_layout.specs.declared.word.Word.TheVariants.{Commit}
use Rattle.rma_layout.specs.Shape.{Shape}
use Rattle.rma_layout.specs.Placement.{Place, IsBlock}
use Rattle.object_words.specs.Contents.{content_of}
use Rattle.object_words.specs.Entries.{Entry, IsLegalHistory, store_after}
use Rattle.window_rule.specs.View.{View, Marked, Known, AsWriter, AsWhole}
use Rattle.window_rule.specs.Words.{Words, sizes_in, data_in}
use Rattle.window_rule.specs.Locks.{hold_of}
use Rattle.window_rule.specs.Dirty.{dirt_of}
use Rattle.window_rule.specs.Known.{known_of}
use Rattle.window_rule.specs.Objects.{IsKeptIn, LiesAt}
use Rattle.window_rule.specs.ContentsHold.{Lasts}
use Rattle.window_rule.specs.Partition.{Holder, part_of, times}
use Rattle.window_rule.specs.Lawful.{IsLawful, owns_of}

module _ {N : Type 0} (views : List (View N)) where
  -- two views with different numbers
  pub record AreTwo (id other : ℕ) (one two : View N) : Type 0 where
    pub differ : other ≢ id
    pub first : get_elem? views id ≡ some one
    pub second : get_elem? views other ≡ some two

  -- where one view has an object marked, no other has a share of it that is to last, and none has
  -- it marked
  abbrev pub MarkExcludes : Shape → Type 0
  MarkExcludes shape = (object : Place) → IsBlock shape object → (id other : ℕ) (one two : View N)
      → AreTwo id other one two
      → hold_of one.locks object ≡ Some Marked → ¬ Lasts (hold_of two.locks object)

  -- where one view is in the gate as a writer, no view is whole
  abbrev pub WriterExcludes : Type 0
  WriterExcludes = (id other : ℕ) (one two : View N) → AreTwo id other one two → one.gate ≡ AsWriter
      → two.gate ≢ AsWhole

-- an object of these words, which the words of the window keep in a full chain of blocks on its
-- rank, the last of which
-- leads nowhere
pub record IsStored (shape : Shape) (words : Words) (object : Place) (chain : List Place)
    (content : List ℕ) : Type 0 where
  pub kept : IsKeptIn shape (sizes_in words) (data_in words) object chain content
  pub lies : LiesAt object chain

module _ {N : Type 0} (fits : Shape → Entry N → Type 0) (shape : Shape) (words : Words)
    (views : List (View N)) (lawful : IsLawful fits shape words views) where
  -- the history is legal, each entry fits, the commit word counts them, and each view has seen a
  -- beginning of it
  pub record HasHistory : Type 0 where
    pub legal : IsLegalHistory true shape lawful.ground.history
    pub fitting : AllByRecursion (fits shape) lawful.ground.history
    pub counted : words Commit ≡ length lawful.ground.history
    pub begins : (id : ℕ) (view : View N) → get_elem? views id ≡ some view
        → IsPrefix view.seen lawful.ground.history

  -- an object that no view has detached has the words that the history gives it
  abbrev pub ContentIsOfHistory : Type 0
  ContentIsOfHistory = (object : Place) → IsBlock shape object
      → ((id : ℕ) (view : View N) → get_elem? views id ≡ some view
      → dirt_of view.dirty object ≡ None)
      → (chain : List Place)
      × IsStored shape words object chain
      (content_of (store_after lawful.ground.history) object)

  -- what a view knows of an object is so: in the words, and in the history
  abbrev pub KnownIsTrue : Type 0
  KnownIsTrue = (id : ℕ) (view : View N) (object : Place) (known : Known)
      → get_elem? views id ≡ some view
      → known_of view.known object ≡ Some known
      → IsStored shape words object known.chain known.content
      × (content_of (store_after lawful.ground.history) object ≡ known.content)

  -- how often a block is with a free list, a view or an object
  abbrev pub times_with : Place → Holder → ℕ
  times_with block holder = times block
      (part_of lawful.ground.free (owns_of views) lawful.ground.objects holder)

  -- each block of the window is with one holder, once, and with no other
  abbrev pub BlockHasOneHolder : Type 0
  BlockHasOneHolder = (block : Place) → IsBlock shape block
      → (holder : Holder) × (times_with block holder ≡ 1)
      × ((other : Holder) → other ≢ holder → times_with block other ≡ 0)
