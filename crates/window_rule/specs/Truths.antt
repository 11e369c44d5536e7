-- What is true of every view.
use Rattle.std.specs.Prelude.{◌≡◌, ℕ, ◌+◌, ◌^◌, ◌<◌, ◌≤◌, List, length, Some, true}
use Rattle.std.specs.List.{AllByRecursion}
use mathlib.Core.Option.{some}
use lib.ListN.{get_elem?}
use Rattle.rma_layout.specs.declared.word.Word.{Word}
use Rattle.rma_layout.specs.Shape.{Shape}
use Rattle.rma_layout.specs.Placement.{Place, IsBlock}
use Rattle.object_words.specs.Entries.{Entry, IsLegalHistory}
use Rattle.window_rule.specs.View.{View, Hold, Known}
use Rattle.window_rule.specs.Words.{Words}
use Rattle.window_rule.specs.Locks.{hold_of}
use Rattle.window_rule.specs.Lawful.{IsLawful}
use Rattle.window_rule.specs.Known.{known_of}
use Rattle.window_rule.specs.Objects.{LiesAt, chain_length}
use Rattle.window_rule.specs.HistoryHolds.{numbers_from}
use Rattle.window_rule.specs.MemoryHolds.{Remembers, memory_of}
use Rattle.window_rule.specs.Partition.{times, places_of}

-- a moment at which the words and all views were lawful, this view among them, and at which this
-- was found in a word
pub record WasLawful {N : Type 0} (fits : Shape → Entry N → Type 0) (shape : Shape) (word : Word)
    (found : ℕ) (view : View N) : Type 0 where
  pub words : Words
  pub views : List (View N)
  pub id : ℕ
  pub lawful : IsLawful fits shape words views
  pub there : get_elem? views id ≡ some view
  pub found_is : found ≡ words word

pub record IsTrueView {N : Type 0} (fits : Shape → Entry N → Type 0) (shape : Shape)
    (view : View N) : Type 0 where
  pub legal : IsLegalHistory true shape view.seen
  pub fitting : AllByRecursion (fits shape) view.seen
  -- each entry was made under one of the window's ranks
  pub ranked : AllByRecursion (λ (entry : Entry N). entry.rank < shape.ranks) view.seen
  pub own : view.own ≡ numbers_from 0 view.rights view.seen
  -- what it knows is of blocks of the window, and is what the history that it has seen gives
  pub knows : Remembers shape (memory_of view)
  pub full : (object : Place) (known : Known) → known_of view.known object ≡ Some known
      → length known.chain ≡ chain_length shape object known.content
  pub lies : (object : Place) (known : Known) → known_of view.known object ≡ Some known
      → LiesAt object known.chain
  pub inside : (object : Place) (known : Known) (block : Place)
      → known_of view.known object ≡ Some known → 0 < times block known.chain → IsBlock shape block
  pub few_words : (object : Place) (known : Known) → known_of view.known object ≡ Some known
      → length known.content ≤ 2 ^ 20
  -- what it has locked is a block of the window
  pub locked : (object : Place) (hold : Hold) → hold_of view.locks object ≡ Some hold
      → IsBlock shape object
  -- no block is twice with it
  pub once : (block : Place) → times block (places_of view.private) ≤ 1
  pub apart : (object : Place) (known : Known) (block : Place)
      → known_of view.known object ≡ Some known
      → times block known.chain + times block (places_of view.private) ≤ 1
