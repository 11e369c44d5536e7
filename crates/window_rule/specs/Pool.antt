-- What the steps on heads and free-list words ask of a view, and make of it.
use Rattle.std.specs.Prelude.{◌≡◌, ◌≢◌, ℕ, suc, ◌+◌, ◌-◌, ◌^◌, ◌<◌, ◌≤◌, ◌==◌, List, [], ◌∷◌, ◌++◌, length, drop, get_or, map, Option, Some, None, if◌then◌else◌}
use Rattle.std.specs.List.{AllByRecursion}
use Rattle.rma_layout.specs.declared.word.Word.{Word}
use Rattle.rma_layout.specs.declared.word.Word.TheVariants.{Lock, Length, FreeList, Stamp, Data, Head, Gate, Commit}
use Rattle.rma_layout.specs.Shape.{Shape}
use Rattle.rma_layout.specs.Placement.{Place, IsBlock, IsReserved, metadata, same_place}
use Rattle.object_words.specs.Blocks.{on_rank, contents_use}
use Rattle.object_words.specs.Entries.{store_after}
use Rattle.window_rule.specs.View.{View, HeadNote, OwnBlock}
use Rattle.window_rule.specs.Known.{without_cells}
use Rattle.window_rule.specs.Locks.{hold_of}
use Rattle.window_rule.specs.Objects.{first_of, tag_of, number_to}
use Rattle.window_rule.specs.Partition.{places_of, times}
use Rattle.window_rule.specs.RightsHold.{IsAlone}
use Rattle.window_rule.specs.RoomHolds.{count_on}
pub use Rattle.free_list.specs.Heads.{head_of, next_head}

abbrev pub note_of : List HeadNote → ℕ → Option HeadNote
note_of [] rank = None
note_of (one ∷ more) rank = if one.rank == rank then Some one else note_of more rank

abbrev pub without_note : List HeadNote → ℕ → List HeadNote
without_note [] rank = []
without_note (one ∷ more) rank =
    if one.rank == rank then without_note more rank else one ∷ without_note more rank

-- the tag of the rank is one higher
abbrev pub raised : ℕ → List (ℕ × ℕ) → List (ℕ × ℕ)
raised rank bounds = map
    (λ (one : ℕ × ℕ). (one.0, if one.0 == rank then one.1 + 1 else one.1)) bounds

abbrev pub rank_of : Word → ℕ
rank_of (Lock object) = 0
rank_of (Length object) = 0
rank_of (FreeList block) = 0
rank_of (Stamp object) = 0
rank_of (Data block i) = 0
rank_of (Head rank) = rank
rank_of Gate = 0
rank_of Commit = 0

-- the view has loaded the head of the rank, and nothing has made it forget since
pub record KnowsHead {N : Type 0} (view : View N) (rank head : ℕ) : Type 0 where
  pub note : HeadNote
  pub noted : note_of view.notes rank ≡ Some note
  pub head_is : note.head ≡ head

pub record MayPop {N : Type 0} (shape : Shape) (view : View N) (rank head next : ℕ) : Type 0 where
  pub rank_is : rank < shape.ranks
  pub knows : KnowsHead view rank head
  pub knows_next : knows.note.next ≡ Some next
  pub some_block : first_of head ≢ 0
  pub tag : tag_of head < 2 ^ 44 - 1
  pub link : next < 2 ^ 20

module _ {N : Type 0} (rank : ℕ) where
  abbrev pub popped : Place → ℕ → View N → View N
  popped block next view = record view {
    private = record { block = block; next = Some next } ∷ view.private;
    cells = without_cells view.cells block;
    notes = without_note view.notes rank;
    bounds = raised rank view.bounds;
  }

  -- the head was another
  abbrev pub missed : ℕ → ℕ → View N → View N
  missed head found view = record view {
    notes = without_note view.notes rank;
    misses = view.misses ++ record { rank = rank; loaded = head; found = found } ∷ [];
  }

-- an exchange on a head: it is made where the head is the noted one, and always where the view is
-- alone
pub record Exchanges {N : Type 0} (shape : Shape) (head : ℕ) (before : View N) (found : ℕ)
    (after done failure : View N) : Type 0 where
  pub took : found ≡ head → after ≡ done
  pub failed : found ≢ head → after ≡ failure
  pub alone : IsAlone shape before → found ≡ head

-- a block of the rank that is not with an object for good
pub record MayBeFree (shape : Shape) (rank : ℕ) (block : Place) : Type 0 where
  pub on : block.rank ≡ rank
  pub is_block : IsBlock shape block
  pub unreserved : ¬ IsReserved shape block.block

-- a block that is taken was with no view
pub record Pops {N : Type 0} (shape : Shape) (rank head next : ℕ) (before : View N) (found : ℕ)
    (after : View N) : Type 0 where
  pub exchanges : Exchanges shape head before found after
      (popped rank (on_rank rank (first_of head)) next before) (missed rank head found before)
  pub fresh : found ≡ head → times (on_rank rank (first_of head)) (places_of before.private) ≡ 0
  pub free : found ≡ head → MayBeFree shape rank (on_rank rank (first_of head))

-- what the view knows of a block of its own
abbrev pub own_of : List OwnBlock → Place → Option OwnBlock
own_of [] block = None
own_of (one ∷ more) block = if same_place one.block block then Some one else own_of more block

abbrev pub next_in : Option OwnBlock → Option ℕ
next_in None = None
next_in (Some one) = one.next

-- the free-list word of a block of a view's own, if it is one and the view knows it
abbrev pub own_next_of : List OwnBlock → Place → Option ℕ
own_next_of own block = next_in (own_of own block)

abbrev pub without_own : List OwnBlock → Place → List OwnBlock
without_own [] block = []
without_own (one ∷ more) block =
    if same_place one.block block then more else one ∷ without_own more block

-- the free-list word of the block is known
abbrev pub with_link : Place → ℕ → List OwnBlock → List OwnBlock
with_link block next own = map
    (λ (one : OwnBlock).
    if same_place one.block block then record one { next = Some next } else one) own

abbrev pub bound_of : List (ℕ × ℕ) → ℕ → Option ℕ
bound_of [] rank = None
bound_of (one ∷ more) rank = if one.0 == rank then Some one.1 else bound_of more rank

abbrev pub without_bound : List (ℕ × ℕ) → ℕ → List (ℕ × ℕ)
without_bound [] rank = []
without_bound (one ∷ more) rank =
    if one.0 == rank then without_bound more rank else one ∷ without_bound more rank

module _ {N : Type 0} where
  -- a head was loaded
  abbrev pub headed : ℕ → ℕ → List Place → View N → View N
  headed rank head list view = record view {
    notes = record { rank = rank; head = head; next = None; list = list }
        ∷ without_note view.notes rank;
    bounds = (rank, tag_of head) ∷ without_bound view.bounds rank;
    looks = view.looks
        ++ record {
          rank = rank;
          head = head;
          own_blocks = count_on rank (places_of view.private);
        } ∷ [];
  }

  -- and the word of its block
  abbrev pub nexted : HeadNote → ℕ → View N → View N
  nexted note next view =
      record view { notes = record note { next = Some next } ∷ without_note view.notes note.rank }

  abbrev pub linked : Place → ℕ → View N → View N
  linked block next view = record view { private = with_link block next view.private }

  abbrev pub pushed : Place → View N → View N
  pushed block view = record view {
    private = without_own view.private block;
    notes = without_note view.notes block.rank;
    bounds = raised block.rank view.bounds;
  }

  -- the tag of the rank is 0 again
  abbrev pub renewed : ℕ → View N → View N
  renewed rank view =
      record view {
        notes = without_note view.notes rank;
        bounds = (rank, 0) ∷ without_bound view.bounds rank;
      }

pub record Heads {N : Type 0} (shape : Shape) (rank : ℕ) (before : View N) (found : ℕ)
    (after : View N) : Type 0 where
  pub list : List Place
  pub view : after ≡ headed rank found list before
  pub first : first_of found ≡ number_to list
  pub free : AllByRecursion (MayBeFree shape rank) list
  -- nor is a block of its own reserved
  pub mine : (block : Place) → 0 < times block (places_of before.private)
      → MayBeFree shape block.rank block
  -- the tag is no greater than the bound that a view which is alone has of it
  pub bounded : IsAlone shape before → (bound : ℕ) → bound_of before.bounds rank ≡ Some bound
      → tag_of found ≤ bound
  -- a view that is alone and has nothing detached knows how long the list is
  pub counted : IsAlone shape before → before.dirty ≡ []
      → length list + contents_use shape (store_after before.seen) rank + count_on rank
      (places_of before.private) ≡ shape.blocks

-- the word goes into the note of the block's rank, where the noted list begins with the block
abbrev pub noted_next : {N : Type 0} → Option HeadNote → Place → ℕ → View N → View N
noted_next None block next view = view
noted_next (Some note) block next view =
    if first_of note.head == block.block then nexted note next view else view

-- the word of a block is what is known of it: of a block of the view's own, and, where the view is
-- alone, of each block of a list that it has noted
pub record Nexts {N : Type 0} (shape : Shape) (block : Place) (before : View N) (found : ℕ)
    (after : View N) : Type 0 where
  pub view : after ≡ noted_next (note_of before.notes block.rank) block found before
  pub link : found < 2 ^ 20
  pub own : (next : ℕ) → own_next_of before.private block ≡ Some next → found ≡ next
  pub alone : IsAlone shape before → (note : HeadNote)
      → note_of before.notes block.rank ≡ Some note → (k : ℕ) → k < length note.list
      → get_or note.list k metadata ≡ block → found ≡ number_to (drop (suc k) note.list)

pub record MayLink {N : Type 0} (view : View N) (block : Place) (next : ℕ) : Type 0 where
  pub own : 0 < times block (places_of view.private)
  pub link : next < 2 ^ 20

abbrev pub Links : {N : Type 0} → Place → View N → ℕ → View N → Type 0
Links block before next after = after ≡ linked block next before

pub record MayPush {N : Type 0} (shape : Shape) (view : View N) (block : Place)
    (head : ℕ) : Type 0 where
  pub block_is : IsBlock shape block
  pub knows : KnowsHead view block.rank head
  pub own : OwnBlock
  pub found : own_of view.private block ≡ Some own
  pub linked : own.next ≡ Some (first_of head)
  pub tag : tag_of head < 2 ^ 44 - 1
  pub clean : view.dirty ≡ []
  -- the view has no lock on the object that begins here
  pub left : hold_of view.locks block ≡ None

abbrev pub Pushes : {N : Type 0} → Shape → ℕ → ℕ → ℕ → View N → ℕ → View N → Type 0
Pushes shape rank head first before found after =
    Exchanges shape head before found after (pushed (on_rank rank first) before)
    (missed rank head found before)

pub record MayRenew {N : Type 0} (shape : Shape) (view : View N) (rank head : ℕ) : Type 0 where
  pub alone : IsAlone shape view
  pub knows : KnowsHead view rank head

-- the head was loaded, and its tag set to 0
abbrev pub Renews : {N : Type 0} → ℕ → View N → View N → Type 0
Renews rank before after = (head : ℕ) × (list : List Place)
    × (after ≡ renewed rank (headed rank head list before))
