-- What a transaction knows of the index, and what the calls on it do.
use Rattle.std.specs.Prelude.{◌≡◌, ◌≢◌, ℕ, ◌+◌, ◌*◌, ◌≤◌, Bool, true, false, not, ◌==◌, List, ◌++◌, map, length, None, IsSome, IsTrue, MatchBool}
use Rattle.std.specs.List.{filter, AllByRecursion}
use Rattle.rma_layout.specs.Shape.{Shape}
use Rattle.rma_layout.specs.Placement.{Place}
use Rattle.object_words.specs.Contents.{Contents, content_of, overlay}
use Rattle.graph_model.specs.Maps.{has}
use Rattle.graph_model.specs.Sizes.{most_words, is_too_large}
use Rattle.object_store.specs.State.{StoreState}
use Rattle.object_store.specs.Works.{Looks}
use Rattle.holder_codec.specs.declared.index_entry.IndexEntry.{IndexEntry}
use Rattle.holder_codec.specs.declared.index_holder.IndexHolder.{IndexHolder}
use Rattle.holder_codec.specs.Index.{IndexEntryFits, IsIndexHolder, index_words, is_pair_before}
use Rattle.holder_codec.specs.Order.{is_rising}
use Rattle.holder_codec.specs.Represents.{IsSlot}
use Rattle.holder_codec.specs.Knowing.{Wherever}
use Rattle.held_objects.specs.Knows.{Knows}
use Rattle.held_objects.specs.Held.{FindsHolder}
use Rattle.label_index.specs.Entries.{Pair, entries_in, entry_for, pair_of, slot_at, slot_for, with_pair, without_pair}

-- the index has these entries: each slot has the spelling of those that belong there
pub record IsIndexed (shape : Shape) (contents : Contents) (entries : List IndexEntry) : Type 0 where
  pub rising : IsTrue (is_rising is_pair_before entries)
  pub each : AllByRecursion IndexEntryFits entries
  pub slots : (place : Place) → IsSlot shape place →
      content_of contents place ≡ index_words (record { entries = entries_in shape entries place })
  pub within : (place : Place) → IsSlot shape place → length (content_of contents place) ≤ most_words

-- whether the slot of a pair takes one entry more than belong there: each takes two words
abbrev pub takes_one_more : Shape → List IndexEntry → Pair → Bool
takes_one_more shape entries pair = not (is_too_large (2 * (length (entries_in shape entries (slot_for shape pair)) + 1)))

-- the object that the slot of a pair is
abbrev pub IsSlotFor : Pair → Shape → Place → Type 0
IsSlotFor pair shape place = place ≡ slot_for shape pair

-- the index has some entries; not this pair; this pair
pub record Indexes (shape : Shape) (contents : Contents) : Type 0 where
  pub entries : List IndexEntry
  pub indexed : IsIndexed shape contents entries

pub record Lacks (pair : Pair) (shape : Shape) (contents : Contents) : Type 0 where
  pub entries : List IndexEntry
  pub indexed : IsIndexed shape contents entries
  pub absent : entry_for entries pair ≡ None

pub record Has (pair : Pair) (shape : Shape) (contents : Contents) : Type 0 where
  pub entries : List IndexEntry
  pub indexed : IsIndexed shape contents entries
  pub present : IsSome (entry_for entries pair)

-- the vertices with a label
abbrev pub ids_of : ℕ → List IndexEntry → List ℕ
ids_of label entries = map (λ entry. entry.id) (filter (λ entry. entry.label == label) entries)

module _ {N : Type 0} where
  -- a fact of the store and of the entries of the index before the call, wherever that agrees with what is read after it
  abbrev pub WhereverIndexed : StoreState N → StoreState N → (Contents → List IndexEntry → Type 0) → Type 0
  WhereverIndexed old new Holds = Wherever new.reads old.writes (IsIndexed old.shape) Holds

  -- what is known of these pairs stays known
  pub record StaysKnown (IsSpared : Pair → Type 0) (old new : StoreState N) : Type 0 where
    pub lacks : (pair : Pair) → IsSpared pair → Knows (Lacks pair) old → Knows (Lacks pair) new
    pub has : (pair : Pair) → IsSpared pair → Knows (Has pair) old → Knows (Has pair) new

  -- the index has the entry too, unless the slot takes no more
  pub record Adds (entry : IndexEntry) (old new : StoreState N) (added : Bool) : Type 0 where
    pub answer : WhereverIndexed old new (λ _ entries. entry_for entries (pair_of entry) ≡ None
        → added ≡ takes_one_more old.shape entries (pair_of entry))
    pub indexed : added ≡ true → WhereverIndexed old new (λ store entries. entry_for entries (pair_of entry) ≡ None
        → IsIndexed old.shape (overlay store new.writes) (with_pair entry entries))
    pub unchanged : added ≡ false → Looks old new
    pub known : MatchBool added (Knows (Has (pair_of entry)) new) (Knows (Lacks (pair_of entry)) new)
    pub indexes : Knows Indexes new
    pub others : StaysKnown (λ other. other ≢ pair_of entry) old new

  -- the index has the pair no more
  pub record Removes (pair : Pair) (old new : StoreState N) : Type 0 where
    pub removed : WhereverIndexed old new (λ store entries. IsIndexed old.shape (overlay store new.writes) (without_pair pair entries))
    pub absent : Knows (Lacks pair) new
    pub indexes : Knows Indexes new
    pub others : StaysKnown (λ other. other ≢ pair) old new

  -- all vertices with a label, as a call that only looks finds them
  pub record Lists (label : ℕ) (old new : StoreState N) (ids : List ℕ) : Type 0 where
    pub looks : Looks old new
    pub listed : WhereverIndexed old new (λ _ entries. ids ≡ ids_of label entries)
    pub unlisted : (id : ℕ) → has ids id ≡ false → Knows (Lacks (label, id)) new
    pub indexes : Knows Indexes new
    pub known : StaysKnown (λ _. Unit {0}) old new

  -- the slot as it stands; the contracts of private functions alone cite this
  pub record FindsSlot (pair : Pair) (old new : StoreState N) (index : IndexHolder) : Type 0 where
    pub found : FindsHolder IsIndexHolder index_words (slot_for old.shape pair) old new index
    pub entries : WhereverIndexed old new (λ _ entries. index.entries ≡ entries_in old.shape entries (slot_for old.shape pair))

  -- one slot's vertices with a label behind those of others; the contracts of private functions alone cite this
  pub record ListsSlot (label n : ℕ) (old new : StoreState N) (before after : List ℕ) : Type 0 where
    pub looks : Looks old new
    pub listed : WhereverIndexed old new (λ _ entries. after ≡ before ++ ids_of label (entries_in old.shape entries (slot_at old.shape n)))
