-- What a rank knows: its view. Only its own steps change it.
use Rattle.std.specs.Prelude.{ℕ, List, [], Option, None, Bool}
use Rattle.rma_layout.specs.Placement.{Place}
use Rattle.object_words.specs.Entries.{Entry}
use Rattle.lock_words.specs.declared.want.Want.{Want}

-- how a view has an object locked
pub data Hold : Type 0 where
  Shared : Hold
  Marked : Hold
  -- its share is counted in the lock word, was refused, and is about to be taken back
  Returning : Hold

-- the objects that a view has locked, each with how
abbrev pub Locks : Type 0
Locks = List (Place × Hold)

-- the words of a block that were loaded or stored, each with its number in the block
abbrev pub KnownWords : Type 0
KnownWords = List (ℕ × ℕ)

-- what was read of an object word by word: how many words it has, if that was loaded, and the
-- blocks of its chain that were met, in
-- the chain's order
pub record Reading : Type 0 where
  pub size : Option ℕ
  pub blocks : List (Place × KnownWords)

-- what is known of an object: the blocks of its chain, and all its words
pub record Known : Type 0 where
  pub chain : List Place
  pub content : List ℕ

-- a word of a block that a view has
pub record Cell : Type 0 where
  pub block : Place
  pub index : ℕ
  pub word : ℕ

-- an object whose length word its view has set to 0, and which it may write
pub record Dirt : Type 0 where
  pub object : Place
  -- the words that the object had
  pub kept : List ℕ
  -- the blocks of the object, which are the view's now
  pub blocks : List Place
  -- the object's new words, if the view has attached them
  pub attached : Option (List ℕ)

-- a block of a view's own, which is with no object and in no free list
pub record OwnBlock : Type 0 where
  pub block : Place
  -- the block's free-list word, if the view knows it
  pub next : Option ℕ

-- whether a view has a place in the gate
pub data GatePlace : Type 0 where
  Outside : GatePlace
  AsWriter : GatePlace
  AsWhole : GatePlace
  -- the place is counted in the gate word, was refused, and is about to be taken back
  WriterReturning : GatePlace
  WholeReturning : GatePlace

-- what was loaded of the free list of a rank
pub record HeadNote : Type 0 where
  pub rank : ℕ
  pub head : ℕ
  -- the free-list word of the head's block, if it was loaded
  pub next : Option ℕ
  -- the list that it stood for
  pub list : List Place

-- the word that a step wants
pub data Target : Type 0 where
  OfObject : Place → Target
  OfGate : Target

-- a step that was refused, and the word that stood in its way
pub record Refusal : Type 0 where
  pub target : Target
  pub want : Want
  pub word : ℕ

-- a failed exchange on a rank's head
pub record Miss : Type 0 where
  pub rank : ℕ
  pub loaded : ℕ
  pub found : ℕ

-- a load of a rank's head, and how many blocks of that rank the view had of its own then
pub record Look : Type 0 where
  pub rank : ℕ
  pub head : ℕ
  pub own_blocks : ℕ

-- what was read of an object under an even stamp
pub record StampNote : Type 0 where
  pub object : Place
  pub stamp : ℕ
  pub reading : Reading

-- an object that was found with another stamp than before, or with an odd one
pub record Change : Type 0 where
  pub object : Place
  pub before : ℕ
  pub after : ℕ

-- what a view knows of stamps
pub record Stamps : Type 0 where
  -- the objects whose stamps it has made odd, each with whether it has committed a write of it
  -- since
  pub opened : List (Place × Bool)
  pub notes : List StampNote
  -- the length of the history at some moment after the notes, if it was loaded
  pub place : Option ℕ
  pub changes : List Change

-- what the part on the history reads of a view
pub record Chronicle (N : Type 0) : Type 0 where
  pub rights : List ℕ
  pub seen : List (Entry N)
  pub own : List ℕ

pub record View (N : Type 0) : Type 0 where
  -- the ranks that it stands for: one at least while it is live
  pub rights : List ℕ
  -- how many commits it may still make
  pub allowance : ℕ
  pub locks : Locks
  -- what it knows of objects whose length it has loaded: of those that it has locked, and of any
  -- while it is whole in the gate
  pub known : List (Place × Known)
  pub dirty : List Dirt
  -- the blocks of its own. Which of them are spares is known to the rank beside its view, since
  -- keeping a spare is no step
  pub private : List OwnBlock
  -- the words of the blocks of its own, and of those of the objects that it has detached, as far as
  -- it knows them. Of a
  -- block that it has no more nothing is said
  pub cells : List Cell
  pub gate : GatePlace
  -- one at most for each rank
  pub notes : List HeadNote
  -- ranks, each with a bound of the tag in its head, while the view is alone
  pub bounds : List (ℕ × ℕ)
  pub refusals : List Refusal
  pub misses : List Miss
  pub looks : List Look
  -- how many times it has tried to share, to mark or to rise
  pub takes : ℕ
  pub stamps : Stamps
  -- the history up to some commit
  pub seen : List (Entry N)
  -- the numbers of its own entries in the history
  pub own : List ℕ
  -- of a view that was just joined of two, what these were
  pub heard : List (Chronicle N)

-- the view of one that has nothing: it was joined to another
abbrev pub spent : {N : Type 0} → View N
spent = record {
  rights = [];
  allowance = 0;
  locks = [];
  known = [];
  dirty = [];
  private = [];
  cells = [];
  gate = Outside;
  notes = [];
  bounds = [];
  refusals = [];
  misses = [];
  looks = [];
  takes = 0;
  stamps = record { opened = []; notes = []; place = None; changes = [] };
  seen = [];
  own = [];
  heard = [];
}
