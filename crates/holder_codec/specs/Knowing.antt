-- What a transaction knows of the store that it works on. It has read some objects and written some, and of the others
-- it knows nothing. So what it may rely on, and what a part of it does, is said of every store that agrees with what
-- was read, with what was written put over it.
use Rattle.rma_layout.specs.Shape.{Shape}
use Rattle.object_words.specs.Contents.{Contents, Agrees, overlay}
use Rattle.graph_model.specs.Graph.{Graph}
use Rattle.holder_codec.specs.Represents.{Represents}

-- a store of a graph that the transaction may be at, as far as it knows
pub record MayBeAt (shape : Shape) (reads store : Contents) : Type 0 where
  pub graph : Graph
  pub represents : Represents shape store graph
  pub agrees : Agrees reads store

-- a fact of every such store, with the writes put over it
abbrev pub Always : Shape → Contents → Contents → (Contents → Type 0) → Type 0
Always shape reads writes Holds = (store : Contents) → MayBeAt shape reads store → Holds (overlay store writes)

-- a fact of every store that agrees with what was read, and that has with the writes this part of a graph's store
abbrev pub Wherever : {X : Type 0} → Contents → Contents → (Contents → X → Type 0) → (Contents → X → Type 0) → Type 0
Wherever {X} reads writes HasPart Holds = (store : Contents) (x : X) → Agrees reads store → HasPart (overlay store writes) x → Holds store x
