-- What a transaction knows of every store of a graph that it may be at, with its writes put over it.
use Rattle.std.specs.Prelude.{◌≡◌}
use Rattle.rma_layout.specs.Shape.{Shape}
use Rattle.rma_layout.specs.Placement.{Place}
use Rattle.object_words.specs.Contents.{Contents, IsByRisingObject, content_of, overlay}
use Rattle.object_store.specs.State.{StoreState}
use Rattle.holder_codec.specs.Knowing.{MayBeAt}

-- a fact of a shape and of contents, which names no state
pub record Knows {N : Type 0} (Holds : Shape → Contents → Type 0) (state : StoreState N) : Type 0 where
  pub always : (store : Contents) → MayBeAt state.shape state.reads store → Holds state.shape (overlay store state.writes)
  -- what was written is a map
  pub ordered : IsByRisingObject state.writes

-- such a fact looks at objects of this kind alone
abbrev pub LooksAt : (Shape → Place → Type 0) → (Shape → Contents → Type 0) → Type 0
LooksAt IsOfKind Holds =
    (shape : Shape) (one other : Contents) → ((place : Place) → IsOfKind shape place → content_of one place ≡ content_of other place)
    → Holds shape one → Holds shape other
