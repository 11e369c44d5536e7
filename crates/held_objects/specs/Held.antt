-- What a transaction finds in an object that holds one spelling of something.
use Rattle.std.specs.Prelude.{◌≡◌, ℕ, List, IsSome, ◌⊎◌}
use Rattle.rma_layout.specs.Shape.{Shape}
use Rattle.rma_layout.specs.Ranges.{IsInRange}
use Rattle.rma_layout.specs.Placement.{Place}
use Rattle.object_words.specs.Contents.{Contents, Agrees, IsByRisingObject, content_of, words_at, overlay}
use Rattle.object_store.specs.State.{StoreState, committed}
use Rattle.object_store.specs.Works.{Looks}
use Rattle.holder_codec.specs.Knowing.{MayBeAt}

module _ {H : Type 0} (IsHolder : H → Type 0) (words_of : H → List ℕ) where
  pub record IsSpelled (object : Place) (shape : Shape) (contents : Contents) : Type 0 where
    pub held : H
    pub is : IsHolder held
    pub words : content_of contents object ≡ words_of held

  pub record FindsHolder {N : Type 0} (object : Place) (old new : StoreState N) (holder : H) : Type 0 where
    pub looks : Looks old new
    pub ranges : IsInRange old.shape
    pub in_order : IsByRisingObject old.writes
    pub stands : MayBeAt new.shape new.reads (committed new)
    pub is : IsHolder holder
    pub words : (contents : Contents) → Agrees new.reads contents → content_of (overlay contents old.writes) object ≡ words_of holder
    -- it is what the transaction wrote itself, or what it has read
    pub there : IsSome (words_at new.writes object) ⊎ (content_of new.reads object ≡ words_of holder)
