-- What is known stays known while a transaction looks, and while it changes other objects.
use Rattle.std.proofs.Common.{◌≡◌, ◌∙◌, refl, sym, ap, subst, ◌⊎◌, inl, inr, ℕ, List}
use Rattle.rma_layout.specs.Shape.{Shape}
use Rattle.rma_layout.specs.Placement.{Place}
use Rattle.object_words.specs.Contents.{Contents, Agrees, IsByRisingObject, content_of, words_at, overlay}
use Rattle.object_words.proofs.Overlays.{content-overlay, put_over}
use Rattle.object_store.specs.State.{StoreState}
use Rattle.object_store.specs.Sound.{StaysBegun}
use Rattle.object_store.specs.Works.{Looks, Reaches}
use Rattle.holder_codec.specs.Represents.{Represents}
use Rattle.holder_codec.specs.Knowing.{MayBeAt}
use Rattle.held_objects.specs.Knows.{Knows, LooksAt}
use Rattle.held_objects.specs.Held.{IsSpelled}

-- a store at which the transaction may be afterwards is one at which it may have been before
pub before : {N : Type 0} {old new : StoreState N} → StaysBegun old new → (store : Contents) → MayBeAt new.shape new.reads store → MayBeAt old.shape old.reads store
before stays store may = record {
  graph = may.graph;
  represents = subst (λ (shape : Shape). Represents shape store may.graph) stays.shape may.represents;
  agrees = λ object words is. may.agrees object words (stays.reads object words is);
}

module _ {N : Type 0} {Holds : Shape → Contents → Type 0} {old new : StoreState N} where
  -- what is known after a call, said at the shape before it
  pub knows_after : StaysBegun old new → IsByRisingObject new.writes
      → ((store : Contents) → MayBeAt old.shape old.reads store → Agrees new.reads store → Holds old.shape (overlay store new.writes)) → Knows Holds new
  knows_after stays ordered holds = record {
    always = λ store may. subst (λ (shape : Shape). Holds shape (overlay store new.writes)) (sym stays.shape) (holds store (before stays store may) may.agrees);
    ordered = ordered;
  }

  pub still : Looks old new → Knows Holds old → Knows Holds new
  still looks knows =
      knows_after looks.stays (subst IsByRisingObject (sym looks.writes) knows.ordered) (λ store may _.
      subst (λ (writes : Contents). Holds old.shape (overlay store writes)) (sym looks.writes) (knows.always store may))

  pub still_elsewhere : {IsOfKind : Shape → Place → Type 0} {Reached : Place → Type 0} {Makes : ℕ → Type 0} → LooksAt IsOfKind Holds → ((place : Place) → IsOfKind old.shape place → Reached place → ⊥)
      → Reaches Reached Makes old new → IsByRisingObject new.writes → Knows Holds old → Knows Holds new
  still_elsewhere {IsOfKind} {Reached} looks_at apart reaches ordered knows =
      knows_after reaches.stays ordered (λ store may _. looks_at old.shape (overlay store old.writes) (overlay store new.writes) (same store) (knows.always store may))
    where
      left : (place : Place) → IsOfKind old.shape place → Reached place ⊎ (words_at new.writes place ≡ words_at old.writes place) → words_at old.writes place ≡ words_at new.writes place
      left place kind (inl reached) = absurd (apart place kind reached)
      left place kind (inr same) = sym same

      same : (store : Contents) (place : Place) → IsOfKind old.shape place → content_of (overlay store old.writes) place ≡ content_of (overlay store new.writes) place
      same store place kind =
          content-overlay store old.writes place knows.ordered
          ∙ (ap (λ o. put_over o (content_of store place)) (left place kind (reaches.writes place))
          ∙ sym (content-overlay store new.writes place ordered))

pub spelled_looks_at : {H : Type 0} {IsHolder : H → Type 0} {words_of : H → List ℕ} (object : Place) → LooksAt (λ _ place. place ≡ object) (IsSpelled IsHolder words_of object)
spelled_looks_at object shape one other same spelled = record { held = spelled.held; is = spelled.is; words = sym (same object refl) ∙ spelled.words }
