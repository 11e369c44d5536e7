-- Parts of a graph's store that stand in one object, and what the calls on them do.
use Rattle.std.specs.Prelude.{◌≡◌, ◌≢◌, ◌≤◌, ℕ, Bool, true, false, List, length, MatchBool, if◌then◌else◌}
use Rattle.gdi_kinds.specs.declared.reply.Reply.{Reply}
use Rattle.gdi_kinds.specs.declared.reply.Reply.TheVariants.{Done, TooLarge}
use Rattle.rma_layout.specs.Shape.{Shape}
use Rattle.rma_layout.specs.Placement.{Place}
use Rattle.object_words.specs.Contents.{Contents, content_of, overlay}
use Rattle.graph_model.specs.Sizes.{most_words, is_too_large}
use Rattle.object_store.specs.State.{StoreState}
use Rattle.object_store.specs.Calls.{WritesObject}
use Rattle.object_store.specs.Works.{Looks}
use Rattle.holder_codec.specs.Knowing.{Wherever}
use Rattle.held_objects.specs.declared.change.Change.{Change}
use Rattle.held_objects.specs.declared.change.Change.TheVariants.{Refused, Made}
use Rattle.held_objects.specs.Knows.{Knows}

-- ---- what an object holds

-- the object has the one spelling of this part, and no more words than an object may have
pub record IsHeldAs {X H : Type 0} (IsHolder : H → Type 0) (words_of : H → List ℕ) (holder_for : X → H) (Fits : X → Type 0)
    (object : Place) (contents : Contents) (x : X) : Type 0 where
  pub fits : Fits x
  pub holder : IsHolder (holder_for x)
  pub words : content_of contents object ≡ words_of (holder_for x)
  pub within : length (content_of contents object) ≤ most_words

-- some such part is there that passes a test
pub record Holds {X : Type 0} (HasPart : Contents → X → Type 0) (passes : X → Bool) (shape : Shape) (contents : Contents) : Type 0 where
  pub part : X
  pub has : HasPart contents part
  pub passed : passes part ≡ true

abbrev pub any : {X : Type 0} → X → Bool
any x = true

-- ---- what a call makes of it

abbrev pub IfMade : {H : Type 0} → (H → Type 0) → Change H → Type 0
IfMade Holds (Refused reply) = Unit {0}
IfMade Holds (Made held) = Holds held

-- the same of what is made
abbrev pub map_made : {X H : Type 0} → (X → H) → Change X → Change H
map_made f (Refused reply) = Refused reply
map_made f (Made x) = Made (f x)

-- what is refused has its reply, and nothing is made that has more words than an object may have
abbrev pub reply_to : {H : Type 0} → (H → ℕ) → Change H → Reply
reply_to size (Refused reply) = reply
reply_to size (Made held) = if is_too_large (size held) then TooLarge else Done

module _ {N : Type 0} where
  -- an object is given what was made, unless it is too large
  abbrev pub SettlesChange : {H : Type 0} → (H → List ℕ) → Place → StoreState N → StoreState N → Change H → Reply → Type 0
  SettlesChange words_of object old new (Refused why) reply = (reply ≡ why) × (new ≡ old)
  SettlesChange words_of object old new (Made held) reply =
      MatchBool (is_too_large (length (words_of held))) ((reply ≡ TooLarge) × (new ≡ old)) ((reply ≡ Done) × WritesObject object (words_of held) old new)

  -- a call that only looks at the part: this is so of it, whatever of the store is unknown
  pub record Tells {X : Type 0} (HasPart : Contents → X → Type 0) (Answer : X → Type 0) (old new : StoreState N) : Type 0 where
    pub looks : Looks old new
    pub answer : Wherever new.reads old.writes HasPart (λ _ part. Answer part)
    pub known : Knows (Holds HasPart any) new
    pub kept : (passes : X → Bool) → Knows (Holds HasPart passes) old → Knows (Holds HasPart passes) new

  -- a call that changes the part, or replies why it doesn't
  pub record Changes {X : Type 0} (HasPart : Contents → X → Type 0) (size : X → ℕ) (change : X → Change X) (old new : StoreState N) (reply : Reply) : Type 0 where
    pub answer : Wherever new.reads old.writes HasPart (λ _ part. reply ≡ reply_to size (change part))
    pub changed : reply ≡ Done → Wherever new.reads old.writes HasPart (λ store part. IfMade (HasPart (overlay store new.writes)) (change part))
    pub unchanged : reply ≢ Done → Looks old new
    pub known : Knows (Holds HasPart any) new
    -- a test that what is made passes too is known to be passed still
    pub kept : (passes : X → Bool) → ((part : X) → passes part ≡ true → IfMade (λ made. passes made ≡ true) (change part))
        → Knows (Holds HasPart passes) old → Knows (Holds HasPart passes) new
