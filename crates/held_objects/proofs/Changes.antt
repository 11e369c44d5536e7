-- What a call makes of a part that stands in one object.
use Rattle.std.proofs.Common.{Result, Ok, Err, IfOk, ◌≡◌, ◌≢◌, ◌∙◌, ◌≤◌, ℕ, Bool, true, false, cond, List, [], length, refl, sym, ap, subst, ◌⊎◌, inl, inr, arith}
use Rattle.std.specs.Bool.{MatchBool}
use Rattle.std.specs.Result.{IsOkAnd}
use Rattle.std.proofs.lemmas.Bool.Decides.{nat_tests}
use Rattle.gdi_kinds.specs.declared.reply.Reply.{Reply}
use Rattle.gdi_kinds.specs.declared.reply.Reply.TheVariants.{Done, TooLarge}
use Rattle.rma_layout.specs.Shape.{Shape}
use Rattle.rma_layout.specs.Placement.{Place}
use Rattle.object_words.specs.Contents.{Contents, Agrees, IsByRisingObject, content_of, overlay, with_words}
use Rattle.object_words.proofs.Places.{in_order-with_words, place_ties_itself}
use Rattle.graph_model.specs.Sizes.{most_words, is_too_large}
use Rattle.object_store.specs.State.{StoreState, committed}
use Rattle.object_store.specs.Calls.{WritesObject, MayWrite}
use Rattle.object_store.specs.Works.{Looks}
use Rattle.object_store.proofs.Working.{content_put, stays-then}
use Rattle.held_objects.specs.declared.change.Change.{Change}
use Rattle.held_objects.specs.declared.change.Change.TheVariants.{Refused, Made}
use Rattle.held_objects.specs.Knows.{Knows, LooksAt}
use Rattle.held_objects.specs.Held.{IsSpelled, FindsHolder}
use Rattle.held_objects.specs.Changes.{IsHeldAs, Holds, any, IfMade, map_made, reply_to, SettlesChange, Tells, Changes}
use Rattle.held_objects.proofs.Knows.{before, knows_after, still}

-- an object that was read and isn't empty may be written
pub may_write : {N H : Type 0} {IsHolder : H → Type 0} {words_of : H → List ℕ} {object : Place} {old new : StoreState N} {held : H}
    → words_of held ≢ [] → FindsHolder IsHolder words_of object old new held → MayWrite new object
may_write some read =
    elim read.there [
      | inl own ↦ inr (inl own)
      | inr here ↦ inr (inr (λ empty. some (sym here ∙ empty)))
    ]

-- a part that is known to be there is known to be spelled
pub spelled_part : {N X H : Type 0} {IsHolder : H → Type 0} {words_of : H → List ℕ} {holder_for : X → H} {Fits : X → Type 0} {object : Place} {passes : X → Bool} {state : StoreState N}
    → Knows (Holds (IsHeldAs IsHolder words_of holder_for Fits object) passes) state → Knows (IsSpelled IsHolder words_of object) state
spelled_part {holder_for = holder_for} knows = record {
  always = λ store may.
      let is = knows.always store may in
      record { held = holder_for is.part; is = is.has.holder; words = is.has.words };
  ordered = knows.ordered;
}

-- some part is there that passes a test, so some part is there
pub holds_any : {N X : Type 0} {HasPart : Contents → X → Type 0} {passes : X → Bool} {state : StoreState N} → Knows (Holds HasPart passes) state → Knows (Holds HasPart any) state
holds_any knows = record {
  always = λ store may.
      let is = knows.always store may in
      record { part = is.part; has = is.has; passed = refl };
  ordered = knows.ordered;
}

-- what is said of the part is kept while the object isn't reached
pub part_looks_at : {X H : Type 0} {IsHolder : H → Type 0} {words_of : H → List ℕ} {holder_for : X → H} {Fits : X → Type 0} {object : Place} (passes : X → Bool)
    → LooksAt (λ _ place. place ≡ object) (Holds (IsHeldAs IsHolder words_of holder_for Fits object) passes)
part_looks_at {object = object} passes shape one other same is = record {
  part = is.part;
  has = record {
    fits = is.has.fits;
    holder = is.has.holder;
    words = sym (same object refl) ∙ is.has.words;
    within = subst (λ (ws : List ℕ). length ws ≤ most_words) (same object refl) is.has.within;
  };
  passed = is.passed;
}

is_done : (n : ℕ) → (Done ≡ TooLarge) → ⊥
is_done n same = cc

reply-map : {X H : Type 0} (size : H → ℕ) (f : X → H) (change : Change X) → reply_to size (map_made f change) ≡ reply_to (λ x. size (f x)) change
reply-map size f (Refused reply) = refl
reply-map size f (Made x) = refl

few : (n : ℕ) → is_too_large n ≡ false → n ≤ most_words
few n is = grind (arith, nat_tests)

module _ {N H : Type 0} (words_of : H → List ℕ) (object : Place) (mid new : StoreState N) (reply : Reply) where
  replied : (made : Change H) → SettlesChange words_of object mid new made reply → reply ≡ reply_to (λ h. length (words_of h)) made
  replied (Refused why) did = did.0
  replied (Made held) did =
      elim (is_too_large (length (words_of held))) as (λ b. MatchBool b ((reply ≡ TooLarge) × (new ≡ mid)) ((reply ≡ Done) × WritesObject object (words_of held) mid new) → reply ≡ cond b TooLarge Done) [
        | true ↦ λ left. left.0
        | false ↦ λ wrote. wrote.0
      ] did

  left_or_wrote : (made : Change H) → SettlesChange words_of object mid new made reply
      → ((new ≡ mid) × IfMade (λ _. reply ≢ Done) made)
      ⊎ ((held : H) × (made ≡ Made held) × (is_too_large (length (words_of held)) ≡ false) × WritesObject object (words_of held) mid new)
  left_or_wrote (Refused why) did = inl (did.1, tt)
  left_or_wrote (Made held) did = cases (is_too_large (length (words_of held))) refl did
    where
      cases : (b : Bool) → is_too_large (length (words_of held)) ≡ b → MatchBool b ((reply ≡ TooLarge) × (new ≡ mid)) ((reply ≡ Done) × WritesObject object (words_of held) mid new)
          → ((new ≡ mid) × IfMade (λ _. reply ≢ Done) (Made held))
          ⊎ ((one : H) × (Made held ≡ Made one) × (is_too_large (length (words_of one)) ≡ false) × WritesObject object (words_of one) mid new)
      cases true e left = inl (left.1, λ done. is_done 0 (sym done ∙ left.0))
      cases false e wrote = inr (held, refl, e, wrote.1)

-- what is known of an object that was just written
pub wrote_known : {N : Type 0} {object : Place} {words : List ℕ} {mid new : StoreState N} → IsByRisingObject mid.writes → WritesObject object words mid new
    → Knows (λ _ contents. content_of contents object ≡ words) new
wrote_known {N} {object} {words} {mid} {new} ordered wrote =
    knows_after wrote.stays (subst IsByRisingObject (sym wrote.writes) (in_order-with_words mid.writes object words ordered)) (λ store _ _.
    ap (λ (w : Contents). content_of (overlay store w) object) wrote.writes
    ∙ (content_put store mid.writes object words object ordered
    ∙ ap (λ b. cond b words (content_of (overlay store mid.writes) object)) (place_ties_itself object)))

always_any : {X : Type 0} (change : Change X) → IfMade (λ one. any one ≡ true) change
always_any (Refused why) = tt
always_any (Made y) = refl

not_done : {X H : Type 0} (f : X → H) (reply : Reply) (P : X → Type 0) (change : Change X) → reply ≡ Done → IfMade (λ _. reply ≢ Done) (map_made f change) → IfMade P change
not_done f reply P (Refused why) done left = tt
not_done f reply P (Made y) done left = absurd (left done)

module _ {N X H : Type 0} {IsHolder : H → Type 0} {words_of : H → List ℕ} (holder_for : X → H) (Fits : X → Type 0) {object : Place} {old mid : StoreState N} {held : H}
    (same : (one other : H) → IsHolder one → IsHolder other → words_of one ≡ words_of other → one ≡ other) (read : FindsHolder IsHolder words_of object old mid held) where
  abbrev Part : Contents → X → Type 0
  Part = IsHeldAs IsHolder words_of holder_for Fits object

  -- what was read is the holder of whatever part is there
  is_part : (store : Contents) (x : X) → Agrees mid.reads store → Part (overlay store old.writes) x → held ≡ holder_for x
  is_part store x agrees has = same held (holder_for x) read.is has.holder (sym (read.words store agrees) ∙ has.words)

  -- what was read is some part that is known to be there
  pub read_part : {passes : X → Bool} → Knows (Holds Part passes) old
      → (x : X) × Fits x × (held ≡ holder_for x) × (passes x ≡ true) × (length (words_of held) ≤ most_words)
  read_part knows =
      let is = knows.always (committed mid) (before read.looks.stays (committed mid) read.stands) in (
        is.part,
        is.has.fits,
        is_part (committed mid) is.part read.stands.agrees is.has,
        is.passed,
        subst (λ (ws : List ℕ). length ws ≤ most_words) (read.words (committed mid) read.stands.agrees) is.has.within,
      )

  -- what is so of every part that what was read is of, is known
  pub read_such : (passes : X → Bool) → Knows (Holds Part any) old → ((x : X) → Fits x → held ≡ holder_for x → passes x ≡ true) → Knows (Holds Part passes) mid
  read_such passes known such = record {
    always = λ store may.
        let is = known.always store (before read.looks.stays store may) in
        record {
          part = is.part;
          has = subst (λ (w : Contents). Part (overlay store w) is.part) (sym read.looks.writes) is.has;
          passed = such is.part is.has.fits (is_part store is.part may.agrees is.has);
        };
    ordered = subst IsByRisingObject (sym read.looks.writes) known.ordered;
  }

  pub tells : {Answer : X → Type 0} → Knows (Holds Part any) old → ((x : X) → Fits x → held ≡ holder_for x → Answer x) → Tells Part Answer old mid
  tells known answer = record {
    looks = read.looks;
    answer = λ store x agrees has. answer x has.fits (is_part store x agrees has);
    known = still read.looks known;
    kept = λ passes. still read.looks;
  }

  module _ (change : X → Change X) {made : Change H} (pure : (x : X) → Fits x → held ≡ holder_for x → (made ≡ map_made holder_for (change x)) × IfMade Fits (change x)) (is : IfMade IsHolder made) {new : StoreState N} where
    -- where it is left
    module _ (left : new ≡ mid) where
      looks_on : Looks old new
      looks_on = subst (Looks old) (sym left) read.looks

    -- where something was written
    module _ (after : H) (is_made : made ≡ Made after) (small : is_too_large (length (words_of after)) ≡ false) (wrote : WritesObject object (words_of after) mid new) where
      writes_are : new.writes ≡ with_words old.writes object (words_of after)
      writes_are = wrote.writes ∙ ap (λ (w : Contents). with_words w object (words_of after)) read.looks.writes

      ordered : IsByRisingObject new.writes
      ordered = subst IsByRisingObject (sym writes_are) (in_order-with_words old.writes object (words_of after) read.in_order)

      agreed : (store : Contents) → Agrees new.reads store → Agrees mid.reads store
      agreed store agrees = subst (λ (reads : Contents). Agrees reads store) wrote.reads agrees

      now_here : (store : Contents) → content_of (overlay store new.writes) object ≡ words_of after
      now_here store =
          ap (λ (w : Contents). content_of (overlay store w) object) writes_are
          ∙ (content_put store old.writes object (words_of after) object read.in_order
          ∙ ap (λ b. cond b (words_of after) (content_of (overlay store old.writes) object)) (place_ties_itself object))

      part_of : (store : Contents) (c : Change X) → Made after ≡ map_made holder_for c → IfMade Fits c → IfMade (Part (overlay store new.writes)) c
      part_of store (Refused why) e fits = tt
      part_of store (Made y) e fits =
          let it : after ≡ holder_for y = cc in
          record {
            fits = fits;
            holder = subst IsHolder it (subst (IfMade IsHolder) is_made is);
            words = now_here store ∙ ap words_of it;
            within = subst (λ (ws : List ℕ). length ws ≤ most_words) (sym (now_here store)) (few (length (words_of after)) small);
          }

      part_after : (store : Contents) (x : X) → Agrees mid.reads store → Part (overlay store old.writes) x → IfMade (Part (overlay store new.writes)) (change x)
      part_after store x agrees has =
          let did = pure x has.fits (is_part store x agrees has) in
          part_of store (change x) (sym is_made ∙ did.0) did.1

      -- something is made of each part
      held_after : (passes : X → Bool) (store : Contents) (c : Change X) → Made after ≡ map_made holder_for c → IfMade (Part (overlay store new.writes)) c → IfMade (λ one. passes one ≡ true) c
          → Holds Part passes old.shape (overlay store new.writes)
      held_after passes store (Refused why) e has pass = absurd cc
      held_after passes store (Made y) e has pass = record { part = y; has = has; passed = pass }

      kept_after : (passes : X → Bool) → ((x : X) → passes x ≡ true → IfMade (λ one. passes one ≡ true) (change x)) → Knows (Holds Part passes) old → Knows (Holds Part passes) new
      kept_after passes keeps knows =
          knows_after (stays-then read.looks.stays wrote.stays) ordered (λ store may agrees.
          let was = knows.always store may in
          let did = pure was.part was.has.fits (is_part store was.part (agreed store agrees) was.has) in
          held_after passes store (change was.part) (sym is_made ∙ did.0) (part_after store was.part (agreed store agrees) was.has) (keeps was.part was.passed))

    pub changes : {reply : Reply} → Knows (Holds Part any) old → SettlesChange words_of object mid new made reply → Changes Part (λ x. length (words_of (holder_for x))) change old new reply
    changes {reply} known did = elim (left_or_wrote words_of object mid new reply made did) [
      | inl left ↦ record {
        answer = λ store x agrees has. answered store x (subst (λ (s : StoreState N). Agrees s.reads store) left.0 agrees) has;
        changed = λ done store x agrees has.
            not_done holder_for reply (Part (overlay store new.writes)) (change x) done (subst (IfMade (λ _. reply ≢ Done)) (pure x has.fits (is_part store x (subst (λ (s : StoreState N). Agrees s.reads store) left.0 agrees) has)).0 left.1);
        unchanged = λ _. looks_on left.0;
        known = still (looks_on left.0) known;
        kept = λ passes _. still (looks_on left.0);
      }
      | inr wrote ↦ record {
        answer = λ store x agrees has. answered store x (agreed wrote.0 wrote.1 wrote.2 wrote.3 store agrees) has;
        changed = λ _ store x agrees has. part_after wrote.0 wrote.1 wrote.2 wrote.3 store x (agreed wrote.0 wrote.1 wrote.2 wrote.3 store agrees) has;
        unchanged = λ other. absurd (other (replied words_of object mid new reply made did ∙ (ap (reply_to (λ h. length (words_of h))) wrote.1 ∙ ap (λ b. cond b TooLarge Done) wrote.2)));
        known = kept_after wrote.0 wrote.1 wrote.2 wrote.3 any (λ x _. always_any (change x)) known;
        kept = kept_after wrote.0 wrote.1 wrote.2 wrote.3;
      }
    ]
      where
        answered : (store : Contents) (x : X) → Agrees mid.reads store → Part (overlay store old.writes) x → reply ≡ reply_to (λ x. length (words_of (holder_for x))) (change x)
        answered store x agrees has =
            replied words_of object mid new reply made did ∙ (ap (reply_to (λ h. length (words_of h))) (pure x has.fits (is_part store x agrees has)).0 ∙ reply-map (λ h. length (words_of h)) holder_for (change x))

  -- the same of what the parts of a call answer: what was made, and what became of it
  pub changes_ok : {E F : Type 0} (change : X → Change X) (IsMade : Change H → Type 0) (result : Result Reply E) (made : Result (Change H) F) (new : StoreState N)
      → ((one : Change H) → IsMade one → (x : X) → Fits x → held ≡ holder_for x → (one ≡ map_made holder_for (change x)) × IfMade Fits (change x))
      → Knows (Holds Part any) old → IfOk made IsMade → IfOk made (IfMade IsHolder) → IfOk result (λ reply. IsOkAnd made (λ one. SettlesChange words_of object mid new one reply))
      → IfOk result (λ reply. Changes Part (λ x. length (words_of (holder_for x))) change old new reply)
  changes_ok change IsMade (Err why) made new pure known is fits did = tt
  changes_ok change IsMade (Ok reply) (Ok one) new pure known is fits did = changes change (pure one is) fits known did
  changes_ok change IsMade (Ok reply) (Err none) new pure known is fits did = absurd did

-- where the part is what the object holds
pub map_made-same : {X : Type 0} (change : Change X) → map_made (λ x. x) change ≡ change
map_made-same (Refused reply) = refl
map_made-same (Made x) = refl

pub if_made-any : {X : Type 0} (change : Change X) → IfMade (λ _. Unit {0}) change
if_made-any (Refused reply) = tt
if_made-any (Made x) = tt
