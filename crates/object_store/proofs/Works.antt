-- A call that does its work by several calls: the ends of the parts make one of the whole.
use Rattle.std.proofs.Common.{◌≡◌, Result, Ok, Err, IfOk, IfErr, ℕ, List, ◌∙◌, subst}
use Rattle.rma_layout.specs.Shape.{Shape}
use Rattle.rma_layout.specs.Placement.{Place}
use Rattle.object_words.specs.Entries.{Entry}
use Rattle.object_store.specs.State.{StoreState, Said}
use Rattle.object_store.specs.Sound.{Continues, IsSound, StaysExplained}
use Rattle.object_store.specs.Calls.{MayWrite, ReadsObject, WritesObject, MakesObject}
use Rattle.object_store.specs.Refusals.{RefusesAccess, RefusesFresh}
use Rattle.object_store.specs.Works.{At, Nowhere, On, Looks, Reaches, RefusesReach, Went, Fell, GaveUp, Works}
use Rattle.object_store.proofs.Working.{explained-then, continues-then, continues-same, reaches-same, stays-then, reaches-then, refuses-then, reaches-wider, refuses-wider, refuses-homes, read_reaches, write_reaches, fresh_reaches, access_refuses, fresh_refuses, gives_up_refuses}

pub looks-then : {N : Type 0} {old mid new : StoreState N} → Looks old mid → Looks mid new → Looks old new
looks-then a b = record { stays = stays-then a.stays b.stays; writes = b.writes ∙ a.writes }

pub read_looks : {N : Type 0} {old new : StoreState N} {object : Place} {words : List ℕ} → ReadsObject object old new words → Looks old new
read_looks did = record { stays = did.stays; writes = did.writes }

module _ {N S E : Type 0} {fits : Shape → Entry N → Type 0} {state : S → StoreState N} {explains : S → S → E → Type 0} {Reached : Shape → Place → Type 0} where
  module _ {Makes : Shape → ℕ → Type 0} where
    pub went-then : {old mid new : S} → Went fits state explains Reached Makes old mid → Went fits state explains Reached Makes mid new → Went fits state explains Reached Makes old new
    went-then {old} {mid} {new} a b = record {
      keeps = continues-then a.keeps a.reaches.stays b.keeps;
      reaches = reaches-then a.reaches (subst (λ (shape : Shape). Reaches (Reached shape) (Makes shape) (state mid) (state new)) a.keeps.shape b.reaches);
      explained_still = explained-then explains old mid new a.explained_still b.explained_still;
    }

  module _ {says : E → Said} where
    fell_later : {Earlier Makes : Shape → ℕ → Type 0} {old mid new : S} {why : E} → ((rank : ℕ) → Makes (state old).shape rank → Earlier (state old).shape rank → ⊥)
        → Went fits state explains Reached Earlier old mid → Fell fits state explains says Reached Makes mid new why → Fell fits state explains says Reached Makes old new why
    fell_later {Earlier} {Makes} {old} {mid} {new} {why} apart a b = record {
      keeps = continues-then a.keeps a.reaches.stays b.keeps;
      refused = refuses-then apart a.reaches (subst (λ (shape : Shape). RefusesReach (Reached shape) (Makes shape) (state mid) (state new) (says why)) a.keeps.shape b.refused);
      explained = a.explained_still.earlier new why b.explained;
      explained_still = explained-then explains old mid new a.explained_still b.explained_still;
    }

    module _ {Makes : Shape → ℕ → Type 0} where
      pub fell_wider : {One : Shape → Place → Type 0} {Homes : Shape → ℕ → Type 0} {old new : S} {why : E}
          → ((place : Place) → Reached (state old).shape place → One (state old).shape place) → ((rank : ℕ) → Makes (state old).shape rank → Homes (state old).shape rank)
          → Fell fits state explains says Reached Makes old new why → Fell fits state explains says One Homes old new why
      fell_wider wider homes fell = record { keeps = fell.keeps; refused = refuses-wider wider homes fell.refused; explained = fell.explained; explained_still = fell.explained_still }

      -- an object that was made is one of a rank on which one is made
      pub fell_homes : {old new : S} {why : E} → ((place : Place) → Reached (state old).shape place → Makes (state old).shape place.rank)
          → Fell fits state explains says Reached Makes old new why → Fell fits state explains says (λ _ _. ⊥) Makes old new why
      fell_homes homes fell = record { keeps = fell.keeps; refused = refuses-homes homes fell.refused; explained = fell.explained; explained_still = fell.explained_still }

      -- of a part that made no object, and one that may make some
      pub went-fell : {old mid new : S} {why : E} → Went fits state explains Reached Nowhere old mid → Fell fits state explains says Reached Makes mid new why → Fell fits state explains says Reached Makes old new why
      went-fell = fell_later (λ rank makes never. never)

      pub gave_up-fell : {old new : S} {why : E} → GaveUp fits state explains says old new why → Fell fits state explains says Reached Makes old new why
      gave_up-fell {old} gave = record {
        keeps = gave.keeps;
        refused = gives_up_refuses (Reached (state old).shape) (Makes (state old).shape) gave.aborted gave.nothing gave.memory gave.lasting;
        explained = gave.explained;
        explained_still = gave.explained_still;
      }

    module _ {Makes : Shape → ℕ → Type 0} where
      -- of a part that may have made objects, and one that makes none
      pub made-fell : {old mid new : S} {why : E} → Went fits state explains Reached Makes old mid → Fell fits state explains says Reached Nowhere mid new why → Fell fits state explains says Reached Makes old new why
      made-fell a b = fell_wider (λ place is. is) (λ rank never. absurd never) (fell_later (λ rank never makes. never) a b)

    pub went-gave_up : {old mid new : S} {why : E} → Went fits state explains Reached Nowhere old mid → GaveUp fits state explains says mid new why → Fell fits state explains says Reached Nowhere old new why
    went-gave_up a b = went-fell a (gave_up-fell b)

    pub went-works : {T : Type 0} {old mid new : S} (result : Result T E) → Went fits state explains Reached Nowhere old mid
        → Works fits state explains says Reached Nowhere mid new result → Works fits state explains says Reached Nowhere old new result
    went-works (Ok x) a b = record { went = went-then a b.went; fell = tt }
    went-works (Err why) a b = record { went = tt; fell = went-fell a b.fell }

-- what a part reaches is among what the whole does
module _ {N S E : Type 0} {fits : Shape → Entry N → Type 0} {state : S → StoreState N} {explains : S → S → E → Type 0} {One Whole : Shape → Place → Type 0} {Makes Homes : Shape → ℕ → Type 0} where
  pub went_wider : {old new : S} → ((place : Place) → One (state old).shape place → Whole (state old).shape place) → ((rank : ℕ) → Makes (state old).shape rank → Homes (state old).shape rank)
      → Went fits state explains One Makes old new → Went fits state explains Whole Homes old new
  went_wider wider homes went = record { keeps = went.keeps; reaches = reaches-wider wider homes went.reaches; explained_still = went.explained_still }

  pub works_wider : {says : E → Said} {T : Type 0} {old new : S} (result : Result T E) → ((place : Place) → One (state old).shape place → Whole (state old).shape place)
      → ((rank : ℕ) → Makes (state old).shape rank → Homes (state old).shape rank)
      → Works fits state explains says One Makes old new result → Works fits state explains says Whole Homes old new result
  works_wider (Ok x) wider homes works = record { went = went_wider wider homes works.went; fell = tt }
  works_wider (Err why) wider homes works = record { went = tt; fell = fell_wider wider homes works.fell }

-- ---- one call of a store

module _ {N S E : Type 0} {fits : Shape → Entry N → Type 0} {state : S → StoreState N} {explains : S → S → E → Type 0} where
  pub read_went : {old new : S} {object : Place} {words : List ℕ} → Continues fits (state old) (state new) → ReadsObject object (state old) (state new) words → StaysExplained explains old new
      → Went fits state explains (At object) Nowhere old new
  read_went {old} {new} {object} {words} keeps did still = record { keeps = keeps; reaches = read_reaches object words did; explained_still = still }

  pub fresh_went : {old new : S} {home : ℕ} {object : Place} → Continues fits (state old) (state new) → MakesObject home (state old) (state new) object → StaysExplained explains old new
      → Went fits state explains (At object) (On home) old new
  fresh_went {old} {new} {home} {object} keeps did still = record { keeps = keeps; reaches = fresh_reaches home object did; explained_still = still }

  -- nothing was done
  pub same_went : {Reached : Shape → Place → Type 0} {Makes : Shape → ℕ → Type 0} {old new : S} → state new ≡ state old → IsSound fits (state new) → StaysExplained explains old new
      → Went fits state explains Reached Makes old new
  same_went {Reached} {Makes} {old} {new} same sound still = record {
    keeps = subst (λ (before : StoreState N). Continues fits before (state new)) same (continues-same sound);
    reaches = subst (λ (before : StoreState N). Reaches (Reached before.shape) (Makes before.shape) before (state new)) same reaches-same;
    explained_still = still;
  }

  module _ {says : E → Said} where
    pub access_fell : {old new : S} {object : Place} {why : E} → Continues fits (state old) (state new) → RefusesAccess object (state old) (state new) (says why)
        → explains old new why → StaysExplained explains old new → Fell fits state explains says (At object) Nowhere old new why
    access_fell {old} {new} {object} keeps did explained still = record { keeps = keeps; refused = access_refuses object did; explained = explained; explained_still = still }

    pub fresh_fell : {old new : S} {home : ℕ} {why : E} → Continues fits (state old) (state new) → RefusesFresh home (state old) (state new) (says why)
        → explains old new why → StaysExplained explains old new → Fell fits state explains says (λ _ _. ⊥) (On home) old new why
    fresh_fell {old} {new} {home} keeps did explained still = record { keeps = keeps; refused = fresh_refuses home did; explained = explained; explained_still = still }

    pub write_works : {T : Type 0} {old new : S} {object : Place} (words : List ℕ) (result : Result T E) → MayWrite (state old) object → Continues fits (state old) (state new)
        → IfOk result (λ _. WritesObject object words (state old) (state new)) → IfErr result (λ why. RefusesAccess object (state old) (state new) (says why))
        → IfErr result (λ why. explains old new why) → StaysExplained explains old new
        → Works fits state explains says (At object) Nowhere old new result
    write_works {old = old} {new = new} {object = object} words (Ok x) may keeps did _ _ still = record { went = record { keeps = keeps; reaches = write_reaches object words may keeps did; explained_still = still }; fell = tt }
    write_works words (Err why) may keeps _ refused explained still = record { went = tt; fell = access_fell keeps refused explained still }
