-- A call that does its work by several calls of a store.
use Rattle.std.proofs.Common.{Result, Ok, Err, IfOk, IfErr, OnOk, ◌≡◌, ◌≢◌, ℕ, ◌<◌, Bool, true, false, cond, List, [], ◌∷◌, refl, sym, ap, subst, ◌∙◌, arith, Option, Some, None, inl, inr, IsSome, ◌⊎◌}
use Rattle.std.specs.Option.{unwrap_or}
use Rattle.std.specs.Result.{IsOkAnd}
use Rattle.std.specs.Prelude.{is_some, ◌++◌}
use mathlib.Core.List.{IsPrefix}
use Rattle.std.proofs.lemmas.List.{append_assoc, append-nil}
use Rattle.std.specs.Ordering.{eq_by_cmp}
use Rattle.rma_layout.specs.Shape.{Shape}
use Rattle.rma_layout.specs.Placement.{Place}
use Rattle.object_words.specs.Contents.{Contents, place_cmp, words_at, content_of, with_words, overlay, Agrees, IsByRisingObject}
use Rattle.object_words.specs.Blocks.{made_objects}
use Rattle.object_words.specs.Entries.{Entry, store_after}
use Rattle.object_words.proofs.Places.{words_at-with_words, words_at_here, places_equal, in_order-with_words}
use Rattle.object_words.proofs.Overlays.{content-overlay, put_over}
use Rattle.object_store.specs.declared.phase.Phase.TheVariants.{Writing}
use Rattle.object_store.specs.State.{StoreState, Said, committed, names_nothing, names_object, names_rank}
use Rattle.object_store.specs.Sound.{Continues, IsSound, StaysExplained, KeepsCommits, StaysBegun}
use Rattle.object_store.specs.Calls.{Aborts, MayWrite, ReadsObject, WritesObject, MakesObject, made_so_far}
use Rattle.object_store.specs.Refusals.{RefusesAccess, RefusesFresh}
use Rattle.object_store.specs.Works.{Reaches, RefusesReach}
use Rattle.object_store.proofs.Counting.{written_made, made_elsewhere}

pub explained-then : {S R : Type 0} (explains : S → S → R → Type 0) (old mid new : S)
    → StaysExplained explains old mid → StaysExplained explains mid new → StaysExplained explains old new
explained-then explains old mid new a b = record {
  later = λ first why is. b.later first why (a.later first why is);
  earlier = λ last why is. a.earlier last why (b.earlier last why is);
}

-- words put at an object leave the others
pub put_or_left : (contents : Contents) (object : Place) (words : List ℕ) (other : Place)
    → (other ≡ object) ⊎ (words_at (with_words contents object words) other ≡ words_at contents other)
put_or_left contents object words other = cases (eq_by_cmp place_cmp other object) refl
  where
    cases : (tie : Bool) → eq_by_cmp place_cmp other object ≡ tie → (other ≡ object) ⊎ (words_at (with_words contents object words) other ≡ words_at contents other)
    cases true tie = inl (places_equal other object tie)
    cases false tie = inr (words_at-with_words contents object words other ∙ ap (λ b. cond b (Some words) (words_at contents other)) tie)

prefix-then : {X : Type 0} (xs ys zs : List X) → IsPrefix xs ys → IsPrefix ys zs → IsPrefix xs zs
prefix-then xs ys zs (more, first) (others, later) = (more ++ others, sym (append_assoc xs more others) ∙ (ap (λ l. l ++ others) first ∙ later))

same_rank : (one other : ℕ) → names_rank one ≡ names_rank other → one ≡ other
same_rank one other is = cc is

-- a refusal that names a rank names one on which an object is made
makes_named : {N : Type 0} {old new : StoreState N} {Reached : Place → Type 0} {Makes : ℕ → Type 0} {said : Said} → RefusesReach Reached Makes old new said
    → (rank : ℕ) → said.names ≡ names_rank rank → Makes rank
makes_named {N} {old} {new} {Reached} {Makes} {said} did rank named = cases did.names
  where
    cases : (said.names ≡ names_nothing) ⊎ ((object : Place) × (said.names ≡ names_object object) × (Reached object ⊎ IsSome (words_at old.reads object) ⊎ Makes object.rank))
        ⊎ ((rank : ℕ) × (said.names ≡ names_rank rank) × Makes rank) → Makes rank
    cases (inl nothing) = absurd (cc (named, nothing))
    cases (inr (inl (object, is, why))) = absurd (cc (named, is))
    cases (inr (inr (other, is, makes))) = subst Makes (same_rank other rank (sym is ∙ named)) makes

among : {A B X : Type 0} → (A → B) → A ⊎ X → B ⊎ X
among wider (inl is) = inl (wider is)
among wider (inr is) = inr is

same_or_other : (one other : ℕ) → (one ≡ other) ⊎ (one ≢ other)
same_or_other one other = grind arith

-- of a fact that is told or left
left_or_told : {R X : Type 0} {a b c : X} → R ⊎ (b ≡ a) → R ⊎ (c ≡ b) → R ⊎ (c ≡ a)
left_or_told (inl told) later = inl told
left_or_told (inr left) (inl told) = inl told
left_or_told (inr left) (inr still) = inr (still ∙ left)

clean_premise : {N : Type 0} {old mid : StoreState N} → StaysBegun old mid → IsSome old.most ⊎ (old.phase ≢ Writing) → IsSome mid.most ⊎ (mid.phase ≢ Writing)
clean_premise a (inl told) = inl (subst IsSome (sym a.most) told)
clean_premise a (inr reads) = inr (λ is. reads (sym a.phase ∙ is))

-- what was read before the part that is refused was read before the whole, or is reached
named_before : {R M : Type 0} {before now : Option (List ℕ)} → R ⊎ (now ≡ before) → R ⊎ IsSome now ⊎ M → R ⊎ IsSome before ⊎ M
named_before left (inl reached) = inl reached
named_before (inl reached) (inr (inl read)) = inl reached
named_before (inr same) (inr (inl read)) = inr (inl (subst IsSome same read))
named_before left (inr (inr made)) = inr (inr made)

-- an object that is reached is one of a rank on which one is made
pub refuses-homes : {N : Type 0} {old new : StoreState N} {Reached : Place → Type 0} {Makes : ℕ → Type 0} {said : Said} → ((place : Place) → Reached place → Makes place.rank)
    → RefusesReach Reached Makes old new said → RefusesReach (λ _. ⊥) Makes old new said
refuses-homes {old = old} {Reached = Reached} {Makes = Makes} homes did = record {
  aborted = did.aborted;
  names = elim did.names [
    | inl nothing ↦ inl nothing
    | inr (inl (object, is, why)) ↦ inr (inl (object, is, told object why))
    | inr (inr rank) ↦ inr (inr rank)
  ];
  told = did.told;
  full = did.full;
  passing = did.passing;
}
  where
    told : (object : Place) → Reached object ⊎ IsSome (words_at old.reads object) ⊎ Makes object.rank → ⊥ ⊎ IsSome (words_at old.reads object) ⊎ Makes object.rank
    told object (inl reached) = inr (inr (homes object reached))
    told object (inr other) = inr other

-- ---- nothing done

module _ {N : Type 0} {state : StoreState N} where
  pub stays-same : StaysBegun state state
  stays-same = record {
    shape = refl;
    phase = refl;
    commits = record { own = refl; allowance = refl; seen = λ _. refl };
    most = refl;
    strict = refl;
    tries = refl;
    changes = refl;
    reads = λ _ _ is. is;
  }

  pub continues-same : {fits : Shape → Entry N → Type 0} → IsSound fits state → Continues fits state state
  continues-same sound = record {
    shape = refl;
    base = refl;
    counts_blocks = refl;
    seen = ([], append-nil state.seen);
    changes = ([], append-nil state.changes);
    clean = λ _ clean. clean;
    takes = omega arith;
    lock_free = λ _ _. refl;
    sound = sound;
  }

  pub reaches-same : {Reached : Place → Type 0} {Makes : ℕ → Type 0} → Reaches Reached Makes state state
  reaches-same = record { stays = stays-same; reads = λ _. inr refl; writes = λ _. inr refl; made = λ _ _. inr refl }

-- ---- one part and then another

module _ {N : Type 0} {old mid new : StoreState N} where
  commits-then : KeepsCommits old mid → mid.most ≡ old.most → KeepsCommits mid new → KeepsCommits old new
  commits-then a most b = record {
    own = b.own ∙ a.own;
    allowance = b.allowance ∙ a.allowance;
    seen = λ told. b.seen (subst IsSome (sym most) told) ∙ a.seen told;
  }

  pub stays-then : StaysBegun old mid → StaysBegun mid new → StaysBegun old new
  stays-then a b = record {
    shape = b.shape ∙ a.shape;
    phase = b.phase ∙ a.phase;
    commits = commits-then a.commits a.most b.commits;
    most = b.most ∙ a.most;
    strict = b.strict ∙ a.strict;
    tries = b.tries ∙ a.tries;
    changes = b.changes ∙ a.changes;
    reads = λ object words is. b.reads object words (a.reads object words is);
  }

  pub continues-then : {fits : Shape → Entry N → Type 0} → Continues fits old mid → StaysBegun old mid → Continues fits mid new → Continues fits old new
  continues-then a stays b = record {
    shape = b.shape ∙ a.shape;
    base = b.base ∙ a.base;
    counts_blocks = b.counts_blocks ∙ a.counts_blocks;
    seen = prefix-then old.seen mid.seen new.seen a.seen b.seen;
    changes = prefix-then old.changes mid.changes new.changes a.changes b.changes;
    clean = λ premise is. b.clean (clean_premise stays premise) (a.clean premise is);
    takes = omega (arith, a.takes, b.takes);
    lock_free = λ reading left. b.lock_free (stays.phase ∙ reading) (subst (λ tries. 0 < tries) (sym stays.tries) left) ∙ a.lock_free reading left;
    sound = b.sound;
  }

  pub reaches-then : {Reached : Place → Type 0} {Makes : ℕ → Type 0} → Reaches Reached Makes old mid → Reaches Reached Makes mid new → Reaches Reached Makes old new
  reaches-then a b = record {
    stays = stays-then a.stays b.stays;
    reads = λ object. left_or_told (a.reads object) (b.reads object);
    writes = λ object. left_or_told (a.writes object) (b.writes object);
    made = λ told rank. left_or_told (a.made told rank) (b.made (subst IsSome (sym a.stays.most) told) rank);
  }

  -- no object was made before on a rank on which the part that is refused makes one
  pub refuses-then : {Reached : Place → Type 0} {Earlier Makes : ℕ → Type 0} {said : Said} → ((rank : ℕ) → Makes rank → Earlier rank → ⊥)
      → Reaches Reached Earlier old mid → RefusesReach Reached Makes mid new said → RefusesReach Reached Makes old new said
  refuses-then {Reached} {Earlier} {Makes} {said} apart a b = record {
    aborted = record { commits = commits-then a.stays.commits a.stays.most b.aborted.commits; ended = b.aborted.ended };
    names = elim b.names [
      | inl nothing ↦ inl nothing
      | inr (inl (object, is, why)) ↦ inr (inl (object, is, named_before (a.reads object) why))
      | inr (inr home) ↦ inr (inr home)
    ];
    told = λ told. b.told (subst IsSome (sym a.stays.most) told);
    full = λ most rank told named. before rank (makes_named b rank named) (a.made (ap is_some told) rank) ∙ b.full most rank (a.stays.most ∙ told) named;
    passing = λ passes.
        let lost = b.passing passes in (
          sym a.stays.phase ∙ lost.0,
          record {
            tries = lost.1.tries ∙ a.stays.tries;
            change = lost.1.change;
            changes = lost.1.changes ∙ ap (λ changes. changes ++ lost.1.change ∷ []) a.stays.changes;
          },
        );
  }
    where
      before : (rank : ℕ) → Makes rank → Earlier rank ⊎ (made_so_far mid rank ≡ made_so_far old rank) → made_so_far old rank ≡ made_so_far mid rank
      before rank makes (inl earlier) = absurd (apart rank makes earlier)
      before rank makes (inr same) = sym same

module _ {N : Type 0} {old new : StoreState N} {One Whole : Place → Type 0} {Makes All : ℕ → Type 0}
    (reached : (place : Place) → One place → Whole place) (homes : (rank : ℕ) → Makes rank → All rank) where
  -- what a part reaches is among what the whole does
  pub reaches-wider : Reaches One Makes old new → Reaches Whole All old new
  reaches-wider did = record {
    stays = did.stays;
    reads = λ place. among (reached place) (did.reads place);
    writes = λ place. among (reached place) (did.writes place);
    made = λ told rank. among (homes rank) (did.made told rank);
  }

  pub refuses-wider : {said : Said} → RefusesReach One Makes old new said → RefusesReach Whole All old new said
  refuses-wider did = record {
    aborted = did.aborted;
    names = elim did.names [
      | inl nothing ↦ inl nothing
      | inr (inl (object, is, why)) ↦ inr (inl (
        object,
        is,
        elim why [
          | inl here ↦ inl (reached object here)
          | inr (inl read) ↦ inr (inl read)
          | inr (inr home) ↦ inr (inr (homes object.rank home))
        ],
      ))
      | inr (inr (rank, is, home)) ↦ inr (inr (rank, is, homes rank home))
    ];
    told = λ told. elim (did.told told) [
      | inl none ↦ inl none
      | inr (inl passes) ↦ inr (inl passes)
      | inr (inr (rank, is, home)) ↦ inr (inr (rank, is, homes rank home))
    ];
    full = did.full;
    passing = did.passing;
  }

-- ---- one call of a store

-- the objects made so far are those of these parts
same_made : {N : Type 0} (old new : StoreState N) (writes : Contents) (rank : ℕ) → new.shape ≡ old.shape → new.seen ≡ old.seen → new.writes ≡ writes
    → made_so_far new rank ≡ made_objects old.shape (committed old) writes rank
same_made old new writes rank shape seen is =
    ap (λ sh. made_objects sh (committed new) new.writes rank) shape
    ∙ (ap (λ history. made_objects old.shape (store_after history) new.writes rank) seen
    ∙ ap (λ w. made_objects old.shape (committed old) w rank) is)

module _ {N : Type 0} {old new : StoreState N} where
  pub read_reaches : (object : Place) (words : List ℕ) → ReadsObject object old new words → Reaches (λ place. place ≡ object) (λ _. ⊥) old new
  read_reaches object words did = record {
    stays = did.stays;
    reads = λ place. read_or_left place (is_some (words_at old.writes object)) refl;
    writes = λ place. inr (ap (λ writes. words_at writes place) did.writes);
    made = λ told rank. inr (same_made old new old.writes rank did.stays.shape (did.stays.commits.seen told) did.writes);
  }
    where
      read_or_left : (place : Place) (own : Bool) → is_some (words_at old.writes object) ≡ own → (place ≡ object) ⊎ (words_at new.reads place ≡ words_at old.reads place)
      read_or_left place true own = inr (ap (λ reads. words_at reads place) did.reads ∙ ap (λ b. words_at (cond b old.reads (with_words old.reads object words)) place) own)
      read_or_left place false own =
          elim (put_or_left old.reads object words place) [
            | inl same ↦ inl same
            | inr left ↦ inr (ap (λ reads. words_at reads place) did.reads ∙ (ap (λ b. words_at (cond b old.reads (with_words old.reads object words)) place) own ∙ left))
          ]

  -- an object that may be written was made before, or is none that a transaction makes
  pub write_reaches : {fits : Shape → Entry N → Type 0} (object : Place) (words : List ℕ) → MayWrite old object → Continues fits old new → WritesObject object words old new
      → Reaches (λ place. place ≡ object) (λ _. ⊥) old new
  write_reaches object words may keeps did = record {
    stays = did.stays;
    reads = λ place. inr (ap (λ reads. words_at reads place) did.reads);
    writes = λ place. elim (put_or_left old.writes object words place) [
      | inl same ↦ inl same
      | inr left ↦ inr (ap (λ writes. words_at writes place) did.writes ∙ left)
    ];
    made = λ told rank.
        let seen = did.stays.commits.seen told in
        let agrees = subst (λ (history : List (Entry N)). Agrees old.reads (store_after history)) seen (subst (λ (reads : Contents). Agrees reads (committed new)) did.reads keeps.sound.agrees) in
        inr (same_made old new (with_words old.writes object words) rank did.stays.shape seen did.writes
        ∙ written_made old.shape (committed old) old.writes object words rank old.reads agrees may);
  }

  pub fresh_reaches : (home : ℕ) (object : Place) → MakesObject home old new object → Reaches (λ place. place ≡ object) (λ rank. rank ≡ home) old new
  fresh_reaches home object did = record {
    stays = did.stays;
    reads = λ place. elim (put_or_left old.reads object [] place) [
      | inl same ↦ inl same
      | inr left ↦ inr (ap (λ reads. words_at reads place) did.reads ∙ left)
    ];
    writes = λ place. elim (put_or_left old.writes object [] place) [
      | inl same ↦ inl same
      | inr left ↦ inr (ap (λ writes. words_at writes place) did.writes ∙ left)
    ];
    made = λ told rank. elim (same_or_other rank home) [
      | inl home_is ↦ inl home_is
      | inr other ↦ inr (same_made old new (with_words old.writes object []) rank did.stays.shape (did.stays.commits.seen told) did.writes
          ∙ made_elsewhere old.shape (committed old) old.writes object [] rank (λ same. other (sym same ∙ did.rank)))
    ];
  }

  pub access_refuses : (object : Place) {said : Said} → RefusesAccess object old new said → RefusesReach (λ place. place ≡ object) (λ _. ⊥) old new said
  access_refuses object {said} did = record {
    aborted = did.aborted;
    names = elim did.names [
      | inl nothing ↦ inl nothing
      | inr (inl this) ↦ inr (inl (object, this, inl refl))
      | inr (inr (read, is, was)) ↦ inr (inl (read, is, inr (inl was)))
    ];
    told = λ told. elim (did.told told) [ inl none ↦ inl none | inr passes ↦ inr (inl passes) ];
    full = λ most rank told named. absurd (names_no_rank rank named did.names);
    passing = did.passing;
  }
    where
      names_no_rank : (rank : ℕ) → said.names ≡ names_rank rank
          → (said.names ≡ names_nothing) ⊎ (said.names ≡ names_object object) ⊎ ((read : Place) × (said.names ≡ names_object read) × IsSome (words_at old.reads read)) → ⊥
      names_no_rank rank named (inl nothing) = cc (named, nothing)
      names_no_rank rank named (inr (inl this)) = cc (named, this)
      names_no_rank rank named (inr (inr (read, is, was))) = cc (named, is)

  pub fresh_refuses : (home : ℕ) {said : Said} → RefusesFresh home old new said → RefusesReach (λ _. ⊥) (λ rank. rank ≡ home) old new said
  fresh_refuses home {said} did = record {
    aborted = did.aborted;
    names = elim did.names [
      | inl nothing ↦ inl nothing
      | inr (inl this) ↦ inr (inr (home, this, refl))
      | inr (inr (object, is, on)) ↦ inr (inl (object, is, inr (inr on)))
    ];
    told = λ told. elim (did.told told) [ inl none ↦ inl none | inr this ↦ inr (inr (home, this, refl)) ];
    full = λ most rank told named.
        let here = names_home rank named did.names in
        ap (made_so_far old) here ∙ (did.full most told (named ∙ ap names_rank here) ∙ sym (ap most here));
    passing = λ passes. absurd (cc (passes, did.passing));
  }
    where
      names_home : (rank : ℕ) → said.names ≡ names_rank rank
          → (said.names ≡ names_nothing) ⊎ (said.names ≡ names_rank home) ⊎ ((object : Place) × (said.names ≡ names_object object) × (object.rank ≡ home)) → rank ≡ home
      names_home rank named (inl nothing) = absurd (cc (named, nothing))
      names_home rank named (inr (inl this)) = same_rank rank home (sym named ∙ this)
      names_home rank named (inr (inr (object, is, on))) = absurd (cc (named, is))

  -- of one that gives up for want of memory
  pub gives_up_refuses : (Reached : Place → Type 0) (Makes : ℕ → Type 0) {said : Said} → Aborts old new → said.names ≡ names_nothing → said.for_memory ≡ true → said.passing ≡ false
      → RefusesReach Reached Makes old new said
  gives_up_refuses Reached Makes {said} aborted nothing none lasts = record {
    aborted = aborted;
    names = inl nothing;
    told = λ _. inl none;
    full = λ most rank told named. absurd (cc (named, nothing));
    passing = λ passes. absurd (cc (passes, lasts));
  }

-- words put at one object more
pub content_put : (contents writes : Contents) (object : Place) (words : List ℕ) (other : Place) → IsByRisingObject writes
    → content_of (overlay contents (with_words writes object words)) other ≡ cond (eq_by_cmp place_cmp other object) words (content_of (overlay contents writes) other)
content_put contents writes object words other ordered =
    content-overlay contents (with_words writes object words) other (in_order-with_words writes object words ordered)
    ∙ (ap (λ o. put_over o (content_of contents other)) (words_at-with_words writes object words other)
    ∙ (cases (eq_by_cmp place_cmp other object)
    ∙ ap (cond (eq_by_cmp place_cmp other object) words) (sym (content-overlay contents writes other ordered))))
  where
    cases : (tie : Bool) → put_over (cond tie (Some words) (words_at writes other)) (content_of contents other) ≡ cond tie words (put_over (words_at writes other) (content_of contents other))
    cases true = refl
    cases false = refl

-- what was found in an object stands there in each store that agrees
module _ {N : Type 0} (old new : StoreState N) where
  pub found_words : (object : Place) (words : List ℕ) → IsByRisingObject old.writes → ReadsObject object old new words → (contents : Contents) → Agrees new.reads contents
      → content_of (overlay contents old.writes) object ≡ words
  found_words object words ordered did contents agrees = content-overlay contents old.writes object ordered ∙ own_cases (words_at old.writes object) refl
    where
      own_cases : (own : Option (List ℕ)) → words_at old.writes object ≡ own → put_over own (content_of contents object) ≡ words
      own_cases (Some ws) e = sym (did.found ∙ ap (λ o. unwrap_or o (content_of (committed new) object)) e)
      own_cases None e =
          let reads : new.reads ≡ with_words old.reads object words = did.reads ∙ rw e refl in
          agrees object words (ap (λ contents'. words_at contents' object) reads ∙ words_at_here old.reads object words)

-- what follows from either answer of a call
pub on_ok : {T E A B : Type 0} (result : Result T E) → IfOk result (λ _. A) → (A → B) → OnOk result B
on_ok (Ok x) a f = f a
on_ok (Err x) a f = tt

pub ok_on_ok : {T E A B : Type 0} (result : Result T E) → OnOk result A → (A → B) → OnOk result B
ok_on_ok (Ok x) a f = f a
ok_on_ok (Err x) a f = tt

pub both_on_ok : {T E C : Type 0} (A B : Type 0) (result : Result T E) → OnOk result A → OnOk result B → (A → B → C) → OnOk result C
both_on_ok A B (Ok x) a b f = f a b
both_on_ok A B (Err x) a b f = tt

pub on_err : {T E : Type 0} {A B : E → Type 0} (result : Result T E) → IfErr result A → ((e : E) → A e → B e) → IfErr result B
on_err (Ok x) a f = tt
on_err (Err e) a f = f e a

pub if_ok : {T E : Type 0} {A B : T → Type 0} (result : Result T E) → IfOk result A → ((x : T) → A x → B x) → IfOk result B
if_ok (Ok x) a f = f x a
if_ok (Err e) a f = tt

pub ok_and : {T E C : Type 0} {A B : T → Type 0} (result : Result T E) → IsOkAnd result A → IfOk result B → ((x : T) → A x → B x → C) → C
ok_and (Ok x) a b f = f x a b
ok_and (Err e) a b f = absurd a
