-- Each step but a commit is followed by the view that it makes.
use Rattle.std.proofs.Common.{◌≡◌, ℕ, ◌==◌, cond, Option, Some, None, ◌+◌, ◌/◌, ◌%◌, ◌^◌, ◌≤◌, ◌⊎◌, inl, inr, List, [], ◌∷◌, ◌++◌, append-nil, append_assoc, refl, sym, ap, ◌∙◌, subst, arith}
use Rattle.std.proofs.lemmas.Bool.{cases_eq, cases_Bool}
use mathlib.Core.List.{IsPrefix}
use Rattle.lock_words.specs.Conflicts.{Conflicts}
use Rattle.lock_words.specs.declared.want.Want.{Want}
use Rattle.lock_words.specs.declared.want.Want.TheVariants.{Share, Mark, Rise, Writer, Whole}
use Rattle.object_words.specs.Entries.{Entry}
use Rattle.rma_layout.specs.declared.word.Word.{Word}
use Rattle.rma_layout.specs.Shape.{Shape}
use Rattle.rma_layout.specs.Placement.{Place}
use Rattle.object_words.specs.Blocks.{on_rank}
use Rattle.window_rule.specs.View.{View, OwnBlock, HeadNote, Target, OfObject, OfGate, Refusal, Miss, Look}
use Rattle.window_rule.specs.Objects.{first_of}
use Rattle.window_rule.specs.Spares.{SpareEnds, HasSpares, IsNoSpare}
use Rattle.window_rule.specs.Steps.{Tries, Shares, Marks, Rises}
use Rattle.window_rule.specs.Gate.{EntersAsWriter, EntersAsWhole}
use Rattle.window_rule.specs.Lengths.{Measures, measured, Places, placed}
use Rattle.window_rule.specs.Permits.{Permits}
use Rattle.window_rule.specs.Partition.{places_of}
use Rattle.window_rule.specs.RoomHolds.{count_on}
use Rattle.window_rule.specs.Pool.{Exchanges, Heads, Nexts, Pops, linked, Pushes, missed, nexted, note_of, noted_next, popped, pushed}
use Rattle.window_rule.specs.Attach.{AttachesAll, MayAttachSome, SparesAreLeft}
use Rattle.window_rule.specs.Trails.{Trail, trail_of, GoesOn, Follows, SparesStay, KeepsSpares}
use Rattle.window_rule.proofs.KeptSpares.{spares_popped, spares_linked, spares_pushed, spares_attached}

pub prefix-refl : {X : Type 0} (xs : List X) → IsPrefix xs xs
prefix-refl xs = ([], append-nil xs)

pub prefix-trans : {X : Type 0} (xs ys zs : List X) → IsPrefix xs ys → IsPrefix ys zs
    → IsPrefix xs zs
prefix-trans xs ys zs one two =
    (one.0 ++ two.0, sym (append_assoc xs one.0 two.0) ∙ (ap (λ l. l ++ two.0) one.1 ∙ two.1))

prefix-push : {X : Type 0} (xs : List X) (x : X) → IsPrefix xs (xs ++ x ∷ [])
prefix-push xs x = (x ∷ [], refl)

pub goes_on-refl : {N : Type 0} (one : Trail N) → GoesOn one one
goes_on-refl one = record {
  rights = refl;
  allowance = refl;
  own = refl;
  seen = prefix-refl one.seen;
  refusals = prefix-refl one.refusals;
  misses = prefix-refl one.misses;
  looks = prefix-refl one.looks;
  takes = omega arith;
}

pub goes_on-trans : {N : Type 0} (one two three : Trail N) → GoesOn one two → GoesOn two three
    → GoesOn one three
goes_on-trans one two three first next = record {
  rights = next.rights ∙ first.rights;
  allowance = next.allowance ∙ first.allowance;
  own = next.own ∙ first.own;
  seen = prefix-trans one.seen two.seen three.seen first.seen next.seen;
  refusals = prefix-trans one.refusals two.refusals three.refusals first.refusals next.refusals;
  misses = prefix-trans one.misses two.misses three.misses first.misses next.misses;
  looks = prefix-trans one.looks two.looks three.looks first.looks next.looks;
  takes = omega (arith, first.takes, next.takes);
}

-- the view goes on, and whatever spares a rank has stay
abbrev pub Continues : {N : Type 0} → View N → View N → Type 0
Continues before after = Follows before after
    × KeepsSpares before after

-- the trail of a view, and its own blocks
pub record Course (N : Type 0) : Type 0 where
  pub trail : Trail N
  pub own : List OwnBlock

abbrev pub course_of : {N : Type 0} → View N → Course N
course_of view = record { trail = trail_of view; own = view.private }

-- a view of which nothing that its trail has was changed
pub follows_same : {N : Type 0} (before after new : View N) → after ≡ new
    → trail_of new ≡ trail_of before → Follows before after
follows_same before after new is same =
    subst (λ v. Follows before v) (sym is)
    (subst (GoesOn (trail_of before)) (sym same) (goes_on-refl (trail_of before)))

-- nor its own blocks
pub stays : {N : Type 0} (before after new : View N) → after ≡ new
    → course_of new ≡ course_of before → Continues before after
stays {N} before after new is same = (
  follows_same before after new is (ap (λ (c : Course N). c.trail) same),
  λ shape ends. subst (λ own. HasSpares shape before.private ends → HasSpares shape own ends)
      (sym (ap (λ (v : View N). v.private) is ∙ ap (λ (c : Course N). c.own) same)) (λ h. h),
)

-- all that may grow does
pub grown_on : {N : Type 0} (one : Trail N) (seen : List (Entry N)) (refusals : List Refusal)
    (misses : List Miss) (looks : List Look) (takes : ℕ)
    → IsPrefix one.seen seen → IsPrefix one.refusals refusals → IsPrefix one.misses misses
    → IsPrefix one.looks looks → one.takes ≤ takes
    → GoesOn one (record one {
      seen = seen;
      refusals = refusals;
      misses = misses;
      looks = looks;
      takes = takes;
    })
grown_on one seen refusals misses looks takes s r m l t =
    record {
      rights = refl;
      allowance = refl;
      own = refl;
      seen = s;
      refusals = r;
      misses = m;
      looks = l;
      takes = t;
    }

module _ {N : Type 0} (before : View N) where
  -- one more try
  pub tried_on : GoesOn (trail_of before) (record (trail_of before) { takes = before.takes + 1 })
  tried_on =
      grown_on (trail_of before) before.seen before.refusals before.misses before.looks
      (before.takes + 1)
      (prefix-refl before.seen) (prefix-refl before.refusals) (prefix-refl before.misses)
      (prefix-refl before.looks) (omega arith)

  -- one more refusal
  pub refused_on : (target : Target) (want : Want) (word takes : ℕ) → before.takes ≤ takes
      → GoesOn (trail_of before) (record (trail_of before) {
        refusals = before.refusals ++ record { target = target; want = want; word = word } ∷ [];
        takes = takes;
      })
  refused_on target want word takes more =
      grown_on (trail_of before) before.seen
      (before.refusals ++ record { target = target; want = want; word = word } ∷ [])
      before.misses before.looks takes
      (prefix-refl before.seen)
      (prefix-push before.refusals (record { target = target; want = want; word = word }))
      (prefix-refl before.misses) (prefix-refl before.looks) more

conflicts_or_not : (want : Want) (word : ℕ) → Conflicts want word ⊎ ¬ Conflicts want word
conflicts_or_not Share word = elim (cases_eq ((word / 2 ^ 32) % 2) 1)
    [ inl e ↦ inl e | inr ne ↦ inr ne ]
conflicts_or_not Mark word = elim (cases_eq word 0) [ inl e ↦ inr (λ ne. ne e) | inr ne ↦ inl ne ]
conflicts_or_not Rise word = elim (cases_eq word 1) [ inl e ↦ inr (λ ne. ne e) | inr ne ↦ inl ne ]
conflicts_or_not Writer word = elim (cases_eq (word / 2 ^ 32) 0)
    [ inl e ↦ inr (λ ne. ne e) | inr ne ↦ inl ne ]
conflicts_or_not Whole word = elim (cases_eq (word % 2 ^ 32) 0)
    [ inl e ↦ inr (λ ne. ne e) | inr ne ↦ inl ne ]

-- whether it had what it wanted or was refused
pub tries_on : {N : Type 0} (shape : Shape) (want : Want) (before : View N) (found : ℕ)
    (after granted refusal : View N) → Tries shape want before found after granted refusal
    → Continues before granted → Continues before refusal → Continues before after
tries_on shape want before found after granted refusal told yes_follows no_follows =
    elim (conflicts_or_not want found) [
      | inl conflict ↦ subst (λ v. Continues before v) (sym (told.failed conflict)) no_follows
      | inr free ↦ subst (λ v. Continues before v) (sym (told.took free)) yes_follows
    ]

module _ {N : Type 0} (shape : Shape) (object : Place) (before : View N) (found : ℕ)
    (after : View N) where
  pub shares_on : Shares shape object before found after → Continues before after
  shares_on told =
      tries_on shape Share before found after _ _ told (tried_on before, λ other ends h. h)
      (refused_on before (OfObject object) Share found (before.takes + 1) (omega arith), λ other ends h. h)

  pub marks_on : Marks shape object before found after → Continues before after
  marks_on told =
      tries_on shape Mark before found after _ _ told (tried_on before, λ other ends h. h)
      (refused_on before (OfObject object) Mark found (before.takes + 1) (omega arith), λ other ends h. h)

  pub rises_on : Rises shape object before found after → Continues before after
  rises_on told =
      tries_on shape Rise before found after _ _ told (tried_on before, λ other ends h. h)
      (refused_on before (OfObject object) Rise found (before.takes + 1) (omega arith), λ other ends h. h)

module _ {N : Type 0} (shape : Shape) (before : View N) (found : ℕ) (after : View N) where
  pub enters_as_writer_on : EntersAsWriter shape before found after → Continues before after
  enters_as_writer_on told =
      tries_on shape Writer before found after _ _ told (goes_on-refl (trail_of before), λ other ends h. h)
      (refused_on before OfGate Writer found before.takes (omega arith), λ other ends h. h)

  pub enters_as_whole_on : EntersAsWhole shape before found after → Continues before after
  enters_as_whole_on told =
      tries_on shape Whole before found after _ _ told (goes_on-refl (trail_of before), λ other ends h. h)
      (refused_on before OfGate Whole found before.takes (omega arith), λ other ends h. h)

-- the history was seen
pub seen_on : {N : Type 0} (before after new : View N) (history : List (Entry N)) → after ≡ new
    → course_of new ≡ record (course_of before) {
      trail = record (trail_of before) { seen = history };
    } → IsPrefix before.seen history → Continues before after
seen_on {N} before after new history is same goes_on =
    subst (λ v. Continues before v) (sym is) (
      subst (GoesOn (trail_of before)) (sym (ap (λ (c : Course N). c.trail) same))
          (grown_on (trail_of before) history before.refusals before.misses before.looks
          before.takes goes_on (prefix-refl before.refusals) (prefix-refl before.misses)
          (prefix-refl before.looks) (omega arith)),
      λ shape ends. subst (λ own. HasSpares shape before.private ends → HasSpares shape own ends)
          (sym (ap (λ (c : Course N). c.own) same)) (λ h. h),
    )

pub measures_on : {N : Type 0} (object : Place) (before : View N) (found : ℕ) (after : View N)
    → Measures object before found after → Continues before after
measures_on object before found after told =
    seen_on before after
    (measured object told.known told.history before) told.history told.view refl told.goes_on

pub places_on : {N : Type 0} (before : View N) (found : ℕ) (after : View N)
    → Places before found after → Continues before after
places_on before found after told = seen_on before after
    (placed told.history before) told.history told.view refl told.goes_on

-- a failed exchange is one more miss
missed_on : {N : Type 0} (rank head found : ℕ) (before : View N)
    → Follows before (missed rank head found before)
missed_on rank head found before =
    grown_on (trail_of before) before.seen before.refusals
    (before.misses ++ record { rank = rank; loaded = head; found = found } ∷ [])
    before.looks before.takes
    (prefix-refl before.seen) (prefix-refl before.refusals)
    (prefix-push before.misses (record { rank = rank; loaded = head; found = found }))
    (prefix-refl before.looks) (omega arith)

-- an exchange was made, or failed
exchanged_by : {N : Type 0} (P : View N → Type 0) (shape : Shape) (rank head : ℕ) (before : View N)
    (found : ℕ) (after done : View N)
    → Exchanges shape head before found after done (missed rank head found before)
    → (found ≡ head → P done) → P (missed rank head found before) → P after
exchanged_by P shape rank head before found after done told hit_is miss_is =
    elim (cases_eq found head) [
      | inl hit ↦ subst P (sym (told.took hit)) (hit_is hit)
      | inr miss ↦ subst P (sym (told.failed miss)) miss_is
    ]

pub pops_on : {N : Type 0} (shape : Shape) (rank head next : ℕ) (before : View N) (found : ℕ)
    (after : View N) → Pops shape rank head next before found after → Continues before after
pops_on shape rank head next before found after told =
    let block = on_rank rank (first_of head) in
    exchanged_by (Continues before) shape rank head before found after
    (popped rank block next before) told.exchanges
    (λ hit. (
      goes_on-refl (trail_of before),
      λ other ends h. spares_popped other before.private ends h
          (record { block = block; next = Some next }) (told.fresh hit),
    ))
    (missed_on rank head found before, λ other ends h. h)

-- a head was loaded
pub heads_on : {N : Type 0} (shape : Shape) (rank : ℕ) (before : View N) (found : ℕ)
    (after : View N) → Heads shape rank before found after → Continues before after
heads_on shape rank before found after told =
    let look : Look =
    record {
      rank = rank;
      head = found;
      own_blocks = count_on rank (places_of before.private);
    } in
    subst (λ v. Continues before v) (sym told.view) (
      grown_on (trail_of before) before.seen before.refusals before.misses
          (before.looks ++ look ∷ []) before.takes
          (prefix-refl before.seen) (prefix-refl before.refusals) (prefix-refl before.misses)
          (prefix-push before.looks look) (omega arith),
      λ other ends h. h,
    )

next_noted_on : {N : Type 0} (found : Option HeadNote) (block : Place) (next : ℕ)
    (before after : View N) → after ≡ noted_next found block next before → Continues before after
next_noted_on None block next before after is = stays before after before is refl
next_noted_on (Some note) block next before after is =
    elim (cases_Bool (first_of note.head == block.block)) [
      | inl same ↦ stays before after (nexted note next before)
          (is ∙ ap (λ b. cond b (nexted note next before) before) same) refl
      | inr differ ↦ stays before after before
          (is ∙ ap (λ b. cond b (nexted note next before) before) differ) refl
    ]

pub nexts_on : {N : Type 0} (shape : Shape) (block : Place) (before : View N) (found : ℕ)
    (after : View N) → Nexts shape block before found after → Continues before after
nexts_on shape block before found after told =
    next_noted_on (note_of before.notes block.rank) block found before after told.view

-- The view goes on, and these spares of the rank stay: where the step is made on a block of its own
-- that is none of them.
abbrev pub GoesOnWith : {N : Type 0} → Shape → SpareEnds → View N → View N → Type 0
GoesOnWith shape ends before after = Follows before after × SparesStay shape ends before after

pub links_on : {N : Type 0} (shape : Shape) (ends : SpareEnds) (block : Place) (next : ℕ)
    (before after : View N) → IsNoSpare shape before.private ends block
    → after ≡ linked block next before → Follows before after × SparesStay shape ends before after
links_on {N} shape ends block next before after none is = (
  follows_same before after (linked block next before) is refl,
  λ h. subst (λ (v : View N). HasSpares shape v.private ends) (sym is)
      (spares_linked shape before.private ends h block next none),
)

pub pushes_on : {N : Type 0} (shape : Shape) (ends : SpareEnds) (block : Place) (head : ℕ)
    (before : View N) (found : ℕ) (after : View N) → IsNoSpare shape before.private ends block
    → Exchanges shape head before found after (pushed block before)
    (missed block.rank head found before)
    → Follows before after × SparesStay shape ends before after
pushes_on shape ends block head before found after none told =
    exchanged_by (GoesOnWith shape ends before) shape block.rank head before found after
    (pushed block before) told
    (λ hit. (
      goes_on-refl (trail_of before),
      λ h. spares_pushed shape before.private ends h block none,
    ))
    (missed_on block.rank head found before, λ h. h)

-- the same where rank and block were asked for
pub pushes_at : {N : Type 0} (shape : Shape) (ends : SpareEnds) (block : Place)
    (rank number head : ℕ) (before : View N) (found : ℕ) (after : View N) → rank ≡ block.rank
    → number ≡ block.block → IsNoSpare shape before.private ends block
    → Pushes shape rank head number before found after
    → Follows before after × SparesStay shape ends before after
pushes_at shape ends block rank number head before found after r n none told =
    pushes_on shape ends (on_rank rank number) head before found after
    (subst (IsNoSpare shape before.private ends)
    (λ k. record { rank = sym r k; block = sym n k }) none) told

pub attaches_on : {N : Type 0} (shape : Shape) (ends : SpareEnds) (object : Place)
    (before : View N) (len : ℕ) (after : View N) → MayAttachSome shape object len before
    → SparesAreLeft shape object len before ends → AttachesAll shape object before len after
    → Follows before after × SparesStay shape ends before after
attaches_on shape ends object before len after may left told =
    let made = told may.0 may.1 may.2 may.3 in (
      follows_same before after _ made.view refl,
      λ h. spares_attached shape before.private ends h may.0 after.private
          (left may.0 may.1 may.2 may.3) made.links,
    )

pub follows_trans : {N : Type 0} (one two three : View N) → Follows one two → Follows two three
    → Follows one three
follows_trans one two three first next = goes_on-trans (trail_of one) (trail_of two)
    (trail_of three) first next

-- a step tells besides that the view goes on
pub going : {N : Type 0} (fits : Shape → Entry N → Type 0) (shape : Shape) (word : Word)
    (change : ℕ → ℕ) (before : View N) (Told : ℕ → View N → Type 0)
    → Permits fits shape word change before Told
    → ((found : ℕ) (after : View N) → Told found after → Follows before after)
    → Permits fits shape word change before (λ found after. Told found after × Follows before after)
going fits shape word change before Told may goes_on = record {
  goes = λ words views id now small.
      let gone = may.goes words views id now small in record {
        after = gone.after;
        lawful = gone.lawful;
        same_rights = gone.same_rights;
        told = (gone.told, goes_on (words word) gone.after gone.told);
      };
}

-- and that spares stay
pub following : {N : Type 0} (fits : Shape → Entry N → Type 0) (shape : Shape) (word : Word)
    (change : ℕ → ℕ) (before : View N) (Told : ℕ → View N → Type 0)
    → Permits fits shape word change before Told
    → ((found : ℕ) (after : View N) → Told found after → Continues before after)
    → Permits fits shape word change before
    (λ found after. Told found after × Follows before after × KeepsSpares before after)
following fits shape word change before Told may on = record {
  goes = λ words views id now small.
      let gone = may.goes words views id now small in
      let goes_on = on (words word) gone.after gone.told in record {
        after = gone.after;
        lawful = gone.lawful;
        same_rights = gone.same_rights;
        told = (gone.told, goes_on.0, goes_on.1);
      };
}
