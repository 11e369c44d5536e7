-- How an object is locked after a lock was put or taken away.
use Rattle.std.proofs.Common.{◌≡◌, ◌≢◌, ℕ, Bool, true, false, cond, [], ◌∷◌, ◌⊎◌, inl, inr, refl, sym, ap, ◌∙◌, Option, Some, None, ◌≤◌, arith}
use Rattle.std.proofs.lemmas.Bool.Decides.{nat_tests}
use Rattle.std.proofs.lemmas.Bool.{cases_eq}
use Rattle.rma_layout.specs.Placement.{Place, same_place}
use Rattle.lock_words.specs.declared.want.Want.{Want}
use Rattle.window_rule.specs.View.{View, OfObject, Hold, Shared, Marked, Returning, Locks}
use Rattle.window_rule.specs.Locks.{hold_of, without_lock, with_lock, shares_of, lasting_of, marks_of}
use Rattle.window_rule.specs.Steps.{tried, locked, returned, refused}

pub place_by_parts : (p q : Place) → p.rank ≡ q.rank → p.block ≡ q.block → p ≡ q
place_by_parts p q r b i = record { rank = r i; block = b i }

pub same_place-refl : (p : Place) → same_place p p ≡ true
same_place-refl p = grind (arith, nat_tests)

pub same_place-false : (p q : Place) → p ≢ q → same_place p q ≡ false
same_place-false p q ne =
    elim (cases_eq p.rank q.rank) [
      | inl r ↦ elim (cases_eq p.block q.block) [
        | inl b ↦ absurd (ne (place_by_parts p q r b))
        | inr b ↦ grind (arith, nat_tests)
      ]
      | inr r ↦ grind (arith, nat_tests)
    ]

pub place_cases : (p q : Place) → (p ≡ q) ⊎ (p ≢ q)
place_cases p q =
    elim (cases_eq p.rank q.rank) [
      | inl r ↦ elim (cases_eq p.block q.block) [
        | inl b ↦ inl (place_by_parts p q r b)
        | inr b ↦ inr (λ e. b (ap (λ (x : Place). x.block) e))
      ]
      | inr r ↦ inr (λ e. r (ap (λ (x : Place). x.rank) e))
    ]

abbrev pub choose : Bool → Hold → Option Hold → Option Hold
choose test hold other = cond test (Some hold) other

pub hold_of-with_same : (locks : Locks) (object : Place) (hold : Hold)
    → hold_of (with_lock locks object hold) object ≡ Some hold
hold_of-with_same locks object hold = ap
    (λ test. choose test hold (hold_of (without_lock locks object) object)) (same_place-refl object)

without_step : (test other : Bool) (hold : Hold) (rest : Option Hold)
    → (other ≡ true → test ≡ false)
    → choose test hold rest ≡ cond other (choose test hold rest) (choose test hold rest)
without_step test true hold rest h = refl
without_step test false hold rest h = refl

pub hold_of-without_other : (locks : Locks) (object other : Place) → other ≢ object
    → hold_of (without_lock locks object) other ≡ hold_of locks other
hold_of-without_other [] object other ne = refl
hold_of-without_other (one ∷ more) object other ne =
    let rest = hold_of-without_other more object other ne in
    elim (place_cases one.0 object) [
      | inl same ↦
          let here : same_place one.0 object ≡ true = ap (λ p. same_place p object) same
          ∙ same_place-refl object in
          let elsewhere : same_place one.0 other ≡ false = same_place-false one.0 other
          (λ e. ne (sym e ∙ same)) in
          ap (λ test. hold_of
          (cond test (without_lock more object) (one ∷ without_lock more object)) other) here
          ∙ (rest ∙ sym (ap (λ test. choose test one.1 (hold_of more other)) elsewhere))
      | inr differ ↦
          ap (λ test. hold_of
          (cond test (without_lock more object) (one ∷ without_lock more object)) other)
          (same_place-false one.0 object differ)
          ∙ ap (choose (same_place one.0 other) one.1) rest
    ]

pub hold_of-without_same : (locks : Locks) (object : Place)
    → hold_of (without_lock locks object) object ≡ None
hold_of-without_same [] object = refl
hold_of-without_same (one ∷ more) object =
    let rest = hold_of-without_same more object in
    elim (place_cases one.0 object) [
      | inl same ↦
          let here : same_place one.0 object ≡ true = ap (λ p. same_place p object) same
          ∙ same_place-refl object in
          ap (λ test. hold_of
          (cond test (without_lock more object) (one ∷ without_lock more object)) object)
          here ∙ rest
      | inr differ ↦
          let elsewhere = same_place-false one.0 object differ in
          ap (λ test. hold_of
          (cond test (without_lock more object) (one ∷ without_lock more object)) object)
          elsewhere
          ∙ (ap (λ test. choose test one.1 (hold_of (without_lock more object) object))
          elsewhere ∙ rest)
    ]

pub hold_of-with_other : (locks : Locks) (object other : Place) (hold : Hold) → other ≢ object
    → hold_of (with_lock locks object hold) other ≡ hold_of locks other
hold_of-with_other locks object other hold ne =
    ap (λ test. choose test hold (hold_of (without_lock locks object) other))
    (same_place-false object other (λ e. ne (sym e)))
    ∙ hold_of-without_other locks object other ne

-- to take away a lock that is not there changes nothing
pub without_lock-unlocked : (locks : Locks) (object : Place) → hold_of locks object ≡ None
    → without_lock locks object ≡ locks
without_lock-unlocked [] object h = refl
without_lock-unlocked (one ∷ more) object h =
    elim (place_cases one.0 object) [
      | inl same ↦
          let here : same_place one.0 object ≡ true = ap (λ p. same_place p object) same
          ∙ same_place-refl object in
          let found : Some one.1 ≡ None = sym
          (ap (λ test. choose test one.1 (hold_of more object)) here) ∙ h in
          absurd (cc found)
      | inr differ ↦
          let elsewhere = same_place-false one.0 object differ in
          let rest : hold_of more object ≡ None = sym
          (ap (λ test. choose test one.1 (hold_of more object)) elsewhere) ∙ h in
          ap (λ test. cond test (without_lock more object) (one ∷ without_lock more object))
          elsewhere
          ∙ ap (λ rest. one ∷ rest) (without_lock-unlocked more object rest)
    ]

pub without_lock-twice : (locks : Locks) (object : Place)
    → without_lock (without_lock locks object) object ≡ without_lock locks object
without_lock-twice locks object = without_lock-unlocked (without_lock locks object) object
    (hold_of-without_same locks object)

-- a lock that was put and taken away again
pub without_lock-with_lock : (locks : Locks) (object : Place) (hold : Hold)
    → hold_of locks object ≡ None → without_lock (with_lock locks object hold) object ≡ locks
without_lock-with_lock locks object hold h =
    ap (λ test. cond test (without_lock (without_lock locks object) object)
    ((object, hold) ∷ without_lock (without_lock locks object) object)) (same_place-refl object)
    ∙ (without_lock-twice locks object ∙ without_lock-unlocked locks object h)

pub lasting-le-shares : (hold : Option Hold) → lasting_of hold ≤ shares_of hold
lasting-le-shares None = omega arith
lasting-le-shares (Some Shared) = omega arith
lasting-le-shares (Some Marked) = omega arith
lasting-le-shares (Some Returning) = omega arith

pub shares_of-le : (hold : Option Hold) → shares_of hold ≤ 1
shares_of-le None = omega arith
shares_of-le (Some Shared) = omega arith
shares_of-le (Some Marked) = omega arith
shares_of-le (Some Returning) = omega arith

pub no_mark_beside : (hold : Option Hold) → shares_of hold ≡ 1 → marks_of hold ≡ 0
no_mark_beside None h = refl
no_mark_beside (Some Shared) h = refl
no_mark_beside (Some Marked) h = absurd (omega arith)
no_mark_beside (Some Returning) h = refl

-- once a refused share is taken back, the locks are as before
pub refused_is_unlocked : {N : Type 0} (object : Place) (want : Want) (word : ℕ) (view : View N)
    → hold_of view.locks object ≡ None
    → returned object
    (refused (OfObject object) want word (tried (locked object Returning view))) ≡ refused
    (OfObject object) want word (tried view)
refused_is_unlocked {N} object want word view h =
    let after : View N = refused (OfObject object) want word (tried view) in
    ap (λ (locks : Locks). record after { locks = locks })
    (without_lock-with_lock view.locks object Returning h)
