-- The part of the invariant on the history: it is the longest that a view has seen, and it is
-- legal.
use Rattle.std.specs.Prelude.{◌≡◌, ℕ, ◌+◌, ◌<◌, ◌==◌, Bool, List, [], ◌∷◌, length, if◌then◌else◌}
use Rattle.std.specs.List.{AllByRecursion}
use mathlib.Core.List.{IsPrefix}
use mathlib.Core.Option.{some}
use lib.ListN.{get_elem?}
use Rattle.rma_layout.specs.Shape.{Shape}
use Rattle.object_words.specs.Entries.{Entry, IsLegalHistory}
use Rattle.window_rule.specs.View.{View, Chronicle}
use Rattle.window_rule.specs.EachView.{EachView}

abbrev pub chronicle_of : {N : Type 0} → View N → Chronicle N
chronicle_of view = record { rights = view.rights; seen = view.seen; own = view.own }

abbrev pub is_among : ℕ → List ℕ → Bool
is_among rank [] = Bool.false
is_among rank (right ∷ more) = if right == rank then Bool.true else is_among rank more

-- the numbers, from this one on, of the entries that one of these ranks made
abbrev pub numbers_from : {N : Type 0} → ℕ → List ℕ → List (Entry N) → List ℕ
numbers_from k rights [] = []
numbers_from k rights (entry ∷ more) = if is_among entry.rank rights then k ∷ numbers_from
    (k + 1) rights more else numbers_from (k + 1) rights more

pub record IsChronicle {N : Type 0} (history : List (Entry N)) (one : Chronicle N) : Type 0 where
  pub begins : IsPrefix one.seen history
  pub own : one.own ≡ numbers_from 0 one.rights one.seen
  -- its ranks made no entry that it has not seen
  pub rest : AllByRecursion
      (λ (entry : Entry N). is_among entry.rank one.rights ≡ Bool.false) begins.0

-- what a view was told of two views at once, when they were joined: each had seen a beginning of
-- what this one has, and
-- its ranks made no entry since. It reads nothing but the view
abbrev pub IsHeard : {N : Type 0} → List (Entry N) → Chronicle N → Type 0
IsHeard seen one = IsPrefix one.seen seen × (one.own ≡ numbers_from 0 one.rights seen)

pub record Past (N : Type 0) : Type 0 where
  pub seen : List (Entry N)
  pub heard : List (Chronicle N)

abbrev pub past_of : {N : Type 0} → View N → Past N
past_of view = record { seen = view.seen; heard = view.heard }

abbrev pub AreHeard : {N : Type 0} → Past N → Type 0
AreHeard past = AllByRecursion (IsHeard past.seen) past.heard

-- It reads the commit word, and the rights and the history of each view.
pub record HistoryHolds {N : Type 0} (fits : Shape → Entry N → Type 0) (shape : Shape) (commits : ℕ)
    (history : List (Entry N)) (views : List (View N)) : Type 0 where
  pub counted : commits ≡ length history
  -- a view has seen all of it
  pub held : (id : ℕ) × (one : View N) × (get_elem? views id ≡ some one) × (one.seen ≡ history)
  pub each : EachView (chronicle_of {N = N}) (λ _. IsChronicle history) views
  pub heard : EachView (past_of {N = N}) (λ _. AreHeard) views
  pub legal : IsLegalHistory Bool.true shape history
  -- so that a view with every right has every entry
  pub ranked : AllByRecursion (λ (entry : Entry N). entry.rank < shape.ranks) history
  pub fitting : AllByRecursion (fits shape) history
