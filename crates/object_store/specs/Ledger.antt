-- The history of a plain store: one word counts its entries, and the one seat has seen them all.
use Rattle.std.specs.Prelude.{◌≡◌, ℕ, ◌^◌, ◌≤◌, false, List, [], ◌∷◌, ◌++◌, length, Option, Some}
use Rattle.std.specs.List.{All, range_with_len}
use Rattle.atomic_table.specs.Table.{State, Me}
use Rattle.rma_layout.specs.Shape.{Shape}
use Rattle.object_words.specs.Entries.{Entry, IsLegalHistory}

-- what the seat knows
pub record Account (N : Type 0) : Type 0 where
  pub shape : Shape
  pub seen : List (Entry N)
  pub own : List ℕ

abbrev pub opened : {N : Type 0} → Shape → Account N
opened shape = record { shape = shape; seen = []; own = [] }

abbrev pub account_with : {N : Type 0} → Account N → Entry N → Account N
account_with account entry = record { shape = account.shape; seen = account.seen ++ entry ∷ []; own = account.own ++ length account.seen ∷ [] }

-- the history is legal, its entries fit, and all of them are the store's own
pub record IsHistory {N : Type 0} (fits : Shape → Entry N → Type 0) (account : Account N) : Type 0 where
  pub legal : IsLegalHistory false account.shape account.seen
  pub fit : All (fits account.shape) account.seen
  pub own : account.own ≡ range_with_len 0 (length account.seen)
  pub few : length account.seen ≤ 2 ^ 62

-- the rule of the table
pub record IsKept {S N : Type 0} (fits : Shape → Entry N → Type 0) (state : State S (Account N)) : Type 0 where
  pub account : Account N
  pub words : state.words ≡ length account.seen ∷ []
  pub views : state.views ≡ account ∷ []
  pub history : IsHistory fits account

-- a step that looks: the word is the length of the history, which is as the rule says
pub record Looks {S N : Type 0} (fits : Shape → Entry N → Type 0) (before : Me S (Account N)) (found : ℕ) (after : Me S (Account N)) : Type 0 where
  pub same : after ≡ before
  pub length_is : found ≡ length before.0.seen
  pub history : IsHistory fits before.0

-- a step that places an entry
pub record Places {S N : Type 0} (placed : Option (Entry N)) (fits : Shape → Entry N → Type 0) (before : Me S (Account N)) (found : ℕ) (after : Me S (Account N)) : Type 0 where
  pub entry : Entry N
  pub said : placed ≡ Some entry
  pub same : after ≡ (account_with before.0 entry, before.1)
  pub length_is : found ≡ length before.0.seen
  pub history : IsHistory fits after.0
