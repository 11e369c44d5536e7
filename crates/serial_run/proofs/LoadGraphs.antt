-- The graphs along a load's entries.
use Rattle.std.proofs.Common.{◌≡◌, ℕ, zero, suc, ◌+◌, ◌<◌, ◌≤◌, List, [], ◌∷◌, length, Option, Some, None, refl, sym, ap, subst, ◌∙◌, arith}
use Rattle.std.specs.Option.{option_map_or}
use Rattle.gdi_kinds.specs.declared.txn.Txn.{Txn}
use Rattle.rma_layout.specs.Shape.{Shape}
use Rattle.graph_model.specs.Maps.{item_at}
use Rattle.graph_model.specs.Graph.{Graph, empty_graph}
use Rattle.graph_model.specs.Transactions.{graph_after_txn}
use Rattle.graph_model.specs.Capacity.{full_rank}
use Rattle.graph_model.specs.History.{graph_after}
use Rattle.graph_model.specs.LegalRun.{EntriesHaveRoom}
use Rattle.serial_run.specs.Serial.{graph_after_txns, HaveRoom}

pub item_past : {X : Type 0} → (xs : List X) (n : ℕ) → length xs ≤ n → item_at xs n ≡ None
item_past [] n le = refl
item_past (x ∷ xs) zero le = absurd (omega arith)
item_past (x ∷ xs) (suc n) le = item_past xs n (omega arith)

pub item_there : {X : Type 0} → (xs : List X) (n : ℕ) → n < length xs → (x : X) × (item_at xs n ≡ Some x)
item_there [] n lt = absurd (omega arith)
item_there (x ∷ xs) zero lt = (x, refl)
item_there (x ∷ xs) (suc n) lt = item_there xs n (omega arith)

module _ (shape : Shape) (entry : ℕ → Option Txn) where
  -- the entries from place i on are these transactions
  abbrev pub AreEntries : ℕ → List Txn → Type 0
  AreEntries i [] = Unit {0}
  AreEntries i (txn ∷ txns) = (entry i ≡ Some txn) × AreEntries (i + 1) txns

  one_more : (g : Graph) (i : ℕ) (txn : Txn) → g ≡ graph_after shape entry i → entry i ≡ Some txn → graph_after_txn shape g txn ≡ graph_after shape entry (i + 1)
  one_more g i txn here is =
      let step : graph_after_txn shape g txn ≡ graph_after shape entry (suc i)
      = ap (λ (h : Graph). graph_after_txn shape h txn) here
      ∙ sym (ap (λ (o : Option Txn). option_map_or (graph_after_txn shape (graph_after shape entry i)) o (graph_after shape entry i)) is) in
      let next : suc i ≡ i + 1 = omega arith in
      step ∙ ap (graph_after shape entry) next

  pub graph_along : (g : Graph) (i : ℕ) (txns : List Txn) → g ≡ graph_after shape entry i → AreEntries i txns
      → graph_after_txns shape g txns ≡ graph_after shape entry (i + length txns)
  graph_along g i [] here are = let same : i ≡ i + 0 = omega arith in here ∙ ap (graph_after shape entry) same
  graph_along g i (txn ∷ txns) here are =
      let same : (i + 1) + length txns ≡ i + suc (length txns) = omega arith in
      graph_along (graph_after_txn shape g txn) (i + 1) txns (one_more g i txn here are.0) are.1 ∙ ap (graph_after shape entry) same

  pub room_along : (g : Graph) (i : ℕ) (txns : List Txn) → g ≡ graph_after shape entry i → AreEntries i txns → HaveRoom shape g txns
      → EntriesHaveRoom shape (graph_after shape entry) i txns
  room_along g i [] here are room = tt
  room_along g i (txn ∷ txns) here are room = (
    ap (λ (h : Graph). full_rank shape h txn) (sym here) ∙ room.0,
    room_along (graph_after_txn shape g txn) (i + 1) txns (one_more g i txn here are.0) are.1 room.1,
  )

  pub are_entries : (i : ℕ) (txns : List Txn) → ((j : ℕ) → j < length txns → entry (i + j) ≡ item_at txns j) → AreEntries i txns
  are_entries i [] same = tt
  are_entries i (txn ∷ txns) same =
      let first : i + 0 ≡ i = omega arith in (
        ap entry (sym first) ∙ same 0 (omega arith),
        are_entries (i + 1) txns (λ j lt. let moved : (i + 1) + j ≡ i + suc j = omega arith in ap entry moved ∙ same (suc j) (omega arith)),
      )
