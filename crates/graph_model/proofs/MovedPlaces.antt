-- A legal run stays legal where reading places move.
use Rattle.std.proofs.Common.{◌≡◌, ℕ, ◌+◌, ◌<◌, ◌≤◌, Bool, true, false, List, [], ◌∷◌, length, if◌then◌else◌, Option, Some, None, refl, sym, ap, subst, ◌∙◌}
use Rattle.std.specs.Prelude as prelude
use Rattle.std.specs.List.{AllByRecursion, zip, cons_option}
use Rattle.std.specs.Option.{option_map, option_map_or, option_or}
use Rattle.std.specs.Prelude.{◌==◌}
use Rattle.gdi_kinds.specs.declared.txn.Txn.{Txn}
use Rattle.gdi_kinds.specs.declared.outcome.Outcome.{Outcome}
use Rattle.gdi_kinds.specs.declared.outcome.Outcome.TheVariants.{Read}
use Rattle.gdi_kinds.specs.declared.outcome.Line.{Line}
use Rattle.rma_layout.specs.Shape.{Shape}
use Rattle.graph_model.specs.Graph.{Graph}
use Rattle.graph_model.specs.Maps.{item_at}
use Rattle.graph_model.specs.Placed.{Placed, pairs_of, transactions_of, entry_number}
use Rattle.graph_model.specs.History.{load_entries, is_entry, entry_at}
use Rattle.graph_model.specs.LegalRun.{MayEnd, FitsScript, IsDistinct, numbers_of, HasReplies, EndsByCapacity, EntriesHaveRoom, graph_of_run}
use Rattle.graph_model.specs.MovedPlaces.{IsMoved, AreMoved, ReadingPlacesMayMove}
use Rattle.graph_model.proofs.Transactions.{looks_at_entries}

-- whether an outcome's number is k
abbrev is_number : ℕ → Option ℕ → Bool
is_number k number = option_map_or (λ n. n == k) number false

same_number : (a b : Outcome) → IsMoved a b → entry_number a ≡ entry_number b
same_number (Read place replies) (Read other others) moved = refl
same_number a b moved = ap entry_number moved

same_ending : (txn : Txn) (a b : Outcome) → IsMoved a b → MayEnd txn a → MayEnd txn b
same_ending txn (Read place replies) (Read other others) moved ends = (ends.0, ends.1, subst (λ rs. length rs ≡ length txn.calls) moved ends.2)
same_ending txn a b moved ends = subst (MayEnd txn) moved ends

same_room : (shape : Shape) (graph : ℕ → Graph) (txn : Txn) (a b : Outcome) → IsMoved a b → EndsByCapacity shape graph txn a → EndsByCapacity shape graph txn b
same_room shape graph txn (Read place replies) (Read other others) moved room = tt
same_room shape graph txn a b moved room = subst (EndsByCapacity shape graph txn) moved room

fits-moved : (placed : List Placed) (ls ms : List Line) → AreMoved ls ms → FitsScript placed ls → FitsScript placed ms
fits-moved [] [] [] moved fits = tt
fits-moved [] [] (m ∷ ms) moved fits = absurd moved
fits-moved [] (l ∷ ls) ms moved fits = absurd fits
fits-moved (p ∷ ps) [] ms moved fits = absurd fits
fits-moved (p ∷ ps) (l ∷ ls) [] moved fits = absurd moved
fits-moved (p ∷ ps) (l ∷ ls) (m ∷ ms) moved fits =
    ((sym moved.0 ∙ fits.0.0, sym moved.1 ∙ fits.0.1, same_ending p.txn l.outcome m.outcome moved.2 fits.0.2), fits-moved ps ls ms moved.3 fits.1)

room-moved : (shape : Shape) (graph : ℕ → Graph) (placed : List Placed) (ls ms : List Line) → AreMoved ls ms → AllByRecursion (λ pair. EndsByCapacity shape graph pair.0.txn pair.1.outcome) (zip placed ls)
    → AllByRecursion (λ pair. EndsByCapacity shape graph pair.0.txn pair.1.outcome) (zip placed ms)
room-moved shape graph [] ls ms moved room = tt
room-moved shape graph (p ∷ ps) [] [] moved room = tt
room-moved shape graph (p ∷ ps) [] (m ∷ ms) moved room = absurd moved
room-moved shape graph (p ∷ ps) (l ∷ ls) [] moved room = absurd moved
room-moved shape graph (p ∷ ps) (l ∷ ls) (m ∷ ms) moved room = (same_room shape graph p.txn l.outcome m.outcome moved.2 room.0, room-moved shape graph ps ls ms moved.3 room.1)

numbers-moved : (ls ms : List Line) → AreMoved ls ms → numbers_of ls ≡ numbers_of ms
numbers-moved [] [] moved = refl
numbers-moved [] (m ∷ ms) moved = absurd moved
numbers-moved (l ∷ ls) [] moved = absurd moved
numbers-moved (l ∷ ls) (m ∷ ms) moved =
    elim (entry_number m.outcome) as (λ found. entry_number l.outcome ≡ found → numbers_of (l ∷ ls) ≡ cons_option found (numbers_of ms)) [
      | None ↦ λ is. ap (λ found. cons_option found (numbers_of ls)) is ∙ numbers-moved ls ms moved.3
      | Some n ↦ λ is. ap (λ found. cons_option found (numbers_of ls)) is ∙ ap (λ ns. n ∷ ns) (numbers-moved ls ms moved.3)
    ] (same_number l.outcome m.outcome moved.2)

-- the transaction that is entry k
entry-moved : (k : ℕ) (placed : List Placed) (ls ms : List Line) → AreMoved ls ms
    → option_map (λ (pair : Placed × Line). pair.0.txn) (prelude.find (λ pair. is_entry k pair.1) (zip placed ls)) ≡ option_map (λ (pair : Placed × Line). pair.0.txn) (prelude.find (λ pair. is_entry k pair.1) (zip placed ms))
entry-moved k [] ls ms moved = refl
entry-moved k (p ∷ ps) [] [] moved = refl
entry-moved k (p ∷ ps) [] (m ∷ ms) moved = absurd moved
entry-moved k (p ∷ ps) (l ∷ ls) [] moved = absurd moved
entry-moved k (p ∷ ps) (l ∷ ls) (m ∷ ms) moved =
    let later = entry-moved k ps ls ms moved.3 in
    let txn_of = option_map (λ (pair : Placed × Line). pair.0.txn) in
    let found_in = λ (lines : List Line). prelude.find (λ (pair : Placed × Line). is_entry k pair.1) (zip ps lines) in
    ap (λ number. txn_of (if is_number k number then Some (p, l) else found_in ls)) (same_number l.outcome m.outcome moved.2)
    ∙ elim (is_entry k m) as (λ b. txn_of (if b then Some (p, l) else found_in ls) ≡ txn_of (if b then Some (p, m) else found_in ms)) [ true ↦ refl | false ↦ later ]

pub reading_places_move : ReadingPlacesMayMove
reading_places_move shape load script run moved legal moves =
    record {
      fits_script = fits-moved (transactions_of script) run.lines moved.lines moves.lines legal.fits_script;
      is_numbered = record {
        count = sym moves.writes ∙ legal.is_numbered.count ∙ ap (λ ns. first + length ns) numbers;
        numbers = subst (λ writes. AllByRecursion (λ k. (first ≤ k) × (k < writes)) (numbers_of moved.lines)) moves.writes (subst (AllByRecursion (λ k. (first ≤ k) × (k < run.writes))) numbers legal.is_numbered.numbers);
        once = subst IsDistinct numbers legal.is_numbered.once;
        places = moves.places;
      };
      in_order = moves.in_order;
      load_room = subst (λ graph. EntriesHaveRoom shape graph 0 (load_entries load)) graphs legal.load_room;
      replies = subst (λ graph. AllByRecursion (λ pair. HasReplies shape graph pair.0.txn pair.1.outcome) (pairs_of script moved.lines)) graphs moves.replies;
      room = subst (λ graph. AllByRecursion (λ pair. EndsByCapacity shape graph pair.0.txn pair.1.outcome) (pairs_of script moved.lines)) graphs (room-moved shape _ (transactions_of script) run.lines moved.lines moves.lines legal.room);
    }
  where
    first : ℕ
    first = length (load_entries load)

    numbers : numbers_of run.lines ≡ numbers_of moved.lines
    numbers = numbers-moved run.lines moved.lines moves.lines

    entries : (k : ℕ) → entry_at load (pairs_of script run.lines) k ≡ entry_at load (pairs_of script moved.lines) k
    entries k = ap (λ found. option_or (item_at (load_entries load) k) found) (entry-moved k (transactions_of script) run.lines moved.lines moves.lines)

    graphs : graph_of_run shape load script run ≡ graph_of_run shape load script moved
    graphs = λ i n. looks_at_entries shape (entry_at load (pairs_of script run.lines)) (entry_at load (pairs_of script moved.lines)) n (λ k _. entries k) i
