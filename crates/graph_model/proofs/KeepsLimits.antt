-- Transactions that aren't refused for blocks keep the limits, and so does every legal run.
use Rattle.std.proofs.Common.{◌≡◌, ℕ, zero, suc, ◌+◌, ◌-◌, ◌<◌, ◌≤◌, Bool, true, false, cond, ◌&&◌, List, [], ◌∷◌, ◌++◌, map, length, if◌then◌else◌, Option, Some, None, inl, inr, ◌⊎◌, refl, sym, ap, subst, ◌∙◌, arith}
use Rattle.std.specs.Prelude as prelude
use Rattle.std.specs.Prelude.{◌==◌, nat_lt, IsSome, IfSome}
use Rattle.std.specs.List.{sum_by, list_all, range_with_len, zip, AllByRecursion}
use Rattle.std.specs.Option.{option_map, option_map_or, option_or, option_to_list}
use Rattle.std.proofs.lemmas.Bool.{cases_Bool, eqb-true, not_from_false}
use Rattle.std.proofs.lemmas.Nat.{div_below}
use Rattle.std.proofs.lemmas.List.FromFn.{length-range_with_len}
use Rattle.std.proofs.lemmas.List.Sums.{sum_by-cons, sum_by-append}
use Rattle.gdi_kinds.specs.declared.call.Call.{Call}
use Rattle.gdi_kinds.specs.declared.txn.Txn.{Txn}
use Rattle.gdi_kinds.specs.declared.outcome.Outcome.{Outcome}
use Rattle.gdi_kinds.specs.declared.outcome.Outcome.TheVariants.{Wrote, Read, Aborted, Full}
use Rattle.gdi_kinds.specs.declared.outcome.Printed.{Printed}
use Rattle.gdi_kinds.specs.Calls.{is_writing}
use Rattle.rma_layout.specs.Shape.{Shape, reserved_blocks}
use Rattle.rma_layout.specs.Ranges.{IsInRange}
use Rattle.graph_model.specs.Maps.{item_at}
use Rattle.graph_model.specs.Graph.{Graph, empty_graph}
use Rattle.graph_model.specs.Sizes.{blocks_of_words}
use Rattle.graph_model.specs.WellFormed.{IsWellFormed}
use Rattle.graph_model.specs.Calls.{graph_after_call}
use Rattle.graph_model.specs.Transactions.{graph_after_calls, graph_after_txn}
use Rattle.graph_model.specs.Capacity.{Object, is_object, words_of_reserved, objects_on, blocks_of_object, blocks_used_on, make_of, makes, graphs_along, primaries_made_on, growth_of, blocks_needed_on, full_rank}
use Rattle.graph_model.specs.Capacity.Object.{Reserved, OfVertex, OfHeavyEdge}
use Rattle.graph_model.specs.Placed.{Placed, placed_from, sections_from, transactions_of, pairs_of, entry_number}
use Rattle.graph_model.specs.History.{load_entries, is_entry, entry_at}
use Rattle.graph_model.specs.LegalRun.{EndsByCapacity, EntriesHaveRoom, graph_of_run, IsLegalRun}
use Rattle.graph_model.specs.Laws.{FitsCall}
use Rattle.graph_model.specs.Limits.{HasShortObjects, IsWithinLimits, FitTransactions, TransactionKeepsLimits, LegalRunKeepsLimits}
use Rattle.graph_model.proofs.Entries.{same_value, nothing, never, All-filter}
use Rattle.graph_model.proofs.Sums.{sum_by-map, sum_by-same, sum_by-plus}
use Rattle.graph_model.proofs.Counting.{sum_by-le-each, All-each}
use Rattle.graph_model.proofs.Leaving.{well_formed_call}
use Rattle.graph_model.proofs.Transactions.{looking_leaves, well_formed_history}
use Rattle.graph_model.proofs.Short.{short_full}
use Rattle.graph_model.proofs.CallChanges.{call_short}
use Rattle.graph_model.proofs.ObjectsMade.{objects_weigh}

-- ---- the blocks after calls

-- what an object weighs that was there all along; any other weighs 1
abbrev weighs : Bool → ℕ → ℕ
weighs kept n = cond kept n 1

weighs-le : (kept : Bool) (n : ℕ) → 1 ≤ n → weighs kept n ≤ n
weighs-le true n some = omega arith
weighs-le false n some = some

weighs-some : (kept : Bool) (n : ℕ) → 1 ≤ n → 1 ≤ weighs kept n
weighs-some true n some = some
weighs-some false n some = omega arith

weighs-both : (one other : Bool) (n : ℕ) → weighs (one && other) n ≡ weighs other (weighs one n)
weighs-both true true n = refl
weighs-both true false n = refl
weighs-both false true n = refl
weighs-both false false n = refl

abbrev all_along : Shape → Graph → List Call → Object → Bool
all_along shape g cs object = list_all (λ k. is_object k object) (graphs_along shape g cs)

pub objects_weigh_along : (shape : Shape) (rank : ℕ) (g : Graph) (cs : List Call) (w : Object → ℕ) → IsWellFormed g → AllByRecursion FitsCall cs → ((o : Object) → 1 ≤ w o)
    → sum_by (λ o. weighs (all_along shape g cs o) (w o)) (objects_on shape (graph_after_calls shape g cs) rank) ≤ sum_by w (objects_on shape g rank) + primaries_made_on shape g cs rank
objects_weigh_along shape rank g [] w well fits some =
    let least = sum_by-le-each (λ o. weighs (all_along shape g [] o) (w o)) w (objects_on shape g rank) (All-each (λ o. weighs-le (all_along shape g [] o) (w o) (some o)) (objects_on shape g rank)) in
    omega (arith, least)
objects_weigh_along shape rank g (c ∷ cs) w well fits some =
    let h = graph_after_call shape g c in
    let well_h = well_formed_call shape g c well fits.0 in
    let later = objects_weigh_along shape rank h cs (λ o. weighs (is_object g o) (w o)) well_h fits.1 (λ o. weighs-some (is_object g o) (w o) (some o)) in
    let first = objects_weigh shape g c rank well well_h w in
    let same = sum_by-same (λ o. weighs (all_along shape g (c ∷ cs) o) (w o)) (λ o. weighs (all_along shape h cs o) (weighs (is_object g o) (w o)))
    (λ o. weighs-both (is_object g o) (all_along shape h cs o) (w o)) (objects_on shape (graph_after_calls shape h cs) rank) in
    let made = sum_by-append (λ r. cond (r == rank) 1 0) (option_to_list (make_of shape g c)) (makes shape h cs) in
    omega (arith, later, first, same, made)

has_block : (shape : Shape) (g : Graph) (rank : ℕ) (o : Object) → 1 ≤ blocks_of_object shape g rank o
has_block shape g rank o = omega arith

growth_covers : (kept : Bool) (before after : ℕ) → after ≤ (if kept then after - before else after - 1) + weighs kept before
growth_covers true before after = omega arith
growth_covers false before after = omega arith

pub blocks_after_calls : (shape : Shape) (rank : ℕ) (g : Graph) (cs : List Call) → IsWellFormed g → AllByRecursion FitsCall cs
    → blocks_used_on shape (graph_after_calls shape g cs) rank ≤ blocks_used_on shape g rank + blocks_needed_on shape g cs rank
blocks_after_calls shape rank g cs well fits =
    let h = graph_after_calls shape g cs in
    let before = blocks_of_object shape g rank in
    let along = graphs_along shape g cs in
    let objects = objects_on shape h rank in
    let kept = objects_weigh_along shape rank g cs before well fits (has_block shape g rank) in
    let each = sum_by-le-each (blocks_of_object shape h rank) (λ o. growth_of shape g h along rank o + weighs (all_along shape g cs o) (before o)) objects
    (All-each (λ o. growth_covers (all_along shape g cs o) (before o) (blocks_of_object shape h rank o)) objects) in
    let parts = sum_by-plus (growth_of shape g h along rank) (λ o. weighs (all_along shape g cs o) (before o)) objects in
    omega (arith, kept, each, parts)

-- ---- transactions

calls_short : (shape : Shape) (g : Graph) (cs : List Call) → IsWellFormed g → AllByRecursion FitsCall cs → HasShortObjects shape g → HasShortObjects shape (graph_after_calls shape g cs)
calls_short shape g [] well fits short = short
calls_short shape g (c ∷ cs) well fits short = calls_short shape (graph_after_call shape g c) cs (well_formed_call shape g c well fits.0) fits.1 (call_short shape g c well short)

le_or_lt : (a b : ℕ) → (a ≤ b) ⊎ (b < a)
le_or_lt zero b = inl (omega arith)
le_or_lt (suc a) zero = inr (omega arith)
le_or_lt (suc a) (suc b) = elim (le_or_lt a b) [ inl le ↦ inl (omega (arith, le)) | inr lt ↦ inr (omega (arith, lt)) ]

-- what isn't refused fits into the blocks
fits_in : (shape : Shape) (g : Graph) (txn : Txn) (rank : ℕ) → txn.aborts ≡ false → is_writing txn ≡ true → full_rank shape g txn ≡ None → rank < shape.ranks
    → blocks_used_on shape g rank + blocks_needed_on shape g txn.calls rank ≤ shape.blocks
fits_in shape g txn rank commits writes room below =
    elim (le_or_lt (blocks_used_on shape g rank + blocks_needed_on shape g txn.calls rank) shape.blocks) [
      | inl le ↦ le
      | inr short ↦ absurd (cc (room, short_full shape g txn rank (not_from_false _ commits) writes below short))
    ]

committed_keeps : (shape : Shape) (g : Graph) (txn : Txn) → IsWellFormed g → AllByRecursion FitsCall txn.calls → full_rank shape g txn ≡ None
    → txn.aborts ≡ false → is_writing txn ≡ true → IsWithinLimits shape g → IsWithinLimits shape (graph_after_calls shape g txn.calls)
committed_keeps shape g txn well fits room commits writes within = record {
  words = calls_short shape g txn.calls well fits within.words;
  blocks = λ rank below. omega (arith, blocks_after_calls shape rank g txn.calls well fits, fits_in shape g txn rank commits writes room below);
}

pub txn_keeps_limits : TransactionKeepsLimits
txn_keeps_limits shape g txn well fits room within =
    elim (cases_Bool (is_writing txn)) [
      | inr looks ↦ subst (IsWithinLimits shape) (sym (looking_leaves shape g txn (not_from_false _ looks))) within
      | inl writes ↦ elim txn.aborts as (λ b. txn.aborts ≡ b → IsWithinLimits shape (if b then g else graph_after_calls shape g txn.calls)) [
        | true ↦ λ _. within
        | false ↦ λ commits. committed_keeps shape g txn well fits room commits writes within
      ] refl
    ]

-- ---- the empty graph

nothing_reserved : (shape : Shape) (rank block : ℕ) → words_of_reserved shape empty_graph rank block ≡ 0
nothing_reserved shape rank block =
    elim (block == 0) as (λ first. (if first then (if rank == 0 then zero else zero) else (if nat_lt shape.buckets block then zero else zero)) ≡ zero) [
      | true ↦ elim (rank == 0) as (λ zeroth. (if zeroth then zero else zero) ≡ zero) [ true ↦ refl | false ↦ refl ]
      | false ↦ elim (nat_lt shape.buckets block) as (λ slot. (if slot then zero else zero) ≡ zero) [ true ↦ refl | false ↦ refl ]
    ]

empty_short : (shape : Shape) → HasShortObjects shape empty_graph
empty_short shape rank (Reserved block) = omega (arith, nothing_reserved shape rank block)
empty_short shape rank (OfVertex id) = omega arith
empty_short shape rank (OfHeavyEdge source ordinal) = omega arith

-- an object without a word has a block
one_block : (shape : Shape) → IsInRange shape → blocks_of_words shape 0 ≡ 1
one_block shape ranges =
    let small = div_below (0 + (shape.words - 1 - 1)) (shape.words - 1) 1 (omega (arith, ranges.words)) (omega (arith, ranges.words)) in
    omega (arith, small)

sum_by-ones : {X : Type 0} (f : X → ℕ) (xs : List X) → ((x : X) → f x ≡ 1) → sum_by f xs ≡ length xs
sum_by-ones f [] ones = refl
sum_by-ones f (x ∷ xs) ones = omega (arith, sum_by-cons f x xs, ones x, sum_by-ones f xs ones)

empty_within : (shape : Shape) → IsInRange shape → IsWithinLimits shape empty_graph
empty_within shape ranges = record {
  words = empty_short shape;
  blocks = λ rank _.
      let blocks = range_with_len 0 (reserved_blocks shape) in
      let used = sum_by-append (blocks_of_object shape empty_graph rank) (map Reserved blocks ++ []) [] in
      let reserved = sum_by-append (blocks_of_object shape empty_graph rank) (map Reserved blocks) [] in
      let each = sum_by-ones (λ block. blocks_of_object shape empty_graph rank (Reserved block)) blocks
      (λ block. ap (blocks_of_words shape) (nothing_reserved shape rank block) ∙ one_block shape ranges) in
      omega (arith, used, reserved, sum_by-map (blocks_of_object shape empty_graph rank) Reserved blocks, each, length-range_with_len 0 (reserved_blocks shape), ranges.blocks);
}

-- ---- legal runs

load_had_room : (shape : Shape) (graph : ℕ → Graph) (first : ℕ) (txns : List Txn) (k n : ℕ) (txn : Txn) → n ≡ first + k → EntriesHaveRoom shape graph first txns
    → item_at txns k ≡ Some txn → full_rank shape (graph n) txn ≡ None
load_had_room shape graph first [] k n txn sum room is = nothing txn is
load_had_room shape graph first (t ∷ ts) zero n txn sum room is =
    let here : first ≡ n = omega arith in
    subst (λ m. full_rank shape (graph m) txn ≡ None) here (subst (λ x. full_rank shape (graph first) x ≡ None) (same_value t txn is) room.0)
load_had_room shape graph first (t ∷ ts) (suc k) n txn sum room is = load_had_room shape graph (first + 1) ts k n txn (omega arith) room.1 is

All-item : {X : Type 0} (P : X → Type 0) (xs : List X) (k : ℕ) (x : X) → AllByRecursion P xs → item_at xs k ≡ Some x → P x
All-item P [] k x all is = nothing x is
All-item P (y ∷ ys) zero x all is = subst P (same_value y x is) all.0
All-item P (y ∷ ys) (suc k) x all is = All-item P ys k x all.1 is

-- the first that passes
All-first : {X : Type 0} (P : X → Type 0) (p : X → Bool) (xs : List X) (x : X) → AllByRecursion P xs → prelude.find p xs ≡ Some x → (p x ≡ true) × P x
All-first P p [] x all is = nothing x is
All-first P p (y ∷ ys) x all is =
    elim (p y) as (λ b. p y ≡ b → (if b then Some y else prelude.find p ys) ≡ Some x → (p x ≡ true) × P x) [
      | true ↦ λ passes found. subst (λ z. (p z ≡ true) × P z) (same_value y x found) (passes, all.0)
      | false ↦ λ _ later. All-first P p ys x all.1 later
    ] refl is

All-joined : {X : Type 0} (P : X → Type 0) (xs ys : List X) → AllByRecursion P xs → AllByRecursion P ys → AllByRecursion P (xs ++ ys)
All-joined P [] ys a b = b
All-joined P (x ∷ xs) ys a b = (a.0, All-joined P xs ys a.1 b)

abbrev FitsPlaced : Placed → Type 0
FitsPlaced placed = AllByRecursion FitsCall placed.txn.calls

placed_fit : (section number : ℕ) (txns : List Txn) → FitTransactions txns → AllByRecursion FitsPlaced (placed_from section number txns)
placed_fit section number [] fits = tt
placed_fit section number (txn ∷ txns) fits = (fits.0, placed_fit section (number + 1) txns fits.1)

sections_fit : (section : ℕ) (script : List (List Txn)) → AllByRecursion FitTransactions script → AllByRecursion FitsPlaced (sections_from section script)
sections_fit section [] fits = tt
sections_fit section (txns ∷ script) fits =
    All-joined FitsPlaced (placed_from section 1 txns) (sections_from (section + 1) script) (placed_fit section 1 txns fits.0) (sections_fit (section + 1) script fits.1)

All-zip : {X Y : Type 0} (P : X → Type 0) (xs : List X) (ys : List Y) → AllByRecursion P xs → AllByRecursion (λ pair. P pair.0) (zip xs ys)
All-zip P [] ys all = tt
All-zip P (x ∷ xs) [] all = tt
All-zip P (x ∷ xs) (y ∷ ys) all = (all.0, All-zip P xs ys all.1)

All-two : {X : Type 0} (P Q : X → Type 0) (xs : List X) → AllByRecursion P xs → AllByRecursion Q xs → AllByRecursion (λ x. P x × Q x) xs
All-two P Q [] p q = tt
All-two P Q (x ∷ xs) p q = ((p.0, q.0), All-two P Q xs p.1 q.1)

wrote_had_room : (shape : Shape) (graph : ℕ → Graph) (txn : Txn) (outcome : Outcome) (k : ℕ) → option_map_or (λ n. n == k) (entry_number outcome) false ≡ true
    → EndsByCapacity shape graph txn outcome → full_rank shape (graph k) txn ≡ None
wrote_had_room shape graph txn (Wrote n replies) k is room = subst (λ m. full_rank shape (graph m) txn ≡ None) (eqb-true n k is) room
wrote_had_room shape graph txn (Read place replies) k is room = never is
wrote_had_room shape graph txn Aborted k is room = never is
wrote_had_room shape graph txn (Full rank place) k is room = never is

module _ (shape : Shape) (load : List Txn) (script : List (List Txn)) (run : Printed) (fit_load : FitTransactions load) (fit_script : AllByRecursion FitTransactions script)
    (legal : IsLegalRun shape load script run) where
  abbrev entry : ℕ → Option Txn
  entry = entry_at load (pairs_of script run.lines)

  abbrev graph : ℕ → Graph
  graph = graph_of_run shape load script run

  -- an entry of the history fits, and had room
  abbrev IsGood : ℕ → Txn → Type 0
  IsGood k txn = AllByRecursion FitsCall txn.calls × (full_rank shape (graph k) txn ≡ None)

  each_pair : AllByRecursion (λ pair. FitsPlaced pair.0 × EndsByCapacity shape graph pair.0.txn pair.1.outcome) (pairs_of script run.lines)
  each_pair = All-two _ _ (pairs_of script run.lines) (All-zip FitsPlaced (transactions_of script) run.lines (sections_fit 1 script fit_script)) legal.room

  good_entry : (k : ℕ) → IfSome (entry k) (IsGood k)
  good_entry k =
      elim (item_at (load_entries load) k) as (λ found. item_at (load_entries load) k ≡ found
      → IfSome (option_or found (option_map (λ pair. pair.0.txn) (prelude.find (λ pair. is_entry k pair.1) (pairs_of script run.lines)))) (IsGood k)) [
        | Some txn ↦ λ is. (
          All-item (λ t. AllByRecursion FitsCall t.calls) (load_entries load) k txn (All-filter _ _ is_writing (λ _ _ fits. fits) load fit_load) is,
          load_had_room shape graph 0 (load_entries load) k k txn (omega arith) legal.load_room is,
        )
        | None ↦ λ _.
            elim (prelude.find (λ pair. is_entry k pair.1) (pairs_of script run.lines)) as (λ found. prelude.find (λ pair. is_entry k pair.1) (pairs_of script run.lines) ≡ found
            → IfSome (option_map (λ pair. pair.0.txn) found) (IsGood k)) [
              | None ↦ λ _. tt
              | Some pair ↦ λ is.
                  let good = All-first _ (λ p. is_entry k p.1) (pairs_of script run.lines) pair each_pair is in
                  (good.1.0, wrote_had_room shape graph pair.0.txn pair.1.outcome k good.0 good.1.1)
            ] refl
      ] refl

  fits_entry : (k : ℕ) → IfSome (entry k) (λ txn. AllByRecursion FitsCall txn.calls)
  fits_entry k = elim (entry k) as (λ found. IfSome found (IsGood k) → IfSome found (λ txn. AllByRecursion FitsCall txn.calls)) [ None ↦ λ _. tt | Some txn ↦ λ good. good.0 ] (good_entry k)

  within : IsInRange shape → (n : ℕ) → IsWithinLimits shape (graph n)
  within ranges zero = empty_within shape ranges
  within ranges (suc n) =
      elim (entry n) as (λ found. IfSome found (IsGood n) → IsWithinLimits shape (option_map_or (graph_after_txn shape (graph n)) found (graph n))) [
        | None ↦ λ _. within ranges n
        | Some txn ↦ λ good. txn_keeps_limits shape (graph n) txn (well_formed_history shape entry n fits_entry) good.0 good.1 (within ranges n)
      ] (good_entry n)

pub legal_run_keeps_limits : LegalRunKeepsLimits
legal_run_keeps_limits shape load script run n ranges fit_load fit_script legal = within shape load script run fit_load fit_script legal ranges n
