-- What transactions leave, and what histories look at.
use Rattle.std.proofs.Common.{◌≡◌, zero, suc, true, false, not, IsTrue, List, [], ◌∷◌, if◌then◌else◌, Some, None, refl, ap, ◌∙◌, arith}
use Rattle.std.specs.List.{list_any, AllByRecursion}
use Rattle.std.specs.Option.{option_map_or}
use Rattle.std.proofs.lemmas.Bool.{not-true, or_parts, not_from_false}
use Rattle.gdi_kinds.specs.declared.call.Call.{Call}
use Rattle.gdi_kinds.specs.Calls.{is_writing_call}
use Rattle.rma_layout.specs.Shape.{Shape}
use Rattle.graph_model.specs.Graph.{Graph}
use Rattle.graph_model.specs.Calls.{graph_after_call}
use Rattle.graph_model.specs.WellFormed.{IsWellFormed}
use Rattle.graph_model.specs.History.{graph_after}
use Rattle.std.specs.Prelude.{IfSome}
use Rattle.graph_model.specs.Transactions.{graph_after_calls, graph_after_txn}
use Rattle.graph_model.specs.Laws.{AbortLeavesTheGraph, LookingTransactionLeavesTheGraph, GraphLooksAtItsEntriesAlone, FitsCall, EmptyGraphIsWellFormed, TransactionKeepsWellFormed, HistoryIsWellFormed}
use Rattle.graph_model.proofs.Leaving.{looking_call, well_formed_call}

pub abort_leaves : AbortLeavesTheGraph
abort_leaves shape g txn aborts = ap (λ b. if b then g else graph_after_calls shape g txn.calls) aborts

looking_calls : (shape : Shape) (g : Graph) (cs : List Call) → IsTrue (not (list_any is_writing_call cs)) → graph_after_calls shape g cs ≡ g
looking_calls shape g [] looks = refl
looking_calls shape g (c ∷ cs) looks =
    let parts = or_parts (is_writing_call c) (list_any is_writing_call cs) (not-true _ looks) in
    ap (λ h. graph_after_calls shape h cs) (looking_call shape g c (not_from_false _ parts.0)) ∙ looking_calls shape g cs (not_from_false _ parts.1)

pub looking_leaves : LookingTransactionLeavesTheGraph
looking_leaves shape g txn looks = elim txn.aborts as (λ b. (if b then g else graph_after_calls shape g txn.calls) ≡ g) [ true ↦ refl | false ↦ looking_calls shape g txn.calls looks ]

pub looks_at_entries : GraphLooksAtItsEntriesAlone
looks_at_entries shape f h zero same = refl
looks_at_entries shape f h (suc n) same =
    let before = looks_at_entries shape f h n (λ k below. same k (omega arith)) in
    let entry = same n (omega arith) in
    λ i. option_map_or (graph_after_txn shape (before i)) (entry i) (before i)

pub empty_well : EmptyGraphIsWellFormed
empty_well = record { labels = tt; types = tt; vertices = refl; edges = refl; each_vertex = tt; each_edge = tt }

well_formed_calls : (shape : Shape) (g : Graph) (cs : List Call) → IsWellFormed g → AllByRecursion FitsCall cs → IsWellFormed (graph_after_calls shape g cs)
well_formed_calls shape g [] well fits = well
well_formed_calls shape g (c ∷ cs) well fits = well_formed_calls shape (graph_after_call shape g c) cs (well_formed_call shape g c well fits.0) fits.1

pub well_formed_txn : TransactionKeepsWellFormed
well_formed_txn shape g txn well fits = elim txn.aborts as (λ b. IsWellFormed (if b then g else graph_after_calls shape g txn.calls)) [ true ↦ well | false ↦ well_formed_calls shape g txn.calls well fits ]

pub well_formed_history : HistoryIsWellFormed
well_formed_history shape entry zero fits = empty_well
well_formed_history shape entry (suc n) fits =
    let g = graph_after shape entry n in
    let well = well_formed_history shape entry n fits in
    elim (entry n) as (λ found. IfSome found (λ txn. AllByRecursion FitsCall txn.calls) → IsWellFormed (option_map_or (graph_after_txn shape g) found g)) [
      | None ↦ λ _. well
      | Some txn ↦ λ fit. well_formed_txn shape g txn well fit
    ] (fits n)
