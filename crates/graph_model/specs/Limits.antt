-- What each graph keeps to that a legal run reaches: no rank uses more blocks than it has, and no object has more words
-- than an object may have.
use Rattle.std.specs.Prelude.{◌≡◌, ℕ, ◌<◌, ◌≤◌, List, None}
use Rattle.std.specs.List.{AllByRecursion}
use Rattle.gdi_kinds.specs.declared.call.Call.{Call}
use Rattle.gdi_kinds.specs.declared.txn.Txn.{Txn}
use Rattle.gdi_kinds.specs.declared.outcome.Printed.{Printed}
use Rattle.rma_layout.specs.Shape.{Shape}
use Rattle.rma_layout.specs.Ranges.{IsInRange}
use Rattle.graph_model.specs.Graph.{Graph}
use Rattle.graph_model.specs.Sizes.{most_words}
use Rattle.graph_model.specs.WellFormed.{IsWellFormed}
use Rattle.graph_model.specs.Calls.{graph_after_call}
use Rattle.graph_model.specs.Transactions.{graph_after_txn}
use Rattle.graph_model.specs.Capacity.{Object, words_of, blocks_used_on, full_rank}
use Rattle.graph_model.specs.LegalRun.{graph_of_run, IsLegalRun}
use Rattle.graph_model.specs.Laws.{FitsCall}

-- of any object; one that isn't there has no word
abbrev pub HasShortObjects : Shape → Graph → Type 0
HasShortObjects shape g = (rank : ℕ) (object : Object) → words_of shape g rank object ≤ most_words

abbrev pub HasBlocksForAll : Shape → Graph → Type 0
HasBlocksForAll shape g = (rank : ℕ) → rank < shape.ranks → blocks_used_on shape g rank ≤ shape.blocks

pub record IsWithinLimits (shape : Shape) (g : Graph) : Type 0 where
  pub words : HasShortObjects shape g
  pub blocks : HasBlocksForAll shape g

-- what the transactions would put into the graph are names, values and identifiers
abbrev pub FitTransactions : List Txn → Type 0
FitTransactions txns = AllByRecursion (λ txn. AllByRecursion FitsCall txn.calls) txns

abbrev pub CallKeepsObjectsShort : Type 0
CallKeepsObjectsShort =
    (shape : Shape) (g : Graph) (call : Call) → IsWellFormed g → HasShortObjects shape g → HasShortObjects shape (graph_after_call shape g call)

-- a transaction that isn't refused for blocks
abbrev pub TransactionKeepsLimits : Type 0
TransactionKeepsLimits =
    (shape : Shape) (g : Graph) (txn : Txn) → IsWellFormed g → AllByRecursion FitsCall txn.calls → full_rank shape g txn ≡ None
    → IsWithinLimits shape g → IsWithinLimits shape (graph_after_txn shape g txn)

abbrev pub LegalRunKeepsLimits : Type 0
LegalRunKeepsLimits =
    (shape : Shape) (load : List Txn) (script : List (List Txn)) (run : Printed) (n : ℕ) → IsInRange shape
    → FitTransactions load → AllByRecursion FitTransactions script → IsLegalRun shape load script run
    → IsWithinLimits shape (graph_of_run shape load script run n)
