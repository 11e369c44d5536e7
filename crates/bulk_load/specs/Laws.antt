-- What holds of every load file that is a transaction.
use Rattle.std.specs.Prelude.{◌≡◌, ℕ, Bool, true, false, List}
use Rattle.std.specs.List.{AllByRecursion}
use Rattle.gdi_kinds.specs.declared.reply.Reply.{Reply}
use Rattle.gdi_kinds.specs.declared.reply.Reply.TheVariants.{Done, EdgeIs}
use Rattle.gdi_kinds.specs.declared.txn.Txn.{Txn}
use Rattle.graph_model.specs.Transactions.{replies_to}
use Rattle.map_graph.specs.Plain.{Plain}
use Rattle.bulk_load.specs.declared.load_file.LoadFile.{LoadFile}
use Rattle.bulk_load.specs.Loads.{Loads}

-- the replies to a call that is done: the new edge, and else no more than that
abbrev pub is_success : Reply → Bool
is_success Done = true
is_success (EdgeIs source ordinal) = true
is_success other = false

-- on the graph on which a file is a transaction, no call of it is refused
abbrev pub LoadedCallsSucceed : Type 0
LoadedCallsSucceed = (file : LoadFile) (bytes : List ℕ) (before : Plain) (txn : Txn) → Loads file bytes before txn
    → AllByRecursion (λ reply. is_success reply ≡ true) (replies_to before.shape before.graph txn)
