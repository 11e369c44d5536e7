-- What holds of every call, transaction and history.
use Rattle.std.specs.Prelude.{◌≡◌, ℕ, ◌+◌, ◌<◌, ◌≤◌, ◌^◌, Bool, true, false, not, IsTrue, Option, Some, None, IsSome, IfSome}
use Rattle.std.specs.List.{AllByRecursion}
use Rattle.gdi_kinds.specs.declared.call.Call.{Call}
use Rattle.gdi_kinds.specs.declared.call.Call.TheVariants as call
use Rattle.gdi_kinds.specs.declared.reply.Reply.{Reply}
use Rattle.gdi_kinds.specs.declared.reply.Reply.TheVariants.{Exists, NoVertex, NoEdge, NoLabel, NoType, NoProp, WrongKind, NotMany, HasLabel, LacksLabel, TooLarge}
use Rattle.gdi_kinds.specs.declared.txn.Txn.{Txn}
use Rattle.gdi_kinds.specs.Names.{IsName}
use Rattle.gdi_kinds.specs.Calls.{is_writing_call, is_writing}
use Rattle.rma_layout.specs.Shape.{Shape}
use Rattle.graph_model.specs.Graph.{Graph, Vertex, Edge, empty_graph, is_vertex}
use Rattle.graph_model.specs.Walks.{is_walk, is_joined, level_of, component_of}
use Rattle.graph_model.specs.WellFormed.{IsValue, IsWellFormed}
use Rattle.graph_model.specs.Sizes.{words_of_vertex, words_of_edge, blocks_of_words}
use Rattle.graph_model.specs.Calls.{graph_after_call, reply_to}
use Rattle.graph_model.specs.Transactions.{graph_after_txn}
use Rattle.graph_model.specs.Capacity.{blocks_used_on, blocks_needed_on, full_rank}
use Rattle.graph_model.specs.History.{graph_after}

-- the replies that refuse a call
abbrev pub is_refusal : Reply → Bool
is_refusal Exists = true
is_refusal (NoVertex id) = true
is_refusal NoEdge = true
is_refusal NoLabel = true
is_refusal NoType = true
is_refusal NoProp = true
is_refusal WrongKind = true
is_refusal NotMany = true
is_refusal HasLabel = true
is_refusal LacksLabel = true
is_refusal TooLarge = true
is_refusal other = false

abbrev pub RefusedCallLeavesTheGraph : Type 0
RefusedCallLeavesTheGraph = (shape : Shape) (g : Graph) (call : Call) → IsTrue (is_refusal (reply_to shape g call)) → graph_after_call shape g call ≡ g

abbrev pub LookingCallLeavesTheGraph : Type 0
LookingCallLeavesTheGraph = (shape : Shape) (g : Graph) (call : Call) → IsTrue (not (is_writing_call call)) → graph_after_call shape g call ≡ g

abbrev pub AbortLeavesTheGraph : Type 0
AbortLeavesTheGraph = (shape : Shape) (g : Graph) (txn : Txn) → IsTrue txn.aborts → graph_after_txn shape g txn ≡ g

abbrev pub LookingTransactionLeavesTheGraph : Type 0
LookingTransactionLeavesTheGraph = (shape : Shape) (g : Graph) (txn : Txn) → IsTrue (not (is_writing txn)) → graph_after_txn shape g txn ≡ g

abbrev pub AbortIsNeverFull : Type 0
AbortIsNeverFull = (shape : Shape) (g : Graph) (txn : Txn) → IsTrue txn.aborts → full_rank shape g txn ≡ None

abbrev pub LookingTransactionIsNeverFull : Type 0
LookingTransactionIsNeverFull = (shape : Shape) (g : Graph) (txn : Txn) → IsTrue (not (is_writing txn)) → full_rank shape g txn ≡ None

-- the blocks used and those needed are more than the rank has
abbrev pub IsShortOn : Shape → Graph → Txn → ℕ → Type 0
IsShortOn shape g txn rank = shape.blocks < blocks_used_on shape g rank + blocks_needed_on shape g txn.calls rank

abbrev pub NamedRankIsShort : Type 0
NamedRankIsShort = (shape : Shape) (g : Graph) (txn : Txn) (rank : ℕ) → full_rank shape g txn ≡ Some rank → IsShortOn shape g txn rank

-- one that writes and commits
abbrev pub ShortTransactionIsFull : Type 0
ShortTransactionIsFull = (shape : Shape) (g : Graph) (txn : Txn) (rank : ℕ) → IsTrue (not txn.aborts) → IsTrue (is_writing txn)
    → rank < shape.ranks → IsShortOn shape g txn rank → IsSome (full_rank shape g txn)

-- two histories that agree below n
abbrev pub GraphLooksAtItsEntriesAlone : Type 0
GraphLooksAtItsEntriesAlone = (shape : Shape) (f h : ℕ → Option Txn) (n : ℕ) → ((k : ℕ) → k < n → f k ≡ h k) → graph_after shape f n ≡ graph_after shape h n

abbrev pub ObjectsHaveWords : Type 0
ObjectsHaveWords = ((g : Graph) (id : ℕ) (vertex : Vertex) → 5 ≤ words_of_vertex g id vertex) × ((edge : Edge) → 5 ≤ words_of_edge edge)

abbrev pub ObjectsHaveABlock : Type 0
ObjectsHaveABlock = (shape : Shape) (words : ℕ) → 1 ≤ blocks_of_words shape words

-- what a call would put into the graph is a name, a value or an identifier
abbrev pub FitsCall : Call → Type 0
FitsCall (call.NewLabel name) = IsName name
FitsCall (call.NewType name kind many) = IsName name
FitsCall (call.Vertex id) = id < 2 ^ 64
FitsCall (call.Set id prop value) = IsValue value
FitsCall (call.Add id prop value) = IsValue value
FitsCall (call.ESet source ordinal prop value) = IsValue value
FitsCall (call.EAdd source ordinal prop value) = IsValue value
FitsCall other = Unit {0}

abbrev pub CallKeepsWellFormed : Type 0
CallKeepsWellFormed = (shape : Shape) (g : Graph) (call : Call) → IsWellFormed g → FitsCall call → IsWellFormed (graph_after_call shape g call)

abbrev pub EmptyGraphIsWellFormed : Type 0
EmptyGraphIsWellFormed = IsWellFormed empty_graph

abbrev pub TransactionKeepsWellFormed : Type 0
TransactionKeepsWellFormed = (shape : Shape) (g : Graph) (txn : Txn) → IsWellFormed g → AllByRecursion FitsCall txn.calls → IsWellFormed (graph_after_txn shape g txn)

-- a history all of whose entries fit
abbrev pub HistoryIsWellFormed : Type 0
HistoryIsWellFormed = (shape : Shape) (entry : ℕ → Option Txn) (n : ℕ) → ((k : ℕ) → IfSome (entry k) (λ txn. AllByRecursion FitsCall txn.calls)) → IsWellFormed (graph_after shape entry n)

-- the level of j from i is the number of steps of a walk, and no walk has fewer
abbrev pub LevelIsLeast : Type 0
LevelIsLeast = (g : Graph) (i j n : ℕ) → level_of g i j ≡ Some n → IsTrue (is_walk g n i j) × ((m : ℕ) → m < n → is_walk g m i j ≡ false)

-- though `level_of` looks at walks of fewer steps than there are vertices alone
abbrev pub EachWalkHasALevel : Type 0
EachWalkHasALevel = (g : Graph) (i j m : ℕ) → IsWellFormed g → IsTrue (is_vertex g i) → IsTrue (is_walk g m i j) → IsSome (level_of g i j)

-- a walk joins i with its component's name, directions ignored, and with no lesser identifier
abbrev pub ComponentIsLeast : Type 0
ComponentIsLeast = (g : Graph) (i j : ℕ) → IsWellFormed g → IsTrue (is_vertex g i) → component_of g i ≡ Some j
    → ((n : ℕ) × IsTrue (is_joined g n i j)) × ((k m : ℕ) → IsTrue (is_joined g m i k) → j ≤ k)

abbrev pub EachVertexHasAComponent : Type 0
EachVertexHasAComponent = (g : Graph) (i : ℕ) → IsWellFormed g → IsTrue (is_vertex g i) → IsSome (component_of g i)
