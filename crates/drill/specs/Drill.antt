-- The load and the script of a drill of `n` vertices.
use Rattle.std.specs.Prelude.{ℕ, ◌+◌, ◌*◌, ◌/◌, ◌%◌, ◌==◌, pos, false, List, [], ◌∷◌, ◌++◌, map, flat_map, filter, None, codes, if◌then◌else◌}
use Rattle.std.specs.List.{range_with_len}
use Rattle.gdi_kinds.specs.declared.call.Call.{Call}
use Rattle.gdi_kinds.specs.declared.call.Call.TheVariants.{NewLabel, NewType, Vertex, Tag, Set, Edge, Near}
use Rattle.gdi_kinds.specs.declared.call.Dir.TheVariants.{Either}
use Rattle.gdi_kinds.specs.declared.txn.Txn.{Txn}
use Rattle.gdi_kinds.specs.declared.value.Kind.TheVariants as kind
use Rattle.gdi_kinds.specs.declared.value.Value.TheVariants as value
use Rattle.drill.specs.Draws.{drawn}

abbrev pub node : List ℕ
node = codes "Node"

abbrev pub number : List ℕ
number = codes "n"

-- a transaction that asks for no whole graph and ends
abbrev pub local_txn : List Call → Txn
local_txn calls = record { whole = false; calls = calls; aborts = false }

-- a vertex is made, has the label if it is even, and keeps its number
abbrev pub vertex_calls : ℕ → List Call
vertex_calls i =
    Vertex i ∷ (if i % 2 == 0 then Tag i node ∷ [] else []) ++ Set i number (value.Int (pos i)) ∷ []

abbrev pub all_vertices : ℕ → Txn
all_vertices n =
    local_txn (NewLabel node ∷ NewType number kind.Int false ∷ flat_map vertex_calls (range_with_len 0 n))

-- an edge of the load: its source is drawn, and then its target
abbrev pub edge_call : ℕ → ℕ → ℕ → Call
edge_call n seed i = Edge (drawn seed n (2 * i)) (drawn seed n (2 * i + 1)) None

abbrev pub all_edges : ℕ → ℕ → Txn
all_edges n seed = local_txn (map (edge_call n seed) (range_with_len 0 n))

abbrev pub drill_load : ℕ → ℕ → List Txn
drill_load n seed = all_vertices n ∷ all_edges n seed ∷ []

-- a vertex gets an edge to another, and the number behind its own
abbrev pub grows : ℕ → ℕ → Txn
grows i target = local_txn (Edge i target None ∷ Set i number (value.Int (pos (i + 1))) ∷ [])

-- a vertex is asked for its neighbours
abbrev pub asks : ℕ → Txn
asks i = local_txn (Near i Either ∷ [])

-- what is drawn for the k-th even vertex, behind the draws of the load
abbrev pub target_of : ℕ → ℕ → ℕ → ℕ
target_of n seed k = drawn seed n (2 * n + k)

-- even vertices grow, and odd ones are asked
abbrev pub step_of : ℕ → ℕ → ℕ → Txn
step_of n seed i = if i % 2 == 0 then grows i (target_of n seed (i / 2)) else asks i

-- the vertices go round eight sections
abbrev pub section_of : ℕ → ℕ → ℕ → List Txn
section_of n seed s = map (step_of n seed) (filter (λ i. i % 8 == s) (range_with_len 0 n))

abbrev pub drill_script : ℕ → ℕ → List (List Txn)
drill_script n seed = map (section_of n seed) (range_with_len 0 8)
