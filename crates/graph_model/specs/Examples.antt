-- Scripts with the replies that the definitions give them, and the sizes of small objects.
use Rattle.std.specs.Prelude.{◌≡◌, ◌-◌, ◌^◌, ℕ, List, [], ◌∷◌, ◌++◌, map, Some, None, true, false, pos, codes, replicate}
use Rattle.std.specs.List.{range_with_len}
use Rattle.gdi_kinds.specs.declared.call.Call.{Call}
use Rattle.gdi_kinds.specs.declared.call.Call.TheVariants.{Add, Arcs, Cut, Degree, DropVertex, EAdd, EGet, ESet, ETags, EUnset, Edge, Edges, Find, Get, Has, Hood, Levels, Near, NewLabel, NewType, Parts, Props, Scan, Set, Tag, Tags, UEdge, Unset, Untag, Vertex, Vertices}
use Rattle.gdi_kinds.specs.declared.call.Dir.TheVariants.{Outward, Inward, Undirected, Either}
use Rattle.gdi_kinds.specs.declared.constraint.Atom.TheVariants as atom
use Rattle.gdi_kinds.specs.declared.constraint.Op.TheVariants.{Lt, Gt, Ge}
use Rattle.gdi_kinds.specs.declared.edge_line.EdgeLine.{EdgeLine}
use Rattle.gdi_kinds.specs.declared.reply.Reply.{Reply}
use Rattle.gdi_kinds.specs.declared.reply.Reply.TheVariants as reply
use Rattle.gdi_kinds.specs.declared.value.Kind.TheVariants as kind
use Rattle.gdi_kinds.specs.declared.value.Value.{Value}
use Rattle.gdi_kinds.specs.declared.value.Value.TheVariants as value
use Rattle.gdi_kinds.specs.declared.txn.Txn.{Txn}
use Rattle.rma_layout.specs.Shape.{Shape, standard_shape}
use Rattle.rma_layout.specs.Placement.{bucket_of}
use Rattle.graph_model.specs.Graph.{Graph, Edge as GraphEdge, EdgeKey, empty_graph, new_vertex}
use Rattle.graph_model.specs.Sizes.{words_of_vertex, words_of_bucket, words_of_names, words_of_bytes}
use Rattle.graph_model.specs.Transactions.{replies_to_calls, graph_after_calls, graph_after_txn}
use Rattle.graph_model.specs.Capacity.{makes, full_rank}

-- the graph after these calls alone
abbrev pub made_by : List Call → Graph
made_by calls = graph_after_calls standard_shape empty_graph calls

-- what these calls are answered on a graph, and on the empty one
abbrev pub IsAnswered : Graph → List Call → List Reply → Type 0
IsAnswered g calls replies = replies_to_calls standard_shape g calls ≡ replies

abbrev pub GivesReplies : List Call → List Reply → Type 0
GivesReplies calls replies = IsAnswered empty_graph calls replies

abbrev pub committed : List Call → Txn
committed calls = record { whole = false; calls = calls; aborts = false }

abbrev pub aborted : List Call → Txn
aborted calls = record { whole = false; calls = calls; aborts = true }

-- lines of edges from a source to a target, with their ordinals
abbrev pub out_line : ℕ → ℕ → ℕ → EdgeLine
out_line source ordinal target = record { inward = false; undirected = false; source = source; ordinal = ordinal; target = target }

abbrev pub in_line : ℕ → ℕ → ℕ → EdgeLine
in_line source ordinal target = record { inward = true; undirected = false; source = source; ordinal = ordinal; target = target }

abbrev pub undirected_line : ℕ → ℕ → ℕ → EdgeLine
undirected_line source ordinal target = record { inward = false; undirected = true; source = source; ordinal = ordinal; target = target }

-- a rank of eight blocks, of which five are reserved
abbrev pub small_shape : Shape
small_shape = record { ranks = 1; blocks = 8; words = 8; buckets = 2; slots = 2 }

abbrev pub small_graph : List Call → Graph
small_graph calls = graph_after_calls small_shape empty_graph calls

abbrev pub AbsentVertexIsAnsweredNo : Type 0
AbsentVertexIsAnsweredNo = GivesReplies (Has 7 ∷ []) (reply.No ∷ [])

abbrev pub MadeVertexIsThere : Type 0
MadeVertexIsThere = GivesReplies (Vertex 7 ∷ Has 7 ∷ []) (reply.Done ∷ reply.Yes ∷ [])

abbrev pub SecondVertexExists : Type 0
SecondVertexExists = GivesReplies (Vertex 7 ∷ Vertex 7 ∷ []) (reply.Done ∷ reply.Exists ∷ [])

abbrev pub AbortLeavesNothing : Type 0
AbortLeavesNothing = graph_after_txn standard_shape empty_graph (aborted (Vertex 7 ∷ [])) ≡ empty_graph

-- a vertex that is made again is a second object, on the same rank
abbrev pub VertexMadeAgain : Type 0
VertexMadeAgain = GivesReplies (Vertex 7 ∷ DropVertex 7 ∷ Vertex 7 ∷ []) (reply.Done ∷ reply.Done ∷ reply.Done ∷ [])
    × (makes standard_shape empty_graph (Vertex 7 ∷ DropVertex 7 ∷ Vertex 7 ∷ []) ≡ 3 ∷ 3 ∷ [])

-- three vertices take the three blocks that aren't reserved; one that goes gives its block back
abbrev pub FourthVertexIsFull : Type 0
FourthVertexIsFull = (full_rank small_shape (small_graph (Vertex 1 ∷ Vertex 2 ∷ [])) (committed (Vertex 3 ∷ [])) ≡ None)
    × (full_rank small_shape (small_graph (Vertex 1 ∷ Vertex 2 ∷ Vertex 3 ∷ [])) (committed (Vertex 4 ∷ [])) ≡ Some 0)
    × (full_rank small_shape empty_graph (committed (Vertex 1 ∷ Vertex 2 ∷ Vertex 3 ∷ Vertex 4 ∷ [])) ≡ Some 0)

abbrev pub DroppedVertexGivesRoom : Type 0
DroppedVertexGivesRoom = (full_rank small_shape (small_graph (Vertex 1 ∷ Vertex 2 ∷ Vertex 3 ∷ [])) (committed (DropVertex 2 ∷ [])) ≡ None)
    × (full_rank small_shape (small_graph (Vertex 1 ∷ Vertex 2 ∷ Vertex 3 ∷ DropVertex 2 ∷ [])) (committed (Vertex 4 ∷ [])) ≡ None)

-- one that is removed and made again is a new object, so it takes a free block though the old one has one
abbrev pub VertexMadeAgainIsFull : Type 0
VertexMadeAgainIsFull = full_rank small_shape (small_graph (Vertex 1 ∷ Vertex 2 ∷ Vertex 7 ∷ [])) (committed (DropVertex 7 ∷ Vertex 7 ∷ [])) ≡ Some 0

-- and the edge goes with its vertex
abbrev pub SelfLoopIsListedTwice : Type 0
SelfLoopIsListedTwice = GivesReplies (Vertex 5 ∷ Edge 5 5 None ∷ Edges 5 Either None ∷ DropVertex 5 ∷ Vertex 5 ∷ Edges 5 Either None ∷ [])
    (reply.Done ∷ reply.EdgeIs 5 0
    ∷ reply.Edges (out_line 5 0 5 ∷ in_line 5 0 5 ∷ [])
    ∷ reply.Done ∷ reply.Done ∷ reply.Edges [] ∷ [])

-- an ordinal isn't given out again after a cut, nor do edges to a vertex outlive it
abbrev pub OrdinalsAreNotUsedAgain : Type 0
OrdinalsAreNotUsedAgain = GivesReplies (Vertex 1 ∷ Vertex 2 ∷ Edge 1 2 None ∷ Cut 1 0 ∷ Edge 1 2 None ∷ DropVertex 2 ∷ Degree 1 Either ∷ [])
    (reply.Done ∷ reply.Done ∷ reply.EdgeIs 1 0 ∷ reply.Done ∷ reply.EdgeIs 1 1 ∷ reply.Done ∷ reply.Count 0 ∷ [])

abbrev pub EdgeTurnsHeavy : Type 0
EdgeTurnsHeavy = GivesReplies
    (NewLabel (codes "KNOWS") ∷ NewType (codes "since") kind.Int false ∷ Vertex 1 ∷ Vertex 2 ∷ Edge 1 2 (Some (codes "KNOWS")) ∷ ETags 1 0
    ∷ ESet 1 0 (codes "since") (value.Int (pos 2019)) ∷ EGet 1 0 (codes "since") ∷ ETags 1 0 ∷ Edges 2 Inward None ∷ EUnset 1 0 (codes "since") ∷ EGet 1 0 (codes "since") ∷ [])
    (reply.Done ∷ reply.Done ∷ reply.Done ∷ reply.Done ∷ reply.EdgeIs 1 0 ∷ reply.Labels (codes "KNOWS" ∷ []) ∷ reply.Done ∷ reply.Value (value.Int (pos 2019)) ∷ reply.Labels (codes "KNOWS" ∷ [])
    ∷ reply.Edges (in_line 1 0 2 ∷ []) ∷ reply.Done ∷ reply.NoProp ∷ [])

abbrev pub NameIsLookedUpFirst : Type 0
NameIsLookedUpFirst = GivesReplies (Tag 9 (codes "Absent") ∷ []) (reply.NoLabel ∷ [])

-- the greatest identifier, and the longest text
abbrev pub LongestTextIsKept : Type 0
LongestTextIsKept = GivesReplies
    (NewType (codes "t") kind.Text false ∷ Vertex (2 ^ 64 - 1) ∷ Set (2 ^ 64 - 1) (codes "t") (value.Text (replicate 255 97)) ∷ Get (2 ^ 64 - 1) (codes "t") ∷ [])
    (reply.Done ∷ reply.Done ∷ reply.Done ∷ reply.Value (value.Text (replicate 255 97)) ∷ [])

abbrev pub LabelsAndPropertiesComeAndGo : Type 0
LabelsAndPropertiesComeAndGo = GivesReplies
    (NewLabel (codes "A") ∷ NewType (codes "n") kind.Int false ∷ Vertex 1 ∷ Tag 1 (codes "A") ∷ Set 1 (codes "n") (value.Int (pos 5)) ∷ Props 1 ∷ Untag 1 (codes "A") ∷ Tags 1
    ∷ Unset 1 (codes "n") ∷ Get 1 (codes "n") ∷ Edge 1 1 None ∷ Cut 1 0 ∷ Degree 1 Either ∷ Find (codes "A") None ∷ [])
    (reply.Done ∷ reply.Done ∷ reply.Done ∷ reply.Done ∷ reply.Done ∷ reply.Props ((record { name = codes "n"; value = value.Int (pos 5) }) ∷ []) ∷ reply.Done ∷ reply.Labels []
    ∷ reply.Done ∷ reply.NoProp ∷ reply.EdgeIs 1 0 ∷ reply.Done ∷ reply.Count 0 ∷ reply.Ids [] ∷ [])

-- directions count for levels, and not for components
abbrev pub ComponentsIgnoreDirections : Type 0
ComponentsIgnoreDirections = IsAnswered (made_by (Vertex 9 ∷ Vertex 4 ∷ Vertex 7 ∷ Edge 9 4 None ∷ Edge 7 4 None ∷ [])) (Parts ∷ Levels 4 ∷ Vertices ∷ Arcs ∷ [])
    (reply.Parts ((record { id = 4; number = 3 }) ∷ []) ∷ reply.Levels ((record { id = 4; number = 0 }) ∷ []) ∷ reply.Count 3 ∷ reply.Count 2 ∷ [])
    × GivesReplies (Parts ∷ []) (reply.Parts [] ∷ [])

abbrev pub LevelsInACircle : Type 0
LevelsInACircle = IsAnswered (made_by (Vertex 1 ∷ Vertex 2 ∷ Vertex 3 ∷ Edge 1 2 None ∷ Edge 2 3 None ∷ Edge 3 1 None ∷ [])) (Hood 1 1 ∷ Hood 1 0 ∷ Levels 3 ∷ Levels 8 ∷ Parts ∷ [])
    (reply.Ids (1 ∷ 2 ∷ []) ∷ reply.Ids (1 ∷ []) ∷ reply.Levels ((record { id = 1; number = 1 }) ∷ (record { id = 2; number = 2 }) ∷ (record { id = 3; number = 0 }) ∷ []) ∷ reply.NoVertex 8
    ∷ reply.Parts ((record { id = 1; number = 3 }) ∷ []) ∷ [])

-- with the two records of a self loop
abbrev pub SizesOfASelfLoop : Type 0
SizesOfASelfLoop =
    let looped = made_by (Vertex 5 ∷ Edge 5 5 None ∷ []) in
    (words_of_vertex looped 5 (record new_vertex { next = 1 }) ≡ 15) × (words_of_bucket standard_shape looped (bucket_of standard_shape 5) ≡ 2)

abbrev pub SizeOfOneName : Type 0
SizeOfOneName = (words_of_names (made_by (NewLabel (codes "Person") ∷ [])) ≡ 4) × (words_of_names empty_graph ≡ 0) × (words_of_bytes 9 ≡ 2)

-- an edge from vertex 1 to vertex 2
abbrev pub ray : ℕ → EdgeKey × GraphEdge
ray ordinal = (
  record { source = 1; ordinal = ordinal },
  record { target = 2; undirected = false; labels = []; props = [] },
)

-- vertex 1 with these labels, and so many edges from it
unfoldable pub star : List ℕ → ℕ → Graph
star labels n = record {
  labels = codes "A" ∷ codes "B" ∷ [];
  types = [];
  vertices = (1, record { next = n; labels = labels; props = [] }) ∷ (2, new_vertex) ∷ [];
  edges = map ray (range_with_len 0 n);
}

-- a vertex of 209,714 edges may have one label, and neither a second one nor a further edge
abbrev pub LargestVertex : Type 0
LargestVertex =
    (graph_after_calls standard_shape (star [] 209713) (Edge 1 2 None ∷ []) ≡ star [] 209714)
    × IsAnswered (star [] 209713) (Edge 1 2 None ∷ []) (reply.EdgeIs 1 209713 ∷ [])
    × IsAnswered (star [] 209714) (Edge 1 2 None ∷ Tag 1 (codes "A") ∷ Tag 1 (codes "B") ∷ Edge 1 2 None ∷ [])
    (reply.TooLarge ∷ reply.Done ∷ reply.TooLarge ∷ reply.TooLarge ∷ [])

-- people, where they live and whom they know
abbrev pub people : Graph
people = made_by
    (NewType (codes "name") kind.Text false ∷ NewType (codes "age") kind.Int false ∷ NewType (codes "since") kind.Int false
    ∷ NewLabel (codes "Person") ∷ NewLabel (codes "Author") ∷ NewLabel (codes "Town") ∷ NewLabel (codes "LIVES_IN") ∷ NewLabel (codes "KNOWS")
    ∷ Vertex 1 ∷ Tag 1 (codes "Person") ∷ Set 1 (codes "name") (value.Text (codes "Ada")) ∷ Set 1 (codes "age") (value.Int (pos 36))
    ∷ Vertex 2 ∷ Tag 2 (codes "Person") ∷ Tag 2 (codes "Author") ∷ Set 2 (codes "name") (value.Text (codes "Byron, George"))
    ∷ Vertex 3 ∷ Tag 3 (codes "Person") ∷ Set 3 (codes "name") (value.Text (codes "Mary")) ∷ Set 3 (codes "age") (value.Int (pos 19))
    ∷ Vertex 10 ∷ Tag 10 (codes "Town") ∷ Set 10 (codes "name") (value.Text (codes "London"))
    ∷ Vertex 11 ∷ Tag 11 (codes "Town") ∷ Set 11 (codes "name") (value.Text (codes "Geneva"))
    ∷ Edge 1 10 (Some (codes "LIVES_IN")) ∷ ESet 1 0 (codes "since") (value.Int (pos 1830))
    ∷ Edge 2 11 (Some (codes "LIVES_IN")) ∷ ESet 2 0 (codes "since") (value.Int (pos 1816))
    ∷ Edge 3 11 (Some (codes "LIVES_IN")) ∷ Edge 2 1 (Some (codes "KNOWS")) ∷ Edge 3 2 (Some (codes "KNOWS")) ∷ ESet 3 1 (codes "since") (value.Int (pos 1814)) ∷ [])

abbrev pub PeopleAreListed : Type 0
PeopleAreListed = IsAnswered people (Props 2 ∷ Edges 2 Either None ∷ Find (codes "Town") None ∷ Near 2 Either ∷ [])
    (reply.Props ((record { name = codes "name"; value = value.Text (codes "Byron, George") }) ∷ [])
    ∷ reply.Edges (out_line 2 0 11 ∷ out_line 2 1 1 ∷ in_line 3 1 2 ∷ [])
    ∷ reply.Ids (10 ∷ 11 ∷ []) ∷ reply.Ids (1 ∷ 3 ∷ 11 ∷ []) ∷ [])

abbrev pub PeopleAreSearched : Type 0
PeopleAreSearched = IsAnswered people
    (Hood 3 1 ∷ Levels 3 ∷ Parts ∷ Scan (Some (codes "Person")) (Some ((atom.Prop (codes "age") Ge (value.Int (pos 20)) ∷ []) ∷ [])) ∷ Scan None (Some ((atom.Lacks (codes "Person") ∷ []) ∷ (atom.Has (codes "Author") ∷ []) ∷ [])) ∷ [])
    (reply.Ids (2 ∷ 3 ∷ 11 ∷ [])
    ∷ reply.Levels ((record { id = 1; number = 2 }) ∷ (record { id = 2; number = 1 }) ∷ (record { id = 3; number = 0 }) ∷ (record { id = 10; number = 3 }) ∷ (record { id = 11; number = 1 }) ∷ [])
    ∷ reply.Parts ((record { id = 1; number = 5 }) ∷ []) ∷ reply.Ids (1 ∷ []) ∷ reply.Ids (2 ∷ 10 ∷ 11 ∷ []) ∷ [])

-- an unknown name comes before a vertex that isn't there, and that before a constant of another kind
abbrev pub ConstraintsAreRefused : Type 0
ConstraintsAreRefused = IsAnswered people
    (Edges 9 Either (Some ((atom.Has (codes "Absent") ∷ []) ∷ [])) ∷ Edges 9 Either (Some ((atom.Prop (codes "age") Ge (value.Bool true) ∷ []) ∷ [])) ∷ Edges 2 Either (Some ((atom.Prop (codes "age") Ge (value.Bool true) ∷ []) ∷ [])) ∷ [])
    (reply.NoLabel ∷ reply.NoVertex 9 ∷ reply.WrongKind ∷ [])

abbrev pub int : ℕ → Value
int n = value.Int (pos n)

-- a marked type keeps its values in the order in which they were added, and one may stand there again
abbrev pub ValuesAreKept : Type 0
ValuesAreKept = GivesReplies
    (NewType (codes "n") kind.Int true ∷ Vertex 1 ∷ Add 1 (codes "n") (int 5) ∷ Add 1 (codes "n") (int 3) ∷ Add 1 (codes "n") (int 5)
    ∷ Get 1 (codes "n") ∷ Props 1 ∷ Set 1 (codes "n") (int 9) ∷ Get 1 (codes "n") ∷ Unset 1 (codes "n") ∷ Get 1 (codes "n") ∷ Props 1 ∷ [])
    (reply.Done ∷ reply.Done ∷ reply.Done ∷ reply.Done ∷ reply.Done
    ∷ reply.Values (int 5 ∷ int 3 ∷ int 5 ∷ [])
    ∷ reply.Props ((record { name = codes "n"; value = int 5 }) ∷ (record { name = codes "n"; value = int 3 }) ∷ (record { name = codes "n"; value = int 5 }) ∷ [])
    ∷ reply.Done ∷ reply.Values (int 9 ∷ []) ∷ reply.Done ∷ reply.NoProp ∷ reply.Props [] ∷ [])

-- and so on an edge, which has an object of its own while it has a value
abbrev pub ValuesOfAnEdgeAreKept : Type 0
ValuesOfAnEdgeAreKept =
    let calls = NewType (codes "n") kind.Int true ∷ Vertex 1 ∷ UEdge 1 1 None ∷ EAdd 1 0 (codes "n") (int 5) ∷ [] in
    GivesReplies (calls ++ EAdd 1 0 (codes "n") (int 3) ∷ EGet 1 0 (codes "n") ∷ EAdd 1 1 (codes "n") (int 3) ∷ [])
    (reply.Done ∷ reply.Done ∷ reply.EdgeIs 1 0 ∷ reply.Done ∷ reply.Done ∷ reply.Values (int 5 ∷ int 3 ∷ []) ∷ reply.NoEdge ∷ [])
    × (makes standard_shape empty_graph (calls ++ EAdd 1 0 (codes "n") (int 3) ∷ []) ≡ 1 ∷ 1 ∷ [])

-- a type without the mark takes no second value; a value of another kind is told first
abbrev pub SecondValueIsRefused : Type 0
SecondValueIsRefused = GivesReplies
    (NewType (codes "m") kind.Int false ∷ Vertex 1 ∷ Add 1 (codes "m") (int 5) ∷ Add 1 (codes "m") (value.Text (codes "b")) ∷ Get 1 (codes "m") ∷ Add 2 (codes "m") (int 5) ∷ Add 2 (codes "k") (int 5) ∷ [])
    (reply.Done ∷ reply.Done ∷ reply.NotMany ∷ reply.WrongKind ∷ reply.NoProp ∷ reply.NoVertex 2 ∷ reply.NoType ∷ [])

-- a constraint passes where one of the values does
abbrev pub OneValuePasses : Type 0
OneValuePasses = IsAnswered (made_by (NewType (codes "n") kind.Int true ∷ Vertex 1 ∷ Add 1 (codes "n") (int 5) ∷ Add 1 (codes "n") (int 3) ∷ []))
    (Scan None (Some ((atom.Prop (codes "n") Lt (int 4) ∷ []) ∷ [])) ∷ Scan None (Some ((atom.Prop (codes "n") Gt (int 4) ∷ []) ∷ [])) ∷ Scan None (Some ((atom.Prop (codes "n") Gt (int 5) ∷ []) ∷ [])) ∷ [])
    (reply.Ids (1 ∷ []) ∷ reply.Ids (1 ∷ []) ∷ reply.Ids [] ∷ [])

-- an undirected edge and a directed one, as their target sees them and as their source does
abbrev pub UndirectedEdgeIsListed : Type 0
UndirectedEdgeIsListed =
    GivesReplies (Vertex 1 ∷ Vertex 2 ∷ UEdge 1 2 None ∷ Edge 1 2 None ∷ UEdge 1 3 None ∷ [])
    (reply.Done ∷ reply.Done ∷ reply.EdgeIs 1 0 ∷ reply.EdgeIs 1 1 ∷ reply.NoVertex 3 ∷ [])
    × IsAnswered (made_by (Vertex 1 ∷ Vertex 2 ∷ UEdge 1 2 None ∷ Edge 1 2 None ∷ []))
    (Edges 2 Undirected None ∷ Edges 2 Inward None ∷ Edges 2 Either None ∷ Edges 2 Outward None ∷ Edges 1 Either None ∷ [])
    (reply.Edges (undirected_line 1 0 2 ∷ []) ∷ reply.Edges (in_line 1 1 2 ∷ []) ∷ reply.Edges (undirected_line 1 0 2 ∷ in_line 1 1 2 ∷ []) ∷ reply.Edges []
    ∷ reply.Edges (undirected_line 1 0 2 ∷ out_line 1 1 2 ∷ []) ∷ [])

-- what is near over it, at either end and in each direction
abbrev pub UndirectedEdgeIsNear : Type 0
UndirectedEdgeIsNear = IsAnswered (made_by (Vertex 1 ∷ Vertex 2 ∷ UEdge 1 2 None ∷ []))
    (Near 1 Undirected ∷ Near 2 Undirected ∷ Near 2 Either ∷ Near 1 Outward ∷ Near 2 Inward ∷ [])
    (reply.Ids (2 ∷ []) ∷ reply.Ids (1 ∷ []) ∷ reply.Ids (1 ∷ []) ∷ reply.Ids [] ∷ reply.Ids [] ∷ [])

-- it is walked both ways
abbrev pub UndirectedEdgeIsWalkedBothWays : Type 0
UndirectedEdgeIsWalkedBothWays = IsAnswered (made_by (Vertex 1 ∷ Vertex 2 ∷ Vertex 3 ∷ UEdge 1 2 None ∷ Edge 2 3 None ∷ []))
    (Levels 1 ∷ Levels 2 ∷ Levels 3 ∷ [])
    (reply.Levels ((record { id = 1; number = 0 }) ∷ (record { id = 2; number = 1 }) ∷ (record { id = 3; number = 2 }) ∷ [])
    ∷ reply.Levels ((record { id = 1; number = 1 }) ∷ (record { id = 2; number = 0 }) ∷ (record { id = 3; number = 1 }) ∷ [])
    ∷ reply.Levels ((record { id = 3; number = 0 }) ∷ []) ∷ [])

-- an undirected self loop is two items and one edge
abbrev pub UndirectedSelfLoop : Type 0
UndirectedSelfLoop = IsAnswered (made_by (Vertex 5 ∷ UEdge 5 5 None ∷ []))
    (Edges 5 Undirected None ∷ Degree 5 Either ∷ Degree 5 Outward ∷ Near 5 Either ∷ Arcs ∷ Cut 5 0 ∷ Degree 5 Either ∷ [])
    (reply.Edges (undirected_line 5 0 5 ∷ undirected_line 5 0 5 ∷ []) ∷ reply.Count 2 ∷ reply.Count 0 ∷ reply.Ids (5 ∷ []) ∷ reply.Count 1 ∷ reply.Done ∷ reply.Count 0 ∷ [])
