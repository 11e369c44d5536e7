-- Which calls may change the graph, and which look at the whole of it; and the same of transactions.
use Rattle.std.specs.Prelude.{Bool, true, false, not, if◌then◌else◌}
use Rattle.std.specs.List.{list_any, list_all}
use Rattle.gdi_kinds.specs.declared.call.Call.{Call}
use Rattle.gdi_kinds.specs.declared.call.Call.TheVariants.{NewLabel, NewType, Vertex, DropVertex, Tag, Untag, Set, Add, Unset, Edge, UEdge, Cut, ETag, EUntag, ESet, EAdd, EUnset, Hood, Levels, Parts, Scan, Vertices, Arcs}
use Rattle.gdi_kinds.specs.declared.txn.Txn.{Txn}

-- the calls that may change the graph
abbrev pub is_writing_call : Call → Bool
is_writing_call (NewLabel name) = true
is_writing_call (NewType name kind many) = true
is_writing_call (Vertex id) = true
is_writing_call (DropVertex id) = true
is_writing_call (Tag id label) = true
is_writing_call (Untag id label) = true
is_writing_call (Set id prop value) = true
is_writing_call (Add id prop value) = true
is_writing_call (Unset id prop) = true
is_writing_call (Edge source target label) = true
is_writing_call (UEdge source target label) = true
is_writing_call (Cut source ordinal) = true
is_writing_call (ETag source ordinal label) = true
is_writing_call (EUntag source ordinal label) = true
is_writing_call (ESet source ordinal prop value) = true
is_writing_call (EAdd source ordinal prop value) = true
is_writing_call (EUnset source ordinal prop) = true
is_writing_call call = false

-- the whole-graph calls
abbrev pub is_whole_call : Call → Bool
is_whole_call (Hood id depth) = true
is_whole_call (Levels id) = true
is_whole_call Parts = true
is_whole_call (Scan label test) = true
is_whole_call Vertices = true
is_whole_call Arcs = true
is_whole_call call = false

-- a transaction writes if its text has a writing call, whatever the replies are
abbrev pub is_writing : Txn → Bool
is_writing txn = list_any is_writing_call txn.calls

-- it says itself whether it looks at the whole graph
abbrev pub is_whole : Txn → Bool
is_whole txn = txn.whole

-- one that looks at the whole graph holds whole-graph calls alone, and any other holds none
abbrev pub holds_its_calls : Txn → Bool
holds_its_calls txn =
    if txn.whole then list_all is_whole_call txn.calls else not (list_any is_whole_call txn.calls)
