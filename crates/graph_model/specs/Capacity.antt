-- When a rank has too few blocks for a transaction.
use Rattle.std.specs.Prelude.{ℕ, ◌+◌, ◌-◌, Bool, true, not, ◌&&◌, ◌||◌, List, [], ◌∷◌, ◌++◌, map, sum_by, count_by, Option, Some, None, nat_lt, if◌then◌else◌, ◌==◌}
use Rattle.std.specs.Prelude as prelude
use Rattle.std.specs.Option.{option_to_list, option_map_or, option_or}
use Rattle.std.specs.List.{filter, list_all, range_with_len}
use Rattle.gdi_kinds.specs.declared.call.Call.{Call}
use Rattle.gdi_kinds.specs.declared.call.Call.TheVariants.{Vertex, ETag, ESet, EAdd}
use Rattle.gdi_kinds.specs.declared.txn.Txn.{Txn}
use Rattle.gdi_kinds.specs.Calls.{is_writing}
use Rattle.rma_layout.specs.Shape.{Shape, reserved_blocks}
use Rattle.rma_layout.specs.Placement.{home_of}
use Rattle.graph_model.specs.Maps.{keys}
use Rattle.graph_model.specs.Graph.{Graph, is_vertex, vertex_at, edge_at, is_heavy, is_heavy_at}
use Rattle.graph_model.specs.Sizes.{words_of_vertex, words_of_edge, words_of_bucket, words_of_slot, words_of_names, blocks_of_words}
use Rattle.graph_model.specs.Calls.{graph_after_call}
use Rattle.graph_model.specs.Transactions.{graph_after_calls}

-- the objects of a graph on one rank
pub data Object : Type 0 where
  -- of a reserved block: the names, a bucket or an object of the index
  Reserved : ℕ → Object
  OfVertex : ℕ → Object
  OfHeavyEdge : ℕ → ℕ → Object

abbrev pub is_object : Graph → Object → Bool
is_object g (Reserved block) = true
is_object g (OfVertex id) = is_vertex g id
is_object g (OfHeavyEdge source ordinal) = is_heavy_at g source ordinal

-- block 0 of rank 0 has the names; then come the buckets, and then the index
abbrev pub words_of_reserved : Shape → Graph → ℕ → ℕ → ℕ
words_of_reserved shape g rank block =
    if block == 0 then (if rank == 0 then words_of_names g else 0)
    else (if nat_lt shape.buckets block then words_of_slot shape g (record { rank = rank; block = block })
    else words_of_bucket shape g (record { rank = rank; block = block }))

abbrev pub words_of : Shape → Graph → ℕ → Object → ℕ
words_of shape g rank (Reserved block) = words_of_reserved shape g rank block
words_of shape g rank (OfVertex id) = option_map_or (words_of_vertex g id) (vertex_at g id) 0
words_of shape g rank (OfHeavyEdge source ordinal) = option_map_or words_of_edge (edge_at g source ordinal) 0

-- every reserved one, one of each vertex there, and one of each heavy edge from there
abbrev pub objects_on : Shape → Graph → ℕ → List Object
objects_on shape g rank =
    map Reserved (range_with_len 0 (reserved_blocks shape))
    ++ map OfVertex (filter (λ id. home_of shape id == rank) (keys g.vertices))
    ++ map (λ entry. OfHeavyEdge entry.0.source entry.0.ordinal)
    (filter (λ entry. is_heavy entry.1 && home_of shape entry.0.source == rank) g.edges)

abbrev pub blocks_of_object : Shape → Graph → ℕ → Object → ℕ
blocks_of_object shape g rank object = blocks_of_words shape (words_of shape g rank object)

abbrev pub blocks_used_on : Shape → Graph → ℕ → ℕ
blocks_used_on shape g rank = sum_by (blocks_of_object shape g rank) (objects_on shape g rank)

-- the object that a call may make, and its rank: a vertex's, and an edge's, which a light edge has not
abbrev pub object_to_make : Shape → Call → Option (ℕ × Object)
object_to_make shape (Vertex id) = Some (home_of shape id, OfVertex id)
object_to_make shape (ETag source ordinal label) = Some (home_of shape source, OfHeavyEdge source ordinal)
object_to_make shape (ESet source ordinal prop value) = Some (home_of shape source, OfHeavyEdge source ordinal)
object_to_make shape (EAdd source ordinal prop value) = Some (home_of shape source, OfHeavyEdge source ordinal)
object_to_make shape call = None

-- it is made where it is there afterwards and was not before
abbrev pub rank_if_made : Graph → Graph → ℕ × Object → Option ℕ
rank_if_made before after made =
    if not (is_object before made.1) && is_object after made.1 then Some made.0 else None

-- the rank on which a call makes an object, if it makes one
abbrev pub make_of : Shape → Graph → Call → Option ℕ
make_of shape g call =
    option_map_or (rank_if_made g (graph_after_call shape g call)) (object_to_make shape call) None

-- the ranks on which calls make objects, one after the other
abbrev pub makes : Shape → Graph → List Call → List ℕ
makes shape g [] = []
makes shape g (call ∷ calls) = option_to_list (make_of shape g call) ++ makes shape (graph_after_call shape g call) calls

-- the graphs before the calls, between them and after them
abbrev pub graphs_along : Shape → Graph → List Call → List Graph
graphs_along shape g [] = g ∷ []
graphs_along shape g (call ∷ calls) = g ∷ graphs_along shape (graph_after_call shape g call) calls

-- how many objects calls make on a rank
abbrev pub primaries_made_on : Shape → Graph → List Call → ℕ → ℕ
primaries_made_on shape g calls rank = count_by (λ r. r == rank) (makes shape g calls)

-- How many blocks an object takes besides its first. One that is there all along grows; one that was removed and made
-- again is another.
abbrev pub growth_of : Shape → Graph → Graph → List Graph → ℕ → Object → ℕ
growth_of shape before after along rank object =
    if list_all (λ g. is_object g object) along
    then blocks_of_object shape after rank object - blocks_of_object shape before rank object
    else blocks_of_object shape after rank object - 1

abbrev pub blocks_needed_on : Shape → Graph → List Call → ℕ → ℕ
blocks_needed_on shape g calls rank =
    let after = graph_after_calls shape g calls in
    primaries_made_on shape g calls rank
    + sum_by (growth_of shape g after (graphs_along shape g calls) rank) (objects_on shape after rank)

-- the rank of the first make that finds no block left, after these makes
abbrev pub short_at_make : Shape → Graph → List ℕ → List ℕ → Option ℕ
short_at_make shape g earlier [] = None
short_at_make shape g earlier (rank ∷ ranks) =
    if nat_lt shape.blocks (blocks_used_on shape g rank + count_by (λ r. r == rank) earlier + 1) then Some rank
    else short_at_make shape g (rank ∷ earlier) ranks

-- the least rank whose blocks are fewer than those used and those needed
abbrev pub short_at_commit : Shape → Graph → List Call → Option ℕ
short_at_commit shape g calls =
    prelude.find (λ rank. nat_lt shape.blocks (blocks_used_on shape g rank + blocks_needed_on shape g calls rank)) (range_with_len 0 shape.ranks)

-- the rank by which a transaction is refused for blocks, if it is; one that aborts or doesn't write never is
unfoldable pub full_rank : Shape → Graph → Txn → Option ℕ
full_rank shape g txn =
    if txn.aborts || not (is_writing txn) then None
    else option_or (short_at_make shape g [] (makes shape g txn.calls)) (short_at_commit shape g txn.calls)
