-- What the bare calls do to bare graphs: a set of identifiers says all there is of one.
use Rattle.std.proofs.Common.{◌≡◌, ℕ, ◌+◌, ◌*◌, ◌≤◌, Bool, true, false, cond, not, ◌||◌, List, [], ◌∷◌, length, if◌then◌else◌, Some, refl, ap, sym, subst, ◌∙◌, is_some, eqb, arith}
use Rattle.std.specs.List.{AllByRecursion, count_by}
use Rattle.std.specs.Ordering.{nat_cmp}
use Rattle.std.specs.declared.cmp.Ordering.TheVariants.{Less, Equal, Greater}
use Rattle.std.specs.FinMap.Entries.{find, by_order}
use Rattle.std.proofs.lemmas.List.Sums.{sum_by-cons}
use Rattle.gdi_kinds.specs.declared.call.Call.{Call}
use Rattle.gdi_kinds.specs.declared.call.Call.TheVariants as call
use Rattle.gdi_kinds.specs.declared.reply.Reply.{Reply}
use Rattle.gdi_kinds.specs.declared.reply.Reply.TheVariants as reply
use Rattle.rma_layout.specs.Shape.{Shape}
use Rattle.rma_layout.specs.Placement.{Place, same_place, bucket_of}
use Rattle.graph_model.specs.Maps.{Map, has, add, take_out, with_at, without}
use Rattle.graph_model.specs.Graph.{Vertex, new_vertex, is_vertex}
use Rattle.graph_model.specs.Sizes.{words_of_bucket}
use Rattle.graph_model.specs.Steps.{Answer}
use Rattle.graph_model.specs.Calls.{answer_to, graph_after_call, reply_to}
use Rattle.graph_model.specs.Transactions.{graph_after_calls, replies_to_calls}
use Rattle.graph_model.specs.Bare.{graph_of_vertices, bare_graph, IsBareCall, is_vertex_call}
use Rattle.graph_model.proofs.Sets.{is_eq-nat_cmp, length-add-le, length-filter-le}
use Rattle.graph_model.proofs.VertexSteps.{is_bucket_full, answer_to-vertex, answer_to-has, answer_to-drop}

-- the vertices of a bare graph
abbrev vertices_of : List ℕ → Map ℕ Vertex
vertices_of ids = (bare_graph ids).vertices

pub is_vertex-bare : (ids : List ℕ) (id : ℕ) → is_vertex (bare_graph ids) id ≡ has ids id
is_vertex-bare [] id = refl
is_vertex-bare (x ∷ xs) id =
    ap (λ same. is_some (cond same (Some new_vertex) (find nat_cmp id (bare_graph xs).vertices))) (is_eq-nat_cmp id x)
    ∙ elim (eqb x id) as (λ same. is_some (cond same (Some new_vertex) (find nat_cmp id (bare_graph xs).vertices)) ≡ (same || has xs id)) [
      | true ↦ refl
      | false ↦ is_vertex-bare xs id
    ]

-- a vertex that is there already is new too, so this holds of it as well
with_at-bare : (id : ℕ) (ids : List ℕ) → with_at (vertices_of ids) id new_vertex ≡ vertices_of (add id ids)
with_at-bare id [] = refl
with_at-bare id (x ∷ xs) =
    elim (nat_cmp id x) as (λ order. by_order order (vertices_of (id ∷ x ∷ xs)) (vertices_of (x ∷ xs)) ((x, new_vertex) ∷ with_at (vertices_of xs) id new_vertex) ≡ vertices_of (by_order order (id ∷ x ∷ xs) (x ∷ xs) (x ∷ add id xs))) [
      | Less ↦ refl
      | Equal ↦ refl
      | Greater ↦ ap (λ later. (x, new_vertex) ∷ later) (with_at-bare id xs)
    ]

without-bare : (id : ℕ) (ids : List ℕ) → without (vertices_of ids) id ≡ vertices_of (take_out id ids)
without-bare id [] = refl
without-bare id (x ∷ xs) =
    elim (not (eqb x id)) as (λ stays. cond stays ((x, new_vertex) ∷ without (vertices_of xs) id) (without (vertices_of xs) id) ≡ vertices_of (cond stays (x ∷ take_out id xs) (take_out id xs))) [
      | true ↦ ap (λ later. (x, new_vertex) ∷ later) (without-bare id xs)
      | false ↦ without-bare id xs
    ]

-- whether this identifier has the bucket at a place
abbrev pub is_in_bucket : Shape → Place → ℕ → Bool
is_in_bucket shape place id = same_place (bucket_of shape id) place

count_by-bare : (p : ℕ → Bool) (ids : List ℕ) → count_by (λ entry. p entry.0) (bare_graph ids).vertices ≡ count_by p ids
count_by-bare p [] = refl
count_by-bare p (x ∷ xs) =
    sum_by-cons (λ (entry : ℕ × Vertex). cond (p entry.0) 1 0) (x, new_vertex) (bare_graph xs).vertices
    ∙ ap (λ n. cond (p x) 1 0 + n) (count_by-bare p xs)
    ∙ sym (sum_by-cons (λ id. cond (p id) 1 0) x xs)

pub words_of_bucket-bare : (shape : Shape) (ids : List ℕ) (place : Place) → words_of_bucket shape (bare_graph ids) place ≡ 2 * count_by (is_in_bucket shape place) ids
words_of_bucket-bare shape ids place = ap (λ n. 2 * n) (count_by-bare (is_in_bucket shape place) ids)

-- the set after a call, and its reply
abbrev pub ids_after_call : Shape → List ℕ → Call → List ℕ
ids_after_call shape ids (call.Vertex id) = if has ids id || is_bucket_full shape (vertices_of ids) id then ids else add id ids
ids_after_call shape ids (call.DropVertex id) = take_out id ids
ids_after_call shape ids other = ids

abbrev pub reply_by_ids : Shape → List ℕ → Call → Reply
reply_by_ids shape ids (call.Vertex id) = if has ids id then reply.Exists else (if is_bucket_full shape (vertices_of ids) id then reply.TooLarge else reply.Done)
reply_by_ids shape ids (call.Has id) = if has ids id then reply.Yes else reply.No
reply_by_ids shape ids (call.DropVertex id) = if has ids id then reply.Done else reply.NoVertex id
reply_by_ids shape ids other = reply.No

leaving : (reply : Reply) (vertices : Map ℕ Vertex) (ids : List ℕ) → vertices ≡ vertices_of ids → ◌≡◌ {A = Answer} (record { graph = graph_of_vertices vertices; reply = reply }) (record { graph = bare_graph ids; reply = reply })
leaving reply vertices ids is = ap (λ entries. record { graph = graph_of_vertices entries; reply = reply }) is

-- a bare call leaves a bare graph, and looks at the set alone
pub answer_to-bare : (shape : Shape) (ids : List ℕ) (c : Call) → IsBareCall c → answer_to shape (bare_graph ids) c ≡ (record { graph = bare_graph (ids_after_call shape ids c); reply = reply_by_ids shape ids c })
answer_to-bare shape ids (call.Vertex id) bare =
    let after = elim (has ids id || is_bucket_full shape (vertices_of ids) id) as (λ refused. (if refused then vertices_of ids else with_at (vertices_of ids) id new_vertex) ≡ vertices_of (if refused then ids else add id ids)) [ true ↦ refl | false ↦ with_at-bare id ids ] in
    answer_to-vertex shape (vertices_of ids) id (has ids id) _ (is_vertex-bare ids id) refl ∙ leaving _ _ (ids_after_call shape ids (call.Vertex id)) after
answer_to-bare shape ids (call.Has id) bare = answer_to-has shape (vertices_of ids) id (has ids id) (is_vertex-bare ids id)
answer_to-bare shape ids (call.DropVertex id) bare =
    answer_to-drop shape (vertices_of ids) id (has ids id) (is_vertex-bare ids id) ∙ leaving _ _ (take_out id ids) (without-bare id ids)
answer_to-bare shape ids other bare = absurd bare

pub graph_after_call-bare : (shape : Shape) (ids : List ℕ) (c : Call) → IsBareCall c → graph_after_call shape (bare_graph ids) c ≡ bare_graph (ids_after_call shape ids c)
graph_after_call-bare shape ids c bare = ap (λ (answer : Answer). answer.graph) (answer_to-bare shape ids c bare)

pub reply_to-bare : (shape : Shape) (ids : List ℕ) (c : Call) → IsBareCall c → reply_to shape (bare_graph ids) c ≡ reply_by_ids shape ids c
reply_to-bare shape ids c bare = ap (λ (answer : Answer). answer.reply) (answer_to-bare shape ids c bare)

pub length-after_call : (shape : Shape) (ids : List ℕ) (c : Call) → length (ids_after_call shape ids c) ≤ length ids + cond (is_vertex_call c) 1 0
length-after_call shape ids (call.Vertex id) = elim (has ids id || is_bucket_full shape (vertices_of ids) id) as (λ b. length (if b then ids else add id ids) ≤ length ids + 1) [ true ↦ omega arith | false ↦ length-add-le id ids ]
length-after_call shape ids (call.DropVertex id) = omega (arith, length-filter-le (λ m. not (eqb m id)) ids)
length-after_call shape ids other = omega arith

-- the set after calls
abbrev pub ids_after_calls : Shape → List ℕ → List Call → List ℕ
ids_after_calls shape ids [] = ids
ids_after_calls shape ids (c ∷ cs) = ids_after_calls shape (ids_after_call shape ids c) cs

pub graph_after_calls-bare : (shape : Shape) (ids : List ℕ) (cs : List Call) → AllByRecursion IsBareCall cs → graph_after_calls shape (bare_graph ids) cs ≡ bare_graph (ids_after_calls shape ids cs)
graph_after_calls-bare shape ids [] bare = refl
graph_after_calls-bare shape ids (c ∷ cs) bare =
    ap (λ g. graph_after_calls shape g cs) (graph_after_call-bare shape ids c bare.0) ∙ graph_after_calls-bare shape (ids_after_call shape ids c) cs bare.1

-- what holds of the reply to each call that may come holds of the replies to all
pub replies_to_calls-bare : (shape : Shape) (MayCome : Call → Type 0) (P : Reply → Type 0) → ((c : Call) → MayCome c → IsBareCall c) → ((ids : List ℕ) (c : Call) → MayCome c → P (reply_by_ids shape ids c))
    → (ids : List ℕ) (cs : List Call) → AllByRecursion MayCome cs → AllByRecursion P (replies_to_calls shape (bare_graph ids) cs)
replies_to_calls-bare shape MayCome P bare each ids [] may = tt
replies_to_calls-bare shape MayCome P bare each ids (c ∷ cs) may =
    let after = graph_after_call-bare shape ids c (bare c may.0) in
    let here = subst P (sym (reply_to-bare shape ids c (bare c may.0))) (each ids c may.0) in
    (here, subst (λ g. AllByRecursion P (replies_to_calls shape g cs)) (sym after) (replies_to_calls-bare shape MayCome P bare each (ids_after_call shape ids c) cs may.1))

pub length-after_calls : (shape : Shape) (ids : List ℕ) (cs : List Call) → length (ids_after_calls shape ids cs) ≤ length ids + count_by is_vertex_call cs
length-after_calls shape ids [] = omega arith
length-after_calls shape ids (c ∷ cs) =
    omega (arith, length-after_call shape ids c, length-after_calls shape (ids_after_call shape ids c) cs, sum_by-cons (λ call. cond (is_vertex_call call) 1 0) c cs)
