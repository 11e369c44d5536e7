-- What a graph replies of itself is its summary.
use Rattle.std.proofs.Common.{◌≡◌, ℕ, max, true, false, not, List, [], ◌∷◌, map, length, get_or, Option, Some, None, if◌then◌else◌, refl, ap, ◌∙◌, arith}
use Rattle.std.specs.List.{cons_option, filter, filter_map, fold, reduce}
use Rattle.std.specs.Option.{option_map, unwrap_or}
use Rattle.std.proofs.lemmas.List.{length-map}
use Rattle.gdi_kinds.specs.declared.call.Call.TheVariants as call
use Rattle.gdi_kinds.specs.declared.outcome.Printed.{Printed}
use Rattle.gdi_kinds.specs.declared.pair.Pair.{Pair}
use Rattle.gdi_kinds.specs.declared.reply.Reply.{Reply}
use Rattle.gdi_kinds.specs.declared.reply.Reply.TheVariants as reply
use Rattle.rma_layout.specs.Shape.{Shape}
use Rattle.graph_model.specs.Maps.{keys}
use Rattle.graph_model.specs.Graph.{Graph, is_vertex}
use Rattle.graph_model.specs.Calls.{reply_to}
use Rattle.graph_model.specs.Steps.{answer_of, refused_if, leaves, ◌>>=◌}
use Rattle.graph_model.specs.Transactions.{replies_to}
use Rattle.graph_model.specs.Walks.{level_of}
use Rattle.graph_model.specs.WholeCalls.{is_in_component, part_of}
use Rattle.drill_run.specs.Summaries.{deepest_from, full_count, greatest, part_count, summary_of}
use Rattle.drill_run.specs.Told.{count_told, deepest_told, look_from, parts_told}
use Rattle.drill_run.specs.declared.summary.Summary.{Summary}

pub parts_are : (shape : Shape) (g : Graph) → parts_told (reply_to shape g call.Parts) ≡ part_count g
parts_are shape g = length-map (filter (λ j. is_in_component g j j) (keys g.vertices)) (part_of g)

numbers_are : (level : ℕ → Option ℕ) (ids : List ℕ) → map (λ (pair : Pair). pair.number) (filter_map (λ j. option_map (λ n. record { id = j; number = n }) (level j)) ids) ≡ filter_map level ids
numbers_are level [] = refl
numbers_are level (j ∷ ids) =
    let rest = numbers_are level ids in
    elim (level j) as (λ o. map (λ (pair : Pair). pair.number) (cons_option (option_map (λ n. record { id = j; number = n }) o) (filter_map (λ j. option_map (λ n. record { id = j; number = n }) (level j)) ids)) ≡ cons_option o (filter_map level ids)) [
      | None ↦ rest
      | Some n ↦ ap (λ l. n ∷ l) rest
    ]

pub deepest_is : (shape : Shape) (g : Graph) (from : ℕ) → deepest_told (reply_to shape g (call.Levels from)) ≡ deepest_from g from
deepest_is shape g from =
    let pairs : List Pair = filter_map (λ j. option_map (λ n. record { id = j; number = n }) (level_of g from j)) (keys g.vertices) in
    elim (is_vertex g from) as (λ b. deepest_told (answer_of g (refused_if (not b) (reply.NoVertex from) >>= λ _. leaves g (reply.Levels pairs))).reply ≡ (if b then greatest (filter_map (level_of g from) (keys g.vertices)) else 0)) [
      | true ↦ ap greatest (numbers_are (level_of g from) (keys g.vertices))
      | false ↦ refl
    ]

-- what is told of each reply makes the summary
pub summed : (shape : Shape) (g : Graph) (from : ℕ) (run : Printed) (replies : List Reply) → replies ≡ replies_to shape g (look_from from)
    → (a b p l : Reply) → a ≡ get_or replies 0 a → b ≡ get_or replies 1 b → p ≡ get_or replies 2 p → l ≡ get_or replies 3 l
    → (vertices edges parts deepest full : ℕ) → vertices ≡ count_told a → edges ≡ count_told b → parts ≡ parts_told p → deepest ≡ deepest_told l → full ≡ full_count run
    → ◌≡◌ {A = Summary} (record { vertices = vertices; edges = edges; parts = parts; deepest = deepest; full = full }) (summary_of g from run)
summed shape g from run replies are a b p l first second third fourth vertices edges parts deepest full v e q d f =
    let count : vertices ≡ length g.vertices = v ∙ ap count_told (first ∙ ap (λ rs. get_or rs 0 a) are) in
    let arcs : edges ≡ length g.edges = e ∙ ap count_told (second ∙ ap (λ rs. get_or rs 1 b) are) in
    let components : parts ≡ part_count g = q ∙ ap parts_told (third ∙ ap (λ rs. get_or rs 2 p) are) ∙ parts_are shape g in
    let level : deepest ≡ deepest_from g from = d ∙ ap deepest_told (fourth ∙ ap (λ rs. get_or rs 3 l) are) ∙ deepest_is shape g from in
    λ i. record { vertices = count i; edges = arcs i; parts = components i; deepest = level i; full = f i }

-- the greatest by `max`, and 0 where there is none
pub greatest-of : (numbers : List ℕ) (o : Option ℕ) (r : ℕ) → o ≡ reduce max numbers → r ≡ unwrap_or o 0 → r ≡ greatest numbers
greatest-of [] o r is told = told ∙ ap (λ p. unwrap_or p 0) is
greatest-of (n ∷ ns) o r is told = let first : n ≡ max 0 n = omega arith in told ∙ ap (λ p. unwrap_or p 0) is ∙ ap (λ m. fold max m ns) first
