-- The vertex of the most edges: what it answers.
use Rattle.std.proofs.Common.{◌≡◌, ℕ, zero, suc, ◌+◌, ◌*◌, ◌<◌, ◌≤◌, Bool, true, false, ◌||◌, List, [], ◌∷◌, map, length, if◌then◌else◌, None, refl, ap, ◌∙◌, arith, codes}
use Rattle.std.specs.Prelude.{◌==◌}
use Rattle.std.specs.List.{filter, range_with_len}
use Rattle.std.specs.Ordering.{nat_cmp}
use Rattle.std.specs.declared.cmp.Ordering.TheVariants.{Greater}
use Rattle.std.specs.FinMap.Entries.{put, by_order}
use Rattle.std.proofs.lemmas.Bool.{le-ltb, lt-ltb, ne_eqb, or_from, or_left, or_right}
use Rattle.std.proofs.lemmas.Bool.Decides.{nat_tests}
use Rattle.gdi_kinds.specs.declared.call.Call.{Call}
use Rattle.gdi_kinds.specs.declared.call.Call.TheVariants.{Edge, Tag}
use Rattle.gdi_kinds.specs.declared.reply.Reply.{Reply}
use Rattle.gdi_kinds.specs.declared.reply.Reply.TheVariants as reply
use Rattle.rma_layout.specs.Shape.{standard_shape}
use Rattle.graph_model.specs.Graph.{Graph, edge_cmp, new_vertex}
use Rattle.graph_model.specs.Sizes.{most_words, is_too_large}
use Rattle.graph_model.specs.Steps.{Answer}
use Rattle.graph_model.specs.VertexCalls.{with_vertex}
use Rattle.graph_model.specs.EdgeCalls.{ordinals_end, with_edge, is_vertex_too_large}
use Rattle.graph_model.specs.Calls.{answer_to}
use Rattle.graph_model.specs.Transactions.{graph_after_calls, replies_to_calls}
use Rattle.graph_model.specs.Examples.{ray, star}

-- ---- the edges of the star

from_one : (a n : ℕ) → length (filter (λ entry. entry.0.source == 1) (map ray (range_with_len a n))) ≡ n
from_one a zero = refl
from_one a (suc n) = ap suc (from_one (a + 1) n)

to_one : (a n : ℕ) → length (filter (λ entry. entry.1.target == 1) (map ray (range_with_len a n))) ≡ 0
to_one a zero = refl
to_one a (suc n) = to_one (a + 1) n

from_two : (a n : ℕ) → length (filter (λ entry. entry.0.source == 2) (map ray (range_with_len a n))) ≡ 0
from_two a zero = refl
from_two a (suc n) = from_two (a + 1) n

to_two : (a n : ℕ) → length (filter (λ entry. entry.1.target == 2) (map ray (range_with_len a n))) ≡ n
to_two a zero = refl
to_two a (suc n) = ap suc (to_two (a + 1) n)

above : (n a : ℕ) → a < n → nat_cmp n a ≡ Greater
above n a lt = grind (arith, nat_tests)

-- the next one is put behind them
next_ray : (a n last : ℕ) → a + n ≡ last → put edge_cmp (ray last).0 (ray last).1 (map ray (range_with_len a n)) ≡ map ray (range_with_len a (suc n))
next_ray a zero last sum = let here : last ≡ a = omega arith in ap (λ k. ray k ∷ []) here
next_ray a (suc n) last sum =
    let rest = next_ray (a + 1) n last (omega arith) in
    let rays = map ray (range_with_len (a + 1) n) in
    ap (λ order. by_order order (ray last ∷ ray a ∷ rays) (ray a ∷ rays) (ray a ∷ put edge_cmp (ray last).0 (ray last).1 rays)) (above last a (omega arith))
    ∙ ap (λ later. ray a ∷ later) rest

-- ---- what the star answers

replies_then : (g h : Graph) (c : Call) (cs : List Call) (r : Reply) (rs : List Reply) → answer_to standard_shape g c ≡ (record { graph = h; reply = r }) → replies_to_calls standard_shape h cs ≡ rs
    → replies_to_calls standard_shape g (c ∷ cs) ≡ r ∷ rs
replies_then g h c cs r rs answered later = ap (λ (a : Answer). a.reply ∷ replies_to_calls standard_shape a.graph cs) answered ∙ ap (λ others. r ∷ others) later

large : (n : ℕ) → most_words < n → is_too_large n ≡ true
large n more = lt-ltb most_words n more

fits : (n : ℕ) → n ≤ most_words → is_too_large n ≡ false
fits n few = le-ltb most_words n few

abbrev with_next : List ℕ → ℕ → Graph
with_next labels n =
    with_edge (with_vertex (star labels n) 1 (record { next = n + 1; labels = labels; props = [] })) 1 n (record { target = 2; undirected = false; labels = []; props = [] })

with_next-star : (labels : List ℕ) (n : ℕ) → with_next labels n ≡ star labels (suc n)
unfolding star
with_next-star labels n =
    let edges = next_ray 0 n n (omega arith) in
    let next : n + 1 ≡ suc n = omega arith in
    λ i. record {
      labels = codes "A" ∷ codes "B" ∷ [];
      types = [];
      vertices = (1, record { next = next i; labels = labels; props = [] }) ∷ (2, new_vertex) ∷ [];
      edges = edges i;
    }

one_large : (labels : List ℕ) (n : ℕ) (b : Bool) → is_too_large (5 + length labels + 5 * n) ≡ b → is_vertex_too_large (star labels n) 1 ≡ b
unfolding star
one_large labels n b is =
    let words : 5 + length labels + 0 + 5 * (length (filter (λ entry. entry.0.source == 1) (map ray (range_with_len 0 n))) + length (filter (λ entry. entry.1.target == 1) (map ray (range_with_len 0 n)))) ≡ 5 + length labels + 5 * n =
    omega (arith, from_one 0 n, to_one 0 n) in
    ap is_too_large words ∙ is

two_fits : (labels : List ℕ) (n : ℕ) → 5 + 5 * n ≤ most_words → is_vertex_too_large (star labels n) 2 ≡ false
unfolding star
two_fits labels n few =
    fits (5 + 0 + 0 + 5 * (length (filter (λ entry. entry.0.source == 2) (map ray (range_with_len 0 n))) + length (filter (λ entry. entry.1.target == 2) (map ray (range_with_len 0 n)))))
    (omega (arith, from_two 0 n, to_two 0 n))

abbrev edge_answer : List ℕ → ℕ → Bool → Answer
edge_answer labels n refused =
    if refused then record { graph = star labels n; reply = reply.TooLarge } else record { graph = with_next labels n; reply = reply.EdgeIs 1 n }

edge_answered : (labels : List ℕ) (n : ℕ) (b : Bool) → (n == ordinals_end || is_vertex_too_large (with_next labels n) 1 || is_vertex_too_large (with_next labels n) 2) ≡ b
    → answer_to standard_shape (star labels n) (Edge 1 2 None) ≡ edge_answer labels n b
unfolding star
edge_answered labels n true is = rw is refl
edge_answered labels n false is = rw is refl

-- one more edge, where it fits, and where it doesn't
edge_is_made : (labels : List ℕ) (n : ℕ) → 5 + length labels + 5 * suc n ≤ most_words → answer_to standard_shape (star labels n) (Edge 1 2 None) ≡ (record { graph = star labels (suc n); reply = reply.EdgeIs 1 n })
edge_is_made labels n few =
    let here : is_vertex_too_large (with_next labels n) 1 ≡ false = ap (λ g. is_vertex_too_large g 1) (with_next-star labels n) ∙ one_large labels (suc n) false (fits _ few) in
    let there : is_vertex_too_large (with_next labels n) 2 ≡ false = ap (λ g. is_vertex_too_large g 2) (with_next-star labels n) ∙ two_fits labels (suc n) (omega arith) in
    edge_answered labels n false (or_from (n == ordinals_end || is_vertex_too_large (with_next labels n) 1) _ (or_from (n == ordinals_end) _ (ne_eqb n ordinals_end (λ same. omega arith)) here) there)
    ∙ ap (λ g. record { graph = g; reply = reply.EdgeIs 1 n }) (with_next-star labels n)

edge_is_refused : (labels : List ℕ) (n : ℕ) → most_words < 5 + length labels + 5 * suc n → answer_to standard_shape (star labels n) (Edge 1 2 None) ≡ (record { graph = star labels n; reply = reply.TooLarge })
edge_is_refused labels n more =
    let here : is_vertex_too_large (with_next labels n) 1 ≡ true = ap (λ g. is_vertex_too_large g 1) (with_next-star labels n) ∙ one_large labels (suc n) true (large _ more) in
    edge_answered labels n true (or_left _ _ (or_right (n == ordinals_end) _ here))

-- a label more
abbrev tag_answer : ℕ → List ℕ → List ℕ → Bool → Answer
tag_answer n labels tagged refused =
    if refused then record { graph = star labels n; reply = reply.TooLarge } else record { graph = star tagged n; reply = reply.Done }

tag_a : (n : ℕ) (b : Bool) → is_vertex_too_large (star (0 ∷ []) n) 1 ≡ b → answer_to standard_shape (star [] n) (Tag 1 (codes "A")) ≡ tag_answer n [] (0 ∷ []) b
unfolding star
tag_a n true is = rw is refl
tag_a n false is = rw is refl

tag_b : (n : ℕ) (b : Bool) → is_vertex_too_large (star (0 ∷ 1 ∷ []) n) 1 ≡ b → answer_to standard_shape (star (0 ∷ []) n) (Tag 1 (codes "B")) ≡ tag_answer n (0 ∷ []) (0 ∷ 1 ∷ []) b
unfolding star
tag_b n true is = rw is refl
tag_b n false is = rw is refl

module _ (n : ℕ) (most : 5 + 5 * n + 1 ≡ most_words) where
  pub star_full : replies_to_calls standard_shape (star [] n) (Edge 1 2 None ∷ Tag 1 (codes "A") ∷ Tag 1 (codes "B") ∷ Edge 1 2 None ∷ []) ≡ reply.TooLarge ∷ reply.Done ∷ reply.TooLarge ∷ reply.TooLarge ∷ []
  star_full =
      let edge : Call = Edge 1 2 None in
      let a : Call = Tag 1 (codes "A") in
      let b : Call = Tag 1 (codes "B") in
      let labelled = star (0 ∷ []) n in
      let last = replies_then labelled labelled edge [] reply.TooLarge [] (edge_is_refused (0 ∷ []) n (omega arith)) refl in
      let second = replies_then labelled labelled b (edge ∷ []) reply.TooLarge (reply.TooLarge ∷ []) (tag_b n true (one_large (0 ∷ 1 ∷ []) n true (large _ (omega arith)))) last in
      let first = replies_then (star [] n) labelled a (b ∷ edge ∷ []) reply.Done (reply.TooLarge ∷ reply.TooLarge ∷ []) (tag_a n false (one_large (0 ∷ []) n false (fits _ (omega arith)))) second in
      replies_then (star [] n) (star [] n) edge (a ∷ b ∷ edge ∷ []) reply.TooLarge (reply.Done ∷ reply.TooLarge ∷ reply.TooLarge ∷ []) (edge_is_refused [] n (omega arith)) first

pub star_grows : (n : ℕ) → 5 + 5 * suc n ≤ most_words
    → (graph_after_calls standard_shape (star [] n) (Edge 1 2 None ∷ []) ≡ star [] (suc n)) × (replies_to_calls standard_shape (star [] n) (Edge 1 2 None ∷ []) ≡ reply.EdgeIs 1 n ∷ [])
star_grows n few =
    let made = edge_is_made [] n few in
    (ap (λ (a : Answer). a.graph) made, ap (λ (a : Answer). a.reply ∷ []) made)
