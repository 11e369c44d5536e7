-- Labels, vertices and edges are made, and vertices tagged.
use Rattle.std.proofs.Common.{◌≡◌, ℕ, ◌+◌, Bool, true, false, cond, not, ◌||◌, List, [], ◌∷◌, ◌++◌, map, Option, Some, None, is_some, Ok, refl, ap, ◌∙◌}
use Rattle.std.specs.Prelude.{◌==◌}
use Rattle.std.specs.List.{AllByRecursion, filter, list_any}
use Rattle.std.specs.Option.{option_to_list}
use Rattle.std.specs.Str.{bytes_eq}
use Rattle.gdi_kinds.specs.declared.call.Call.TheVariants.{NewLabel, Vertex as MakeVertex, Tag}
use Rattle.gdi_kinds.specs.declared.reply.Reply.TheVariants as reply
use Rattle.rma_layout.specs.Shape.{Shape}
use Rattle.rma_layout.specs.Placement.{bucket_of, slot_of}
use Rattle.graph_model.specs.Maps.{has, add}
use Rattle.graph_model.specs.Graph.{Name, PropType, Graph, Vertex, Edge, new_vertex, vertex_at, is_vertex}
use Rattle.graph_model.specs.Lookups.{label_number}
use Rattle.graph_model.specs.Sizes.{words_of_names, words_of_vertex, words_of_bucket, words_of_slot, is_too_large}
use Rattle.graph_model.specs.Steps.{◌>>=◌, found_or, answer_of}
use Rattle.graph_model.specs.VertexCalls.{with_vertex}
use Rattle.graph_model.specs.EdgeCalls.{with_edge, make_edge, label_if_named, is_vertex_too_large, ordinals_end}
use Rattle.map_graph.proofs.Ends.{at-put}
use Rattle.bulk_load.specs.Headers.{are_apart}
use Rattle.bulk_load.specs.Records.{Fields}
use Rattle.bulk_load.specs.Rows.{new_labels, edge_call}
use Rattle.bulk_load.specs.declared.owner.Owner.TheVariants as owner
use Rattle.bulk_load.proofs.ApartLemmas.{both, neither, is_not, differ_back}
use Rattle.bulk_load.proofs.PlaceLemmas.{place_pushed, same_name, numbers_differ, has_add, or_true, or_false, is_there}
use Rattle.bulk_load.proofs.PutLemmas.{Typed, Ready}
use Rattle.bulk_load.proofs.SuccessLemmas.{Succeeds, at_end, if_ok, if_found, if_passed, if_room, CallGoes, Go, none_go, first_goes, weaker_go, edge_put}

-- ---- labels

-- a graph with a label more
abbrev pub labelled : Graph → Name → Graph
labelled g name = record g { labels = g.labels ++ name ∷ [] }

abbrev pub IsKnown : Graph → Name → Type 0
IsKnown g name = is_some (label_number g name) ≡ true

-- a name is a label of both graphs, or of neither
abbrev pub IsAlike : Graph → Graph → Name → Type 0
IsAlike start g name = is_some (label_number g name) ≡ is_some (label_number start name)

known_stays : (g : Graph) (name other : Name) → IsKnown g other → IsKnown (labelled g name) other
known_stays g name other known = place_pushed (bytes_eq other) g.labels name ∙ ap (λ (b : Bool). b || bytes_eq other name) known

known_now : (g : Graph) (name : Name) → IsKnown (labelled g name) name
known_now g name = place_pushed (bytes_eq name) g.labels name ∙ ap (λ (b : Bool). is_some (label_number g name) || b) (same_name name) ∙ or_true (is_some (label_number g name))

alike_stay : (start g : Graph) (name : Name) (names : Fields) → list_any (bytes_eq name) names ≡ false → AllByRecursion (IsAlike start g) names → AllByRecursion (IsAlike start (labelled g name)) names
alike_stay start g name [] none all = tt
alike_stay start g name (other ∷ names) none all =
    let split = neither (bytes_eq name other) (list_any (bytes_eq name) names) none in
    let same : is_some (label_number (labelled g name) other) ≡ is_some (label_number g other) =
    place_pushed (bytes_eq other) g.labels name ∙ ap (λ (b : Bool). is_some (label_number g other) || b) (differ_back name other split.0) ∙ or_false (is_some (label_number g other)) in
    (same ∙ all.0, alike_stay start g name names split.1 all.1)

-- what holds before, and of a graph with a label more too, holds behind new labels, and all are known
pub new_labels_go : (shape : Shape) (start : Graph) (names : Fields) (Base : Graph → Type 0) → ((g : Graph) (name : Name) → Base g → Base (labelled g name)) → are_apart names ≡ true
    → Go shape (λ g. Base g × AllByRecursion (IsAlike start g) names) (new_labels start names) (λ g. Base g × AllByRecursion (IsKnown g) names)
new_labels_go shape start [] Base keeps apart = none_go shape (λ g. Base g × Unit {0})
new_labels_go shape start (name ∷ names) Base keeps apart =
    let split = both (not (list_any (bytes_eq name) names)) (are_apart names) apart in
    let none = is_not (list_any (bytes_eq name) names) split.0 in
    let Known : Graph → Type 0 = λ g. Base g × IsKnown g name in
    let After : Graph → Type 0 = λ g. Base g × (IsKnown g name × AllByRecursion (IsKnown g) names) in
    let rest : Go shape (λ g. Known g × AllByRecursion (IsAlike start g) names) (new_labels start names) After =
    weaker_go shape (λ g. Known g × AllByRecursion (IsAlike start g) names) (λ g. Known g × AllByRecursion (IsAlike start g) names) (λ g. Known g × AllByRecursion (IsKnown g) names) After (new_labels start names)
    (λ g holds. holds) (λ g holds. (holds.0.0, (holds.0.1, holds.1)))
    (new_labels_go shape start names Known (λ g other holds. (keeps g other holds.0, known_stays g other name holds.1)) split.1) in
    elim (is_some (label_number start name)) as (λ b. Go shape (λ g. Base g × ((is_some (label_number g name) ≡ b) × AllByRecursion (IsAlike start g) names))
    (map NewLabel (cond (not b) (name ∷ filter (λ n. not (is_some (label_number start n))) names) (filter (λ n. not (is_some (label_number start n))) names)))
    After) [
      | true ↦ weaker_go shape (λ g. Known g × AllByRecursion (IsAlike start g) names) _ After After (new_labels start names) (λ g holds. ((holds.0, holds.1.0), holds.1.1)) (λ g holds. holds) rest
      | false ↦ first_goes shape _ (λ g. Known g × AllByRecursion (IsAlike start g) names) After (NewLabel name) (new_labels start names)
          (λ g holds.
          let Q : Graph → Type 0 = λ h. Known h × AllByRecursion (IsAlike start h) names in
          if_passed Q g (is_some (label_number g name)) reply.Exists _ holds.1.0
          (if_room Q g (is_too_large (words_of_names (labelled g name))) _
          (at_end Q g (labelled g name) reply.Done refl ((keeps g name holds.0, known_now g name), alike_stay start g name names none holds.1.1))))
          rest
    ]

-- ---- a vertex and its labels

-- these labels are known, and the vertex has none of them
abbrev pub LacksLabels : ℕ → Fields → Graph → Type 0
LacksLabels id names g = (v : Vertex) × (vertex_at g id ≡ Some v) × AllByRecursion (λ name. (n : ℕ) × (label_number g name ≡ Some n) × (has v.labels n ≡ false)) names

each_lacks : (g : Graph) (names : Fields) → AllByRecursion (IsKnown g) names → AllByRecursion (λ name. (n : ℕ) × (label_number g name ≡ Some n) × (has [] n ≡ false)) names
each_lacks g [] all = tt
each_lacks g (name ∷ names) all = let number = is_there (label_number g name) all.0 in ((number.0, number.1, refl), each_lacks g names all.1)

pub vertex_goes : (shape : Shape) (types : List PropType) (id : ℕ) (names : Fields)
    → CallGoes shape (λ g. (Typed types g × (is_vertex g id ≡ false)) × AllByRecursion (IsKnown g) names) (MakeVertex id) (λ g. Typed types g × LacksLabels id names g)
vertex_goes shape types id names g holds =
    let Q : Graph → Type 0 = λ h. Typed types h × LacksLabels id names h in
    if_passed Q g (is_vertex g id) reply.Exists _ holds.0.1
    (if_room Q g (is_too_large (words_of_bucket shape (with_vertex g id new_vertex) (bucket_of shape id))) _
    (at_end Q g (with_vertex g id new_vertex) reply.Done refl (holds.0.0, (new_vertex, at-put g.vertices id new_vertex, each_lacks g names holds.1))))

still_lacks : (g : Graph) (name : Name) (n : ℕ) (labels : List ℕ) (names : Fields) → label_number g name ≡ Some n → list_any (bytes_eq name) names ≡ false
    → AllByRecursion (λ other. (m : ℕ) × (label_number g other ≡ Some m) × (has labels m ≡ false)) names
    → AllByRecursion (λ other. (m : ℕ) × (label_number g other ≡ Some m) × (has (add n labels) m ≡ false)) names
still_lacks g name n labels [] known none all = tt
still_lacks g name n labels (other ∷ names) known none all =
    let split = neither (bytes_eq name other) (list_any (bytes_eq name) names) none in
    let m = all.0.0 in
    ((m, all.0.1, has_add n m labels (numbers_differ name other g.labels n m split.0 known all.0.1) ∙ all.0.2), still_lacks g name n labels names known split.1 all.1)

pub tags_go : (shape : Shape) (types : List PropType) (id : ℕ) (names : Fields) → are_apart names ≡ true
    → Go shape (λ g. Typed types g × LacksLabels id names g) (map (Tag id) names) (Ready types (owner.Vertex id))
tags_go shape types id [] apart =
    weaker_go shape (λ g. Typed types g × LacksLabels id [] g) (λ g. Typed types g × LacksLabels id [] g) (λ g. Typed types g × LacksLabels id [] g) (Ready types (owner.Vertex id)) []
    (λ g holds. holds) (λ g holds. (holds.0, (holds.1.0, holds.1.1))) (none_go shape (λ g. Typed types g × LacksLabels id [] g))
tags_go shape types id (name ∷ names) apart =
    let split = both (not (list_any (bytes_eq name) names)) (are_apart names) apart in
    let none = is_not (list_any (bytes_eq name) names) split.0 in
    let Q : Graph → Type 0 = λ h. Typed types h × LacksLabels id names h in
    first_goes shape (λ g. Typed types g × LacksLabels id (name ∷ names) g) Q (Ready types (owner.Vertex id)) (Tag id name) (map (Tag id) names)
    (λ g holds.
    let v : Vertex = holds.1.0 in
    let there : vertex_at g id ≡ Some v = holds.1.1 in
    let n : ℕ = holds.1.2.0.0 in
    let known : label_number g name ≡ Some n = holds.1.2.0.1 in
    let lacks : has v.labels n ≡ false = holds.1.2.0.2 in
    let tagged : Vertex = record v { labels = add n v.labels } in
    if_found Q g reply.NoLabel (label_number g name) n _ known
    (if_found Q g (reply.NoVertex id) (vertex_at g id) v _ there
    (if_passed Q g (has v.labels n) reply.HasLabel _ lacks
    (if_room Q g (is_too_large (words_of_vertex (with_vertex g id tagged) id tagged) || is_too_large (words_of_slot shape (with_vertex g id tagged) (slot_of shape n id))) _
    (at_end Q g (with_vertex g id tagged) reply.Done refl (holds.0, (tagged, at-put g.vertices id tagged, still_lacks g name n v.labels names known none holds.1.2.1)))))))
    (tags_go shape types id names split.1)

-- ---- an edge

named : (g : Graph) (label : Option Name) → AllByRecursion (IsKnown g) (option_to_list label) → (ls : List ℕ) × (label_if_named g label ≡ Ok ls)
named g None all = ([], refl)
named g (Some name) all =
    let number = is_there (label_number g name) all.0 in
    (number.0 ∷ [], ap (λ (o : Option ℕ). found_or reply.NoLabel o >>= λ (n : ℕ). Ok (n ∷ [])) number.1)

-- both ends are there, and the label if one is named
abbrev pub HasEnds : List PropType → ℕ → Vertex → ℕ → Graph → Type 0
HasEnds types source vertex target g = Typed types g × ((vertex_at g source ≡ Some vertex) × (is_vertex g target ≡ true))

make_goes : (shape : Shape) (types : List PropType) (undirected : Bool) (source target : ℕ) (label : Option Name) (vertex : Vertex) (g : Graph) → HasEnds types source vertex target g × AllByRecursion (IsKnown g) (option_to_list label)
    → Succeeds (Ready types (owner.Edge source vertex.next)) (answer_of g (make_edge undirected g source target label))
make_goes shape types undirected source target label vertex g holds =
    let Q = Ready types (owner.Edge source vertex.next) in
    let ls = named g label holds.1 in
    let up : Vertex = record vertex { next = vertex.next + 1 } in
    let edge : Edge = record { target = target; undirected = undirected; labels = ls.0; props = [] } in
    let changed = with_edge (with_vertex g source up) source vertex.next edge in
    if_ok Q g (label_if_named g label) ls.0 _ ls.1
    (if_found Q g (reply.NoVertex source) (vertex_at g source) vertex _ holds.0.1.0
    (if_passed Q g (not (is_vertex g target)) (reply.NoVertex target) _ (ap not holds.0.1.1)
    (if_room Q g (vertex.next == ordinals_end || is_vertex_too_large changed source || is_vertex_too_large changed target) _
    (at_end Q g changed (reply.EdgeIs source vertex.next) refl
    (holds.0.0, (ap is_some (at-put g.vertices source up), (edge, edge_put (with_vertex g source up) source vertex.next edge)))))))

pub edge_goes : (shape : Shape) (types : List PropType) (undirected : Bool) (source target : ℕ) (label : Option Name) (vertex : Vertex)
    → CallGoes shape (λ g. HasEnds types source vertex target g × AllByRecursion (IsKnown g) (option_to_list label)) (edge_call undirected source target label) (Ready types (owner.Edge source vertex.next))
edge_goes shape types true source target label vertex g holds = make_goes shape types true source target label vertex g holds
edge_goes shape types false source target label vertex g holds = make_goes shape types false source target label vertex g holds
