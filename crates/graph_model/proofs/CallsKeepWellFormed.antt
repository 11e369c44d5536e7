-- What each call that changes the graph leaves is well formed.
use Rattle.std.proofs.Common.{◌≡◌, ◌≢◌, ℕ, zero, suc, ◌+◌, ◌-◌, ◌^◌, ◌<◌, Bool, true, false, not, ◌||◌, ◌&&◌, List, [], ◌∷◌, ◌++◌, map, length, if◌then◌else◌, Option, Some, None, Ok, Err, is_some, refl, sym, ap, subst, ◌∙◌, arith, length-append}
use Rattle.std.specs.Prelude.{◌==◌, IsSome, IsSomeAnd}
use Rattle.std.specs.List.{filter}
use Rattle.std.specs.Option.{option_map}
use Rattle.std.specs.Ordering.{nat_cmp}
use Rattle.std.specs.Str.{bytes_eq}
use Rattle.std.specs.Cmp.{nat_cmp_total}
use Rattle.std.specs.FinMap.{nat_cmp-IsAntisymmetric}
use Rattle.std.specs.FinMap.Entries.{find-put, find-where_key}
use Rattle.std.proofs.lemmas.Bool.{or_parts, not-true, not-false, not_from_false, cond-true, eqb-false, eq-eqb}
use Rattle.std.proofs.lemmas.Slice.Eq.{bytes_eq-Decides}
use Rattle.gdi_kinds.specs.declared.value.Value.{Value}
use Rattle.gdi_kinds.specs.declared.value.Kind.{Kind}
use Rattle.gdi_kinds.specs.declared.reply.Reply.TheVariants as reply
use Rattle.gdi_kinds.specs.Constraint.{kind_of, same_kind}
use Rattle.gdi_kinds.specs.Names.{IsName}
use Rattle.graph_model.specs.Maps.{with_at, without, add, take_out, place_where, item_at}
use Rattle.graph_model.specs.Graph.{Name, PropType, Props, Graph, Vertex, Edge, EdgeKey, edge_cmp, new_vertex, vertex_at, is_vertex, edge_at}
use Rattle.graph_model.specs.Lookups.{label_number, type_number, kind_at, is_marked, values_at}
use Rattle.graph_model.specs.Steps.{◌>>=◌, Step, found_or}
use Rattle.graph_model.specs.VertexCalls.{with_vertex}
use Rattle.graph_model.specs.EdgeCalls.{with_edge, label_if_named, ordinals_end}
use Rattle.graph_model.specs.WellFormed.{AreNames, IsValue, AreLabels, AreValues, AreProps, VertexFits, EdgeFits, IsWellFormed}
use Rattle.graph_model.proofs.Sets.{is_eq-nat_cmp}
use Rattle.graph_model.proofs.Entries.{never, All-map, All-filter, All-push, IsMap-filter}
use Rattle.graph_model.proofs.KeepsWellFormed.{vertex_over, edge_over, vertex_fits, edge_fits, still_there, with_vertex-well, changed_vertex, with_edge-well, changed_edge, place-below, labels-add, labels-take_out, props-set, props-add, props-without}

-- a name that isn't there yet
is_new : (b : Bool) (later : Option ℕ) → is_some (if b then Some 0 else option_map suc later) ≡ false → (b ≡ false) × (is_some later ≡ false)
is_new true later new = never (sym new)
is_new false None new = (refl, refl)
is_new false (Some n) new = never (sym new)

AreNames-push : (name : Name) (names : List Name) → IsName name → AreNames names → is_some (place_where (bytes_eq name) names) ≡ false → AreNames (names ++ name ∷ [])
AreNames-push name [] here all new = (here, tt, tt)
AreNames-push name (n ∷ ns) here all new =
    let parts = is_new (bytes_eq name n) (place_where (bytes_eq name) ns) new in
    let differs : name ≢ n = λ same. never (sym parts.0 ∙ (bytes_eq-Decides name n).1 same) in
    (all.0, All-push (λ other. other ≢ n) ns name all.1 differs, AreNames-push name ns here all.2 parts.1)

names-push : (types : List PropType) (type : PropType) → map (λ (t : PropType). t.name) (types ++ type ∷ []) ≡ map (λ (t : PropType). t.name) types ++ type.name ∷ []
names-push [] type = refl
names-push (t ∷ ts) type = ap (λ names. t.name ∷ names) (names-push ts type)

place-of_name : (name : Name) (types : List PropType) → place_where (λ (t : PropType). bytes_eq name t.name) types ≡ place_where (bytes_eq name) (map (λ (t : PropType). t.name) types)
place-of_name name [] = refl
place-of_name name (t ∷ ts) = ap (λ later. if bytes_eq name t.name then Some 0 else option_map suc later) (place-of_name name ts)

item-push : {X : Type 0} (P : X → Type 0) (xs : List X) (x : X) (n : ℕ) → IsSomeAnd (item_at xs n) P → IsSomeAnd (item_at (xs ++ x ∷ []) n) P
item-push P [] x n there = absurd there
item-push P (y ∷ ys) x zero there = there
item-push P (y ∷ ys) x (suc n) there = item-push P ys x n there

-- more labels, and more types
pub new_label : (g : Graph) (name : Name) → IsWellFormed g → IsName name → is_some (label_number g name) ≡ false → IsWellFormed (record g { labels = g.labels ++ name ∷ [] })
new_label g name well here new =
    let h : Graph = record g { labels = g.labels ++ name ∷ [] } in
    let more : (ls : List ℕ) → AreLabels g ls → AreLabels h ls = λ ls fit. (fit.0, All-map (λ n. n < length g.labels) (λ n. n < length h.labels) (λ n below. omega (arith, length-append g.labels (name ∷ []))) ls fit.1) in
    record {
      labels = AreNames-push name g.labels here well.labels new;
      types = well.types;
      vertices = well.vertices;
      edges = well.edges;
      each_vertex = All-map (λ entry. VertexFits g entry.0 entry.1) (λ entry. VertexFits h entry.0 entry.1) (vertex_over g h more (λ _ fit. fit)) g.vertices well.each_vertex;
      each_edge = All-map (λ entry. EdgeFits g entry.0 entry.1) (λ entry. EdgeFits h entry.0 entry.1) (λ entry. edge_over g h more (λ _ fit. fit) entry (λ _ below. below) (λ there. there)) g.edges well.each_edge;
    }

pub new_type : (g : Graph) (name : Name) (kind : Kind) (many : Bool) → IsWellFormed g → IsName name → is_some (type_number g name) ≡ false
    → IsWellFormed (record g { types = g.types ++ (record { name = name; kind = kind; many = many }) ∷ [] })
new_type g name kind many well here new =
    let type : PropType = record { name = name; kind = kind; many = many } in
    let h : Graph = record g { types = g.types ++ type ∷ [] } in
    let fits : Graph → ℕ × List Value → Type 0 = λ k entry. IsSomeAnd (item_at k.types entry.0) (λ t. AreValues t entry.1) in
    let more : (ps : Props) → AreProps g ps → AreProps h ps =
    λ ps fit. (fit.0, All-map (fits g) (fits h) (λ entry are. item-push (λ t. AreValues t entry.1) g.types type entry.0 are) ps fit.1) in
    record {
      labels = well.labels;
      types = subst AreNames (sym (names-push g.types type)) (AreNames-push name (map (λ t. t.name) g.types) here well.types (sym (ap is_some (place-of_name name g.types)) ∙ new));
      vertices = well.vertices;
      edges = well.edges;
      each_vertex = All-map (λ entry. VertexFits g entry.0 entry.1) (λ entry. VertexFits h entry.0 entry.1) (vertex_over g h (λ _ fit. fit) more) g.vertices well.each_vertex;
      each_edge = All-map (λ entry. EdgeFits g entry.0 entry.1) (λ entry. EdgeFits h entry.0 entry.1) (λ entry. edge_over g h (λ _ fit. fit) more entry (λ _ below. below) (λ there. there)) g.edges well.each_edge;
    }

pub make_vertex : (g : Graph) (id : ℕ) → IsWellFormed g → id < 2 ^ 64 → is_vertex g id ≡ false → IsWellFormed (with_vertex g id new_vertex)
make_vertex g id well in_range new =
    with_vertex-well g id new_vertex
    (λ n. elim (vertex_at g id) as (λ found. is_some found ≡ false → IsSomeAnd found (λ u. n < u.next) → n < 0) [ None ↦ λ _ below. absurd below | Some u ↦ λ is _. never (sym is) ] new)
    well (record { in_range = in_range; next = omega arith; labels = (tt, tt); props = (refl, tt) })

pub drop_vertex : (g : Graph) (id : ℕ) → IsWellFormed g
    → IsWellFormed (record g { vertices = without g.vertices id; edges = filter (λ entry. not (entry.0.source == id || entry.1.target == id)) g.edges })
drop_vertex g id well =
    record {
      labels = well.labels;
      types = well.types;
      vertices = IsMap-filter nat_cmp (λ entry. not (entry.0 == id)) g.vertices well.vertices;
      edges = IsMap-filter edge_cmp keeps g.edges well.edges;
      each_vertex = All-filter (λ entry. VertexFits g entry.0 entry.1) (λ entry. VertexFits h entry.0 entry.1) (λ entry. not (entry.0 == id)) (λ entry _. vertex_over g h (λ _ fit. fit) (λ _ fit. fit) entry) g.vertices well.each_vertex;
      each_edge = All-filter (λ entry. EdgeFits g entry.0 entry.1) (λ entry. EdgeFits h entry.0 entry.1) keeps each g.edges well.each_edge;
    }
  where
    keeps : EdgeKey × Edge → Bool
    keeps entry = not (entry.0.source == id || entry.1.target == id)

    h : Graph
    h = record g { vertices = without g.vertices id; edges = filter keeps g.edges }

    kept : (q : ℕ) → (q == id) ≡ false → vertex_at h q ≡ vertex_at g q
    kept q other =
        find-where_key nat_cmp (λ k. not (k == id)) q (λ x tied. ap (λ k. not (k == id)) (sym (nat_cmp-IsAntisymmetric q x tied))) g.vertices
        ∙ cond-true (not (q == id)) (vertex_at g q) None (not_from_false _ other)

    each : (entry : EdgeKey × Edge) → keeps entry ≡ true → EdgeFits g entry.0 entry.1 → EdgeFits h entry.0 entry.1
    each entry is =
        let parts = or_parts (entry.0.source == id) (entry.1.target == id) (not-true _ is) in
        edge_over g h (λ _ fit. fit) (λ _ fit. fit) entry
        (λ n. subst (λ found. IsSomeAnd found (λ u. n < u.next)) (sym (kept entry.0.source parts.0)))
        (subst IsSome (sym (kept entry.1.target parts.1)))

pub tag : (g : Graph) (id : ℕ) (name : Name) (n : ℕ) (v : Vertex) → IsWellFormed g → label_number g name ≡ Some n → vertex_at g id ≡ Some v → IsWellFormed (with_vertex g id (record v { labels = add n v.labels }))
tag g id name n v well known there =
    let fits = vertex_fits g id v well there in
    changed_vertex g id v (record v { labels = add n v.labels }) well there refl (labels-add g name n v.labels known fits.labels) fits.props

pub untag : (g : Graph) (id n : ℕ) (v : Vertex) → IsWellFormed g → vertex_at g id ≡ Some v → IsWellFormed (with_vertex g id (record v { labels = take_out n v.labels }))
untag g id n v well there =
    let fits = vertex_fits g id v well there in
    changed_vertex g id v (record v { labels = take_out n v.labels }) well there refl (labels-take_out g n v.labels fits.labels) fits.props

pub set_prop : (g : Graph) (id : ℕ) (name : Name) (n : ℕ) (v : Vertex) (value : Value) → IsWellFormed g → IsValue value → type_number g name ≡ Some n → vertex_at g id ≡ Some v
    → not (same_kind (kind_of value) (kind_at g n)) ≡ false → IsWellFormed (with_vertex g id (record v { props = with_at v.props n (value ∷ []) }))
set_prop g id name n v value well of_kind known there agrees =
    let fits = vertex_fits g id v well there in
    changed_vertex g id v (record v { props = with_at v.props n (value ∷ []) }) well there refl fits.labels (props-set g name n value v.props of_kind known agrees fits.props)

pub add_prop : (g : Graph) (id : ℕ) (name : Name) (n : ℕ) (v : Vertex) (value : Value) → IsWellFormed g → IsValue value → type_number g name ≡ Some n → vertex_at g id ≡ Some v
    → not (same_kind (kind_of value) (kind_at g n)) ≡ false → not (is_marked g n) ≡ false
    → IsWellFormed (with_vertex g id (record v { props = with_at v.props n (values_at v.props n ++ value ∷ []) }))
add_prop g id name n v value well of_kind known there agrees marked =
    let fits = vertex_fits g id v well there in
    changed_vertex g id v (record v { props = with_at v.props n (values_at v.props n ++ value ∷ []) }) well there refl fits.labels
    (props-add g name n value v.props of_kind known agrees fits.props marked)

pub unset_prop : (g : Graph) (id n : ℕ) (v : Vertex) → IsWellFormed g → vertex_at g id ≡ Some v → IsWellFormed (with_vertex g id (record v { props = without v.props n }))
unset_prop g id n v well there =
    let fits = vertex_fits g id v well there in
    changed_vertex g id v (record v { props = without v.props n }) well there refl fits.labels (props-without g n v.props fits.props)

-- the label that an edge is made with
abbrev LabelsFit : Graph → Step (List ℕ) → Type 0
LabelsFit g (Ok ls) = AreLabels g ls
LabelsFit g (Err refusal) = Unit {0}

named_label : (g : Graph) (name : Option Name) → LabelsFit g (label_if_named g name)
named_label g None = (tt, tt)
named_label g (Some name) =
    elim (label_number g name) as (λ found. label_number g name ≡ found → LabelsFit g (found_or reply.NoLabel found >>= λ n. Ok (n ∷ []))) [
      | None ↦ λ _. tt
      | Some n ↦ λ known. ((tt, tt), (place-below (bytes_eq name) g.labels n known, tt))
    ] refl

pub make_edge : (undirected : Bool) (g : Graph) (source target : ℕ) (name : Option Name) (ls : List ℕ) (v : Vertex) → IsWellFormed g → label_if_named g name ≡ Ok ls → vertex_at g source ≡ Some v → not (is_vertex g target) ≡ false
    → (v.next == ordinals_end) ≡ false → IsWellFormed (with_edge (with_vertex g source (record v { next = v.next + 1 })) source v.next (record { target = target; undirected = undirected; labels = ls; props = [] }))
make_edge undirected g source target name ls v well known there ends room =
    with_edge-well raised source v.next (record { target = target; undirected = undirected; labels = ls; props = [] }) (with_vertex-well g source w higher well (record { in_range = fits.in_range; next = next; labels = fits.labels; props = fits.props }))
    (record { source = given_out; target = still_there g source w higher target (not-false _ ends); labels = subst (LabelsFit g) known (named_label g name); props = (refl, tt) })
  where
    w : Vertex
    w = record v { next = v.next + 1 }

    raised : Graph
    raised = with_vertex g source w

    fits : VertexFits g source v
    fits = vertex_fits g source v well there

    higher : (n : ℕ) → IsSomeAnd (vertex_at g source) (λ u. n < u.next) → n < v.next + 1
    higher n below =
        let before : n < v.next = subst (λ found. IsSomeAnd found (λ u. n < u.next)) there below in
        omega arith

    next : v.next + 1 < 2 ^ 64
    next = omega (arith, fits.next, eqb-false v.next (2 ^ 64 - 1) room)

    given_out : IsSomeAnd (vertex_at raised source) (λ u. v.next < u.next)
    given_out =
        subst (λ found. IsSomeAnd found (λ u. v.next < u.next))
        (sym (find-put nat_cmp nat_cmp_total source source w g.vertices ∙ cond-true _ (Some w) (vertex_at g source) (is_eq-nat_cmp source source ∙ eq-eqb source source refl)))
        (omega arith)

pub cut : (g : Graph) (source ordinal : ℕ) → IsWellFormed g → IsWellFormed (record g { edges = filter (λ entry. not (entry.0.source == source && entry.0.ordinal == ordinal)) g.edges })
cut g source ordinal well =
    let keeps = λ (entry : EdgeKey × Edge). not (entry.0.source == source && entry.0.ordinal == ordinal) in
    let h : Graph = record g { edges = filter keeps g.edges } in
    record {
      labels = well.labels;
      types = well.types;
      vertices = well.vertices;
      edges = IsMap-filter edge_cmp keeps g.edges well.edges;
      each_vertex = All-map (λ entry. VertexFits g entry.0 entry.1) (λ entry. VertexFits h entry.0 entry.1) (vertex_over g h (λ _ fit. fit) (λ _ fit. fit)) g.vertices well.each_vertex;
      each_edge = All-filter (λ entry. EdgeFits g entry.0 entry.1) (λ entry. EdgeFits h entry.0 entry.1) keeps (λ entry _. edge_over g h (λ _ fit. fit) (λ _ fit. fit) entry (λ _ below. below) (λ there. there)) g.edges well.each_edge;
    }

pub tag_edge : (g : Graph) (source ordinal : ℕ) (name : Name) (n : ℕ) (e : Edge) → IsWellFormed g → label_number g name ≡ Some n → edge_at g source ordinal ≡ Some e → IsWellFormed (with_edge g source ordinal (record e { labels = add n e.labels }))
tag_edge g source ordinal name n e well known there =
    let fits = edge_fits g source ordinal e well there in
    changed_edge g source ordinal e (record e { labels = add n e.labels }) well there refl (labels-add g name n e.labels known fits.labels) fits.props

pub untag_edge : (g : Graph) (source ordinal n : ℕ) (e : Edge) → IsWellFormed g → edge_at g source ordinal ≡ Some e → IsWellFormed (with_edge g source ordinal (record e { labels = take_out n e.labels }))
untag_edge g source ordinal n e well there =
    let fits = edge_fits g source ordinal e well there in
    changed_edge g source ordinal e (record e { labels = take_out n e.labels }) well there refl (labels-take_out g n e.labels fits.labels) fits.props

pub set_edge_prop : (g : Graph) (source ordinal : ℕ) (name : Name) (n : ℕ) (e : Edge) (value : Value) → IsWellFormed g → IsValue value → type_number g name ≡ Some n → edge_at g source ordinal ≡ Some e
    → not (same_kind (kind_of value) (kind_at g n)) ≡ false → IsWellFormed (with_edge g source ordinal (record e { props = with_at e.props n (value ∷ []) }))
set_edge_prop g source ordinal name n e value well of_kind known there agrees =
    let fits = edge_fits g source ordinal e well there in
    changed_edge g source ordinal e (record e { props = with_at e.props n (value ∷ []) }) well there refl fits.labels (props-set g name n value e.props of_kind known agrees fits.props)

pub add_edge_prop : (g : Graph) (source ordinal : ℕ) (name : Name) (n : ℕ) (e : Edge) (value : Value) → IsWellFormed g → IsValue value → type_number g name ≡ Some n → edge_at g source ordinal ≡ Some e
    → not (same_kind (kind_of value) (kind_at g n)) ≡ false → not (is_marked g n) ≡ false
    → IsWellFormed (with_edge g source ordinal (record e { props = with_at e.props n (values_at e.props n ++ value ∷ []) }))
add_edge_prop g source ordinal name n e value well of_kind known there agrees marked =
    let fits = edge_fits g source ordinal e well there in
    changed_edge g source ordinal e (record e { props = with_at e.props n (values_at e.props n ++ value ∷ []) }) well there refl fits.labels
    (props-add g name n value e.props of_kind known agrees fits.props marked)

pub unset_edge_prop : (g : Graph) (source ordinal n : ℕ) (e : Edge) → IsWellFormed g → edge_at g source ordinal ≡ Some e → IsWellFormed (with_edge g source ordinal (record e { props = without e.props n }))
unset_edge_prop g source ordinal n e well there =
    let fits = edge_fits g source ordinal e well there in
    changed_edge g source ordinal e (record e { props = without e.props n }) well there refl fits.labels (props-without g n e.props fits.props)
