-- What each change of a graph keeps well formed.
use Rattle.std.proofs.Common.{◌≡◌, ℕ, zero, suc, ◌^◌, ◌<◌, Bool, true, false, cond, not, List, [], ◌∷◌, ◌++◌, ◌∙◌, length, if◌then◌else◌, Option, Some, None, refl, sym, subst, arith, true≢false, length-append}
use Rattle.std.specs.Prelude.{◌==◌, IsSome, IsSomeAnd}
use Rattle.std.specs.List.{AllByRecursion}
use Rattle.std.specs.Option.{option_map, option_map_or, unwrap_or}
use Rattle.std.specs.Ordering.{nat_cmp, is_eq, eq_by_cmp}
use Rattle.std.specs.declared.cmp.Ordering.TheVariants.{Less, Equal, Greater}
use Rattle.std.specs.Str.{bytes_eq}
use Rattle.std.specs.Cmp.{nat_cmp_total}
use Rattle.std.specs.FinMap.{nat_cmp-IsAntisymmetric}
use Rattle.std.specs.FinMap.Entries.{find-put}
use Rattle.std.proofs.lemmas.Bool.{not-false}
use Rattle.gdi_kinds.specs.declared.value.Value.{Value}
use Rattle.gdi_kinds.specs.declared.value.Kind.{Kind}
use Rattle.gdi_kinds.specs.declared.value.Kind.TheVariants as kind
use Rattle.gdi_kinds.specs.Constraint.{kind_of, same_kind}
use Rattle.graph_model.specs.Maps.{at, with_at, without, add, take_out, place_where, item_at}
use Rattle.graph_model.specs.Graph.{Name, PropType, Props, Graph, Vertex, Edge, EdgeKey, edge_cmp, vertex_at, edge_at}
use Rattle.graph_model.specs.Lookups.{label_number, type_number, kind_at, is_marked, values_at}
use Rattle.graph_model.specs.VertexCalls.{with_vertex}
use Rattle.graph_model.specs.EdgeCalls.{with_edge}
use Rattle.graph_model.specs.WellFormed.{IsValue, AreLabels, AreValues, AreProps, VertexFits, EdgeFits, IsWellFormed}
use Rattle.graph_model.proofs.Sets.{IsSet-add, AllByRecursion-add}
use Rattle.graph_model.proofs.Entries.{same_value, nothing, never, All-map, All-filter, All-push, IsSet-filter, IsMap-put, IsMap-filter, All-put, All-find, edge_cmp_total, edge_cmp_same}

-- what fits a graph fits another that has its labels, its types and, for an edge, its vertices
module _ (g h : Graph) (labels : (ls : List ℕ) → AreLabels g ls → AreLabels h ls) (props : (ps : Props) → AreProps g ps → AreProps h ps) where
  pub vertex_over : (entry : ℕ × Vertex) → VertexFits g entry.0 entry.1 → VertexFits h entry.0 entry.1
  vertex_over entry fits = record { in_range = fits.in_range; next = fits.next; labels = labels _ fits.labels; props = props _ fits.props }

  pub edge_over : (entry : EdgeKey × Edge) → ((n : ℕ) → IsSomeAnd (vertex_at g entry.0.source) (λ v. n < v.next) → IsSomeAnd (vertex_at h entry.0.source) (λ v. n < v.next))
      → (IsSome (vertex_at g entry.1.target) → IsSome (vertex_at h entry.1.target)) → EdgeFits g entry.0 entry.1 → EdgeFits h entry.0 entry.1
  edge_over entry source target fits = record { source = source _ fits.source; target = target fits.target; labels = labels _ fits.labels; props = props _ fits.props }

pub vertex_fits : (g : Graph) (id : ℕ) (v : Vertex) → IsWellFormed g → vertex_at g id ≡ Some v → VertexFits g id v
vertex_fits g id v well there = All-find nat_cmp nat_cmp-IsAntisymmetric (λ entry. VertexFits g entry.0 entry.1) id v g.vertices well.each_vertex there

pub edge_fits : (g : Graph) (source ordinal : ℕ) (e : Edge) → IsWellFormed g → edge_at g source ordinal ≡ Some e → EdgeFits g (record { source = source; ordinal = ordinal }) e
edge_fits g source ordinal e well there = All-find edge_cmp edge_cmp_same (λ entry. EdgeFits g entry.0 entry.1) _ e g.edges well.each_edge there

-- a vertex in its place, whose next ordinal doesn't fall
module _ (g : Graph) (id : ℕ) (v : Vertex) (raised : (n : ℕ) → IsSomeAnd (vertex_at g id) (λ u. n < u.next) → n < v.next) where
  pub still_below : (q n : ℕ) → IsSomeAnd (vertex_at g q) (λ u. n < u.next) → IsSomeAnd (vertex_at (with_vertex g id v) q) (λ u. n < u.next)
  still_below q n below =
      subst (λ found. IsSomeAnd found (λ u. n < u.next)) (sym (find-put nat_cmp nat_cmp_total q id v g.vertices))
      (elim (nat_cmp q id) as (λ r. nat_cmp q id ≡ r → IsSomeAnd (cond (is_eq r) (Some v) (vertex_at g q)) (λ u. n < u.next)) [
        | Less ↦ λ _. below
        | Equal ↦ λ tied. raised n (subst (λ k. IsSomeAnd (vertex_at g k) (λ u. n < u.next)) (nat_cmp-IsAntisymmetric q id tied) below)
        | Greater ↦ λ _. below
      ] refl)

  pub still_there : (q : ℕ) → IsSome (vertex_at g q) → IsSome (vertex_at (with_vertex g id v) q)
  still_there q there =
      subst IsSome (sym (find-put nat_cmp nat_cmp_total q id v g.vertices))
      (elim (eq_by_cmp nat_cmp q id) as (λ same. IsSome (cond same (Some v) (vertex_at g q))) [ true ↦ refl | false ↦ there ])

  pub with_vertex-well : IsWellFormed g → VertexFits g id v → IsWellFormed (with_vertex g id v)
  with_vertex-well well fits =
      let h = with_vertex g id v in
      let over = vertex_over g h (λ _ fit. fit) (λ _ fit. fit) in
      record {
        labels = well.labels;
        types = well.types;
        vertices = IsMap-put nat_cmp nat_cmp_total id v g.vertices well.vertices;
        edges = well.edges;
        each_vertex = All-put nat_cmp nat_cmp-IsAntisymmetric (λ entry. VertexFits h entry.0 entry.1) id v g.vertices (over (id, v) fits)
            (All-map (λ entry. VertexFits g entry.0 entry.1) (λ entry. VertexFits h entry.0 entry.1) over g.vertices well.each_vertex);
        each_edge = All-map (λ entry. EdgeFits g entry.0 entry.1) (λ entry. EdgeFits h entry.0 entry.1)
            (λ entry. edge_over g h (λ _ fit. fit) (λ _ fit. fit) entry (still_below entry.0.source) (still_there entry.1.target)) g.edges well.each_edge;
      }

-- the same vertex with other labels or properties
pub changed_vertex : (g : Graph) (id : ℕ) (u v : Vertex) → IsWellFormed g → vertex_at g id ≡ Some u → u.next ≡ v.next → AreLabels g v.labels → AreProps g v.props → IsWellFormed (with_vertex g id v)
changed_vertex g id u v well there next labels props =
    let fits = vertex_fits g id u well there in
    let raised = λ (n : ℕ) (below : IsSomeAnd (vertex_at g id) (λ w. n < w.next)). subst (λ m. n < m) next (subst (λ found. IsSomeAnd found (λ w. n < w.next)) there below) in
    with_vertex-well g id v raised well (record { in_range = fits.in_range; next = subst (λ m. m < 2 ^ 64) next fits.next; labels = labels; props = props })

pub with_edge-well : (g : Graph) (source ordinal : ℕ) (e : Edge) → IsWellFormed g → EdgeFits g (record { source = source; ordinal = ordinal }) e → IsWellFormed (with_edge g source ordinal e)
with_edge-well g source ordinal e well fits =
    let h = with_edge g source ordinal e in
    let key : EdgeKey = record { source = source; ordinal = ordinal } in
    let over = λ (entry : EdgeKey × Edge). edge_over g h (λ _ fit. fit) (λ _ fit. fit) entry (λ _ below. below) (λ there. there) in
    record {
      labels = well.labels;
      types = well.types;
      vertices = well.vertices;
      edges = IsMap-put edge_cmp edge_cmp_total key e g.edges well.edges;
      each_vertex = All-map (λ entry. VertexFits g entry.0 entry.1) (λ entry. VertexFits h entry.0 entry.1) (vertex_over g h (λ _ fit. fit) (λ _ fit. fit)) g.vertices well.each_vertex;
      each_edge = All-put edge_cmp edge_cmp_same (λ entry. EdgeFits h entry.0 entry.1) key e g.edges (over (key, e) fits)
          (All-map (λ entry. EdgeFits g entry.0 entry.1) (λ entry. EdgeFits h entry.0 entry.1) over g.edges well.each_edge);
    }

pub changed_edge : (g : Graph) (source ordinal : ℕ) (d e : Edge) → IsWellFormed g → edge_at g source ordinal ≡ Some d → d.target ≡ e.target → AreLabels g e.labels → AreProps g e.props
    → IsWellFormed (with_edge g source ordinal e)
changed_edge g source ordinal d e well there target labels props =
    let fits = edge_fits g source ordinal d well there in
    with_edge-well g source ordinal e well (record { source = fits.source; target = subst (λ t. IsSome (vertex_at g t)) target fits.target; labels = labels; props = props })

-- numbers of labels and types
pub place-below : {X : Type 0} (p : X → Bool) (xs : List X) (n : ℕ) → place_where p xs ≡ Some n → n < length xs
place-below p [] n is = nothing n is
place-below p (x ∷ xs) n is =
    elim (p x) as (λ b. (if b then Some 0 else option_map suc (place_where p xs)) ≡ Some n → n < suc (length xs)) [
      | true ↦ λ found. omega (arith, same_value 0 n found)
      | false ↦ elim (place_where p xs) as (λ place. place_where p xs ≡ place → option_map suc place ≡ Some n → n < suc (length xs)) [
        | None ↦ λ _ found. nothing n found
        | Some m ↦ λ later found. omega (arith, same_value (suc m) n found, place-below p xs m later)
      ] refl
    ] is

item-there : {X : Type 0} (xs : List X) (n : ℕ) → n < length xs → IsSome (item_at xs n)
item-there [] n below = absurd (omega arith)
item-there (x ∷ xs) zero below = refl
item-there (x ∷ xs) (suc n) below = item-there xs n (omega arith)

same_kind-true : (k l : Kind) → same_kind k l ≡ true → l ≡ k
same_kind-true kind.Int kind.Int is = refl
same_kind-true kind.Bool kind.Bool is = refl
same_kind-true kind.Text kind.Text is = refl
same_kind-true k l is = never is

pub labels-add : (g : Graph) (name : Name) (n : ℕ) (ls : List ℕ) → label_number g name ≡ Some n → AreLabels g ls → AreLabels g (add n ls)
labels-add g name n ls known fit = (IsSet-add n ls fit.0, AllByRecursion-add (λ m. m < length g.labels) n ls (place-below (bytes_eq name) g.labels n known) fit.1)

pub labels-take_out : (g : Graph) (n : ℕ) (ls : List ℕ) → AreLabels g ls → AreLabels g (take_out n ls)
labels-take_out g n ls fit = (IsSet-filter (λ m. not (m == n)) ls fit.0, All-filter (λ m. m < length g.labels) (λ m. m < length g.labels) (λ m. not (m == n)) (λ _ _ below. below) ls fit.1)

-- values of a type of the graph
abbrev HasType : Graph → ℕ × List Value → Type 0
HasType g entry = IsSomeAnd (item_at g.types entry.0) (λ type. AreValues type entry.1)

some-more : (found : Option PropType) (P Q R : PropType → Type 0) → ((type : PropType) → P type → Q type → R type)
    → IsSomeAnd found P → IsSomeAnd found Q → IsSomeAnd found R
some-more None P Q R f p q = p
some-more (Some type) P Q R f p q = f type p q

value-push : (type : PropType) (vs : List Value) (v : Value) → IsValue v → type.kind ≡ kind_of v → type.many ≡ true
    → AllByRecursion (λ value. IsValue value × (type.kind ≡ kind_of value)) vs → AreValues type (vs ++ v ∷ [])
value-push type vs v fits of_kind many each = record {
  each = All-push (λ value. IsValue value × (type.kind ≡ kind_of value)) vs v each (fits, of_kind);
  some = omega (arith, length-append vs (v ∷ []));
  single = λ alone. absurd (true≢false (sym many ∙ alone));
}

pub type-kind : (g : Graph) (name : Name) (n : ℕ) (v : Value) → type_number g name ≡ Some n → not (same_kind (kind_of v) (kind_at g n)) ≡ false → IsSomeAnd (item_at g.types n) (λ type. type.kind ≡ kind_of v)
type-kind g name n v known agrees =
    elim (item_at g.types n) as (λ found. IsSome found → same_kind (kind_of v) (option_map_or (λ type. type.kind) found kind.Int) ≡ true → IsSomeAnd found (λ type. type.kind ≡ kind_of v)) [
      | None ↦ λ there _. never there
      | Some type ↦ λ _ same. same_kind-true (kind_of v) type.kind same
    ] (item-there g.types n (place-below (λ type. bytes_eq name type.name) g.types n known)) (not-false _ agrees)

type-marked : (g : Graph) (n : ℕ) → not (is_marked g n) ≡ false
    → IsSomeAnd (item_at g.types n) (λ type. type.kind ≡ type.kind) → IsSomeAnd (item_at g.types n) (λ type. type.many ≡ true)
type-marked g n marked there =
    elim (item_at g.types n) as (λ found. option_map_or (λ type. type.many) found false ≡ true → IsSomeAnd found (λ type. type.kind ≡ type.kind) → IsSomeAnd found (λ type. type.many ≡ true)) [
      | None ↦ λ _ there. there
      | Some type ↦ λ many _. many
    ] (not-false _ marked) there

props-put : (g : Graph) (n : ℕ) (vs : List Value) (ps : Props) → IsSomeAnd (item_at g.types n) (λ type. AreValues type vs)
    → AreProps g ps → AreProps g (with_at ps n vs)
props-put g n vs ps here fit =
    (IsMap-put nat_cmp nat_cmp_total n vs ps fit.0, All-put nat_cmp nat_cmp-IsAntisymmetric (HasType g) n vs ps here fit.1)

-- a value of a known type's kind
module _ (g : Graph) (name : Name) (n : ℕ) (v : Value) (ps : Props) (fits : IsValue v) (known : type_number g name ≡ Some n)
    (agrees : not (same_kind (kind_of v) (kind_at g n)) ≡ false) (fit : AreProps g ps) where
  of_kind : IsSomeAnd (item_at g.types n) (λ type. type.kind ≡ kind_of v)
  of_kind = type-kind g name n v known agrees

  pub props-set : AreProps g (with_at ps n (v ∷ []))
  props-set =
      props-put g n (v ∷ []) ps
      (some-more (item_at g.types n) (λ type. type.kind ≡ kind_of v) (λ type. type.kind ≡ kind_of v) (λ type. AreValues type (v ∷ []))
      (λ type is _. record { each = ((fits, is), tt); some = omega arith; single = λ _. refl }) of_kind of_kind) fit

  -- and the values before it, if the type is marked
  pub props-add : not (is_marked g n) ≡ false → AreProps g (with_at ps n (values_at ps n ++ v ∷ []))
  props-add marked =
      props-put g n (values_at ps n ++ v ∷ []) ps
      (elim (at ps n) as (λ found. at ps n ≡ found → IsSomeAnd (item_at g.types n) (λ type. AreValues type (unwrap_or found [] ++ v ∷ []))) [
        | None ↦ λ _. some-more (item_at g.types n) (λ type. type.kind ≡ kind_of v) (λ type. type.many ≡ true) (λ type. AreValues type (v ∷ []))
            (λ type is many. value-push type [] v fits is many tt) of_kind many
        | Some vs ↦ λ there.
            let before = All-find nat_cmp nat_cmp-IsAntisymmetric (HasType g) n vs ps fit.1 there in
            some-more (item_at g.types n) (λ type. (type.kind ≡ kind_of v) × (type.many ≡ true)) (λ type. AreValues type vs) (λ type. AreValues type (vs ++ v ∷ []))
            (λ type is are. value-push type vs v fits is.0 is.1 are.each) (some-more (item_at g.types n) _ _ _ (λ type is yes. (is, yes)) of_kind many) before
      ] refl) fit
    where
      many : IsSomeAnd (item_at g.types n) (λ type. type.many ≡ true)
      many = type-marked g n marked (some-more (item_at g.types n) _ _ (λ type. type.kind ≡ type.kind) (λ type _ _. refl) of_kind of_kind)

pub props-without : (g : Graph) (n : ℕ) (ps : Props) → AreProps g ps → AreProps g (without ps n)
props-without g n ps fit = (IsMap-filter nat_cmp (λ entry. not (entry.0 == n)) ps fit.0, All-filter (HasType g) (HasType g) (λ entry. not (entry.0 == n)) (λ _ _ fits. fits) ps fit.1)
