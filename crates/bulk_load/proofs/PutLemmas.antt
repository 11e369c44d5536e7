-- Properties are put in, whatever is there.
use Rattle.std.proofs.Common.{◌≡◌, ℕ, true, false, not, if◌then◌else◌, List, [], ◌∷◌, ◌++◌, map, Option, Some, refl, ap, ◌∙◌}
use Rattle.std.specs.List.{AllByRecursion}
use Rattle.std.specs.Option.{option_map_or}
use Rattle.gdi_kinds.specs.Constraint.{kind_of, same_kind}
use Rattle.gdi_kinds.specs.declared.call.Call.TheVariants.{Set, Add, ESet, EAdd}
use Rattle.gdi_kinds.specs.declared.reply.Reply.TheVariants as reply
use Rattle.gdi_kinds.specs.declared.value.Kind.{Kind}
use Rattle.gdi_kinds.specs.declared.value.Kind.TheVariants as kind
use Rattle.gdi_kinds.specs.declared.value.Value.{Value}
use Rattle.rma_layout.specs.Shape.{Shape}
use Rattle.graph_model.specs.Steps.{answer_of}
use Rattle.graph_model.specs.Calls.{steps_of}
use Rattle.graph_model.specs.Maps.{with_at, place_where, item_at}
use Rattle.graph_model.specs.Graph.{PropType, Graph, Vertex, Edge, vertex_at, edge_at, is_vertex}
use Rattle.graph_model.specs.Lookups.{type_number, kind_at, is_marked}
use Rattle.map_graph.proofs.Ends.{at-put}
use Rattle.graph_model.specs.Sizes.{words_of_vertex, is_too_large}
use Rattle.graph_model.specs.EdgeCalls.{is_edge_too_large, with_edge}
use Rattle.graph_model.specs.VertexCalls.{with_vertex}
use Rattle.graph_model.specs.Lookups.{values_at}
use Rattle.std.specs.Str.{bytes_eq}
use Rattle.bulk_load.specs.declared.column.Column.{Column}
use Rattle.bulk_load.specs.declared.owner.Owner.{Owner}
use Rattle.bulk_load.specs.declared.owner.Owner.TheVariants as owner
use Rattle.bulk_load.specs.Records.{Fields}
use Rattle.bulk_load.specs.Fields.{SpellAll, SpellColumns, parts_of}
use Rattle.bulk_load.specs.Rows.{put, puts}
use Rattle.bulk_load.proofs.SuccessLemmas.{Succeeds, at_end, if_found, if_passed, if_room, if_edge, Go, none_go, first_goes, both_go, edge_put}

-- a column's type is among types
pub record HasType (types : List PropType) (column : Column) : Type 0 where
  pub number : ℕ
  pub type : PropType
  pub place : place_where (λ (t : PropType). bytes_eq column.name t.name) types ≡ Some number
  pub item : item_at types number ≡ Some type
  pub kind : type.kind ≡ column.kind
  pub many : type.many ≡ column.many

-- what has the properties is there
abbrev pub IsThere : Graph → Owner → Type 0
IsThere g (owner.Vertex id) = (v : Vertex) × (vertex_at g id ≡ Some v)
IsThere g (owner.Edge source ordinal) = (is_vertex g source ≡ true) × ((e : Edge) × (edge_at g source ordinal ≡ Some e))

-- a graph with these types
abbrev pub Typed : List PropType → Graph → Type 0
Typed types g = g.types ≡ types

abbrev pub Ready : List PropType → Owner → Graph → Type 0
Ready types who g = Typed types g × IsThere g who

alike : (k : Kind) → same_kind k k ≡ true
alike kind.Int = refl
alike kind.Bool = refl
alike kind.Text = refl

-- on a graph with the column's type, by its number
module _ (types : List PropType) (column : Column) (v : Value) (known : HasType types column) (is : kind_of v ≡ column.kind) (g : Graph) (typed : Typed types g) where
  numbered : type_number g column.name ≡ Some known.number
  numbered = ap (place_where (λ (t : PropType). bytes_eq column.name t.name)) typed ∙ known.place

  the_item : item_at g.types known.number ≡ Some known.type
  the_item = ap (λ (ts : List PropType). item_at ts known.number) typed ∙ known.item

  of_kind : not (same_kind (kind_of v) (kind_at g known.number)) ≡ false
  of_kind =
      let at_kind : kind_at g known.number ≡ column.kind = ap (λ (o : Option PropType). option_map_or (λ (t : PropType). t.kind) o kind.Int) the_item ∙ known.kind in
      ap (λ (k : Kind). not (same_kind (kind_of v) k)) at_kind ∙ ap (λ (k : Kind). not (same_kind k column.kind)) is ∙ ap not (alike column.kind)

  marked : column.many ≡ true → not (is_marked g known.number) ≡ false
  marked many = ap not (ap (λ (o : Option PropType). option_map_or (λ (t : PropType). t.many) o false) the_item ∙ known.many ∙ many)

  module _ (shape : Shape) (id : ℕ) (vertex : Vertex) (there : vertex_at g id ≡ Some vertex) where
    ready_vertex : (w : Vertex) → Ready types (owner.Vertex id) (with_vertex g id w)
    ready_vertex w = (typed, (w, at-put g.vertices id w))

    set_vertex : Succeeds (Ready types (owner.Vertex id)) (answer_of g (steps_of shape g (Set id column.name v)))
    set_vertex =
        let Q = Ready types (owner.Vertex id) in
        let set : Vertex = record vertex { props = with_at vertex.props known.number (v ∷ []) } in
        if_found Q g reply.NoType (type_number g column.name) known.number _ numbered
        (if_found Q g (reply.NoVertex id) (vertex_at g id) vertex _ there
        (if_passed Q g (not (same_kind (kind_of v) (kind_at g known.number))) reply.WrongKind _ of_kind
        (if_room Q g (is_too_large (words_of_vertex (with_vertex g id set) id set)) _
        (at_end Q g (with_vertex g id set) reply.Done refl (ready_vertex set)))))

    add_vertex : column.many ≡ true → Succeeds (Ready types (owner.Vertex id)) (answer_of g (steps_of shape g (Add id column.name v)))
    add_vertex many =
        let Q = Ready types (owner.Vertex id) in
        let longer : Vertex = record vertex { props = with_at vertex.props known.number (values_at vertex.props known.number ++ v ∷ []) } in
        if_found Q g reply.NoType (type_number g column.name) known.number _ numbered
        (if_found Q g (reply.NoVertex id) (vertex_at g id) vertex _ there
        (if_passed Q g (not (same_kind (kind_of v) (kind_at g known.number))) reply.WrongKind _ of_kind
        (if_passed Q g (not (is_marked g known.number)) reply.NotMany _ (marked many)
        (if_room Q g (is_too_large (words_of_vertex (with_vertex g id longer) id longer)) _
        (at_end Q g (with_vertex g id longer) reply.Done refl (ready_vertex longer))))))

  module _ (shape : Shape) (source ordinal : ℕ) (edge : Edge) (from : is_vertex g source ≡ true) (there : edge_at g source ordinal ≡ Some edge) where
    ready_edge : (e : Edge) → Ready types (owner.Edge source ordinal) (with_edge g source ordinal e)
    ready_edge e = (typed, (from, (e, edge_put g source ordinal e)))

    set_edge : Succeeds (Ready types (owner.Edge source ordinal)) (answer_of g (steps_of shape g (ESet source ordinal column.name v)))
    set_edge =
        let Q = Ready types (owner.Edge source ordinal) in
        let set : Edge = record edge { props = with_at edge.props known.number (v ∷ []) } in
        if_found Q g reply.NoType (type_number g column.name) known.number _ numbered
        (if_edge Q g source ordinal edge _ from there
        (if_passed Q g (not (same_kind (kind_of v) (kind_at g known.number))) reply.WrongKind _ of_kind
        (if_room Q g (is_edge_too_large set) _
        (at_end Q g (with_edge g source ordinal set) reply.Done refl (ready_edge set)))))

    add_edge : column.many ≡ true → Succeeds (Ready types (owner.Edge source ordinal)) (answer_of g (steps_of shape g (EAdd source ordinal column.name v)))
    add_edge many =
        let Q = Ready types (owner.Edge source ordinal) in
        let longer : Edge = record edge { props = with_at edge.props known.number (values_at edge.props known.number ++ v ∷ []) } in
        if_found Q g reply.NoType (type_number g column.name) known.number _ numbered
        (if_edge Q g source ordinal edge _ from there
        (if_passed Q g (not (same_kind (kind_of v) (kind_at g known.number))) reply.WrongKind _ of_kind
        (if_passed Q g (not (is_marked g known.number)) reply.NotMany _ (marked many)
        (if_room Q g (is_edge_too_large longer) _
        (at_end Q g (with_edge g source ordinal longer) reply.Done refl (ready_edge longer))))))

  put_goes : (shape : Shape) (who : Owner) → IsThere g who → Succeeds (Ready types who) (answer_of g (steps_of shape g (put who column v)))
  put_goes shape (owner.Vertex id) there =
      elim column.many as (λ b. column.many ≡ b → Succeeds (Ready types (owner.Vertex id)) (answer_of g (steps_of shape g (if b then Add id column.name v else Set id column.name v)))) [
        | true ↦ λ many. add_vertex shape id there.0 there.1 many
        | false ↦ λ single. set_vertex shape id there.0 there.1
      ] refl
  put_goes shape (owner.Edge source ordinal) there =
      elim column.many as (λ b. column.many ≡ b → Succeeds (Ready types (owner.Edge source ordinal)) (answer_of g (steps_of shape g (if b then EAdd source ordinal column.name v else ESet source ordinal column.name v)))) [
        | true ↦ λ many. add_edge shape source ordinal there.1.0 there.0 there.1.1 many
        | false ↦ λ single. set_edge shape source ordinal there.1.0 there.0 there.1.1
      ] refl

-- the values of a column
values_go : (shape : Shape) (types : List PropType) (who : Owner) (column : Column) → HasType types column → (parts : Fields) (values : List Value) → SpellAll column.kind parts values
    → Go shape (Ready types who) (map (put who column) values) (Ready types who)
values_go shape types who column known [] [] spelled = none_go shape (Ready types who)
values_go shape types who column known (part ∷ parts) (v ∷ values) spelled =
    first_goes shape (Ready types who) (Ready types who) (Ready types who) (put who column v) (map (put who column) values)
    (λ g ready. put_goes types column v known spelled.0.kind_is g ready.0 shape who ready.1)
    (values_go shape types who column known parts values spelled.1)
values_go shape types who column known [] (v ∷ values) spelled = absurd spelled
values_go shape types who column known (part ∷ parts) [] spelled = absurd spelled

-- the values of all columns
pub puts_go : (shape : Shape) (types : List PropType) (who : Owner) (columns : List Column) → AllByRecursion (HasType types) columns → (fields : Fields) (values : List (List Value)) → SpellColumns columns fields values
    → Go shape (Ready types who) (puts who columns values) (Ready types who)
puts_go shape types who [] known [] [] spelled = none_go shape (Ready types who)
puts_go shape types who (column ∷ columns) known (field ∷ fields) (values ∷ rest) spelled =
    both_go shape (Ready types who) (Ready types who) (Ready types who) (map (put who column) values) (puts who columns rest)
    (values_go shape types who column known.0 (parts_of column field) values spelled.0)
    (puts_go shape types who columns known.1 fields rest spelled.1)
puts_go shape types who columns known fields values spelled = absurd spelled
