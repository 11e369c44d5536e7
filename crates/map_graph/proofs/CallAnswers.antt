-- What a call answers, refusal by refusal.
use Rattle.std.proofs.Common.{◌≡◌, ℕ, Bool, true, false, not, List, [], ◌∷◌, ◌++◌, ◌||◌, Some, None, is_some, Result, Ok, Err, IfOk, OnOk, ap, sym, ◌==◌}
use Rattle.std.specs.List.{filter}
use Rattle.gdi_kinds.specs.declared.value.Value.{Value}
use Rattle.gdi_kinds.specs.declared.value.Kind.{Kind}
use Rattle.gdi_kinds.specs.declared.call.Call.{Call}
use Rattle.gdi_kinds.specs.declared.call.Call.TheVariants as call
use Rattle.gdi_kinds.specs.declared.reply.Reply.{Reply}
use Rattle.gdi_kinds.specs.declared.reply.Reply.TheVariants as reply
use Rattle.gdi_kinds.specs.Constraint.{kind_of, same_kind}
use Rattle.rma_layout.specs.Shape.{Shape}
use Rattle.rma_layout.specs.Placement.{bucket_of}
use Rattle.graph_model.specs.Maps.{at, is_there, with_at, without}
use Rattle.graph_model.specs.Graph.{Name, Graph, Vertex, new_vertex, vertex_at, is_vertex}
use Rattle.graph_model.specs.Lookups.{label_number, type_number, kind_at, is_marked, values_at}
use Rattle.graph_model.specs.Sizes.{words_of_vertex, words_of_bucket, words_of_names, is_too_large}
use Rattle.graph_model.specs.Steps.{Answer}
use Rattle.graph_model.specs.VertexCalls.{with_vertex, reply_of_values}
use Rattle.graph_model.specs.Calls.{answer_to, graph_after_call, reply_to}
use Rattle.map_graph.specs.Plain.{Plain, Answers}

-- the graph that a call leaves, and its reply
abbrev pub Gives : Shape → Graph → Call → Graph → Reply → Type 0
Gives shape g call h reply = answer_to shape g call ≡ (record { graph = h; reply = reply })

-- what is known of an answer, by its two parts
pub reply_is : {E : Type 0} (result : Result Reply E) (before after : Plain) (call : Call) → IfOk result (Answers before call after) → IfOk result (λ reply. reply ≡ reply_to before.shape before.graph call)
reply_is (Ok reply) before after call is = sym (ap (λ (answer : Answer). answer.reply) is)
reply_is (Err e) before after call is = tt

pub graph_is : {E : Type 0} (result : Result Reply E) (before after : Plain) (call : Call) → IfOk result (Answers before call after) → OnOk result (after.graph ≡ graph_after_call before.shape before.graph call)
graph_is (Ok reply) before after call is = sym (ap (λ (answer : Answer). answer.graph) is)
graph_is (Err e) before after call is = tt

module _ (shape : Shape) (g : Graph) (id : ℕ) where
  pub vertex-exists : is_vertex g id ≡ true → Gives shape g (call.Vertex id) g reply.Exists
  vertex-exists there = rw there

  pub vertex-too_large : is_vertex g id ≡ false → is_too_large (words_of_bucket shape (with_vertex g id new_vertex) (bucket_of shape id)) ≡ true → Gives shape g (call.Vertex id) g reply.TooLarge
  vertex-too_large absent full = rw (absent, full)

  pub vertex-done : is_vertex g id ≡ false → is_too_large (words_of_bucket shape (with_vertex g id new_vertex) (bucket_of shape id)) ≡ false
      → Gives shape g (call.Vertex id) (with_vertex g id new_vertex) reply.Done
  vertex-done absent room = rw (absent, room)

  pub has-yes : is_vertex g id ≡ true → reply.Yes ≡ reply_to shape g (call.Has id)
  has-yes there = rw there

  pub has-no : is_vertex g id ≡ false → reply.No ≡ reply_to shape g (call.Has id)
  has-no absent = rw absent

  pub drop-no_vertex : is_vertex g id ≡ false → Gives shape g (call.DropVertex id) g (reply.NoVertex id)
  drop-no_vertex absent = rw absent

  pub drop-done : is_vertex g id ≡ true
      → Gives shape g (call.DropVertex id) (record g { vertices = without g.vertices id; edges = filter (λ entry. not (entry.0.source == id || entry.1.target == id)) g.edges }) reply.Done
  drop-done there = rw there

module _ (shape : Shape) (g : Graph) (name : Name) where
  pub label-exists : is_some (label_number g name) ≡ true → Gives shape g (call.NewLabel name) g reply.Exists
  label-exists there = rw there

  pub label-too_large : is_some (label_number g name) ≡ false → is_too_large (words_of_names (record g { labels = g.labels ++ name ∷ [] })) ≡ true → Gives shape g (call.NewLabel name) g reply.TooLarge
  label-too_large absent full = rw (absent, full)

  pub label-done : is_some (label_number g name) ≡ false → is_too_large (words_of_names (record g { labels = g.labels ++ name ∷ [] })) ≡ false
      → Gives shape g (call.NewLabel name) (record g { labels = g.labels ++ name ∷ [] }) reply.Done
  label-done absent room = rw (absent, room)

  module _ (kind : Kind) (many : Bool) where
    pub type-exists : is_some (type_number g name) ≡ true → Gives shape g (call.NewType name kind many) g reply.Exists
    type-exists there = rw there

    pub type-too_large : is_some (type_number g name) ≡ false → is_too_large (words_of_names (record g { types = g.types ++ (record { name = name; kind = kind; many = many }) ∷ [] })) ≡ true
        → Gives shape g (call.NewType name kind many) g reply.TooLarge
    type-too_large absent full = rw (absent, full)

    pub type-done : is_some (type_number g name) ≡ false → is_too_large (words_of_names (record g { types = g.types ++ (record { name = name; kind = kind; many = many }) ∷ [] })) ≡ false
        → Gives shape g (call.NewType name kind many) (record g { types = g.types ++ (record { name = name; kind = kind; many = many }) ∷ [] }) reply.Done
    type-done absent room = rw (absent, room)

module _ (shape : Shape) (g : Graph) (id : ℕ) (name : Name) where
  pub get-no_type : None ≡ type_number g name → Gives shape g (call.Get id name) g reply.NoType
  get-no_type none = rw (← none)

  pub unset-no_type : None ≡ type_number g name → Gives shape g (call.Unset id name) g reply.NoType
  unset-no_type none = rw (← none)

  module _ (type : ℕ) (typed : Some type ≡ type_number g name) where
    pub get-no_vertex : None ≡ vertex_at g id → Gives shape g (call.Get id name) g (reply.NoVertex id)
    get-no_vertex none = rw (← typed, ← none)

    pub unset-no_vertex : None ≡ vertex_at g id → Gives shape g (call.Unset id name) g (reply.NoVertex id)
    unset-no_vertex none = rw (← typed, ← none)

    module _ (vertex : Vertex) (there : Some vertex ≡ vertex_at g id) where
      pub get-no_prop : None ≡ at vertex.props type → Gives shape g (call.Get id name) g reply.NoProp
      get-no_prop none = rw (← typed, ← there, ← none)

      pub get-values : (values : List Value) → Some values ≡ at vertex.props type → Gives shape g (call.Get id name) g (reply_of_values (is_marked g type) values)
      get-values values some = rw (← typed, ← there, ← some)

      pub unset-no_prop : is_there vertex.props type ≡ false → Gives shape g (call.Unset id name) g reply.NoProp
      unset-no_prop none = rw (← typed, ← there, none)

      pub unset-done : is_there vertex.props type ≡ true → Gives shape g (call.Unset id name) (with_vertex g id (record vertex { props = without vertex.props type })) reply.Done
      unset-done some = rw (← typed, ← there, some)

module _ (shape : Shape) (g : Graph) (id : ℕ) (name : Name) (value : Value) where
  pub set-no_type : None ≡ type_number g name → Gives shape g (call.Set id name value) g reply.NoType
  set-no_type none = rw (← none)

  pub add-no_type : None ≡ type_number g name → Gives shape g (call.Add id name value) g reply.NoType
  add-no_type none = rw (← none)

  module _ (type : ℕ) (typed : Some type ≡ type_number g name) where
    pub set-no_vertex : None ≡ vertex_at g id → Gives shape g (call.Set id name value) g (reply.NoVertex id)
    set-no_vertex none = rw (← typed, ← none)

    pub add-no_vertex : None ≡ vertex_at g id → Gives shape g (call.Add id name value) g (reply.NoVertex id)
    add-no_vertex none = rw (← typed, ← none)

    module _ (vertex : Vertex) (there : Some vertex ≡ vertex_at g id) where
      pub set-wrong_kind : same_kind (kind_of value) (kind_at g type) ≡ false → Gives shape g (call.Set id name value) g reply.WrongKind
      set-wrong_kind other = rw (← typed, ← there, other)

      pub add-wrong_kind : same_kind (kind_of value) (kind_at g type) ≡ false → Gives shape g (call.Add id name value) g reply.WrongKind
      add-wrong_kind other = rw (← typed, ← there, other)

      module _ (fits : same_kind (kind_of value) (kind_at g type) ≡ true) where
        pub set-too_large : is_too_large (words_of_vertex g id (record vertex { props = with_at vertex.props type (value ∷ []) })) ≡ true → Gives shape g (call.Set id name value) g reply.TooLarge
        set-too_large full = rw (← typed, ← there, fits, full)

        pub set-done : is_too_large (words_of_vertex g id (record vertex { props = with_at vertex.props type (value ∷ []) })) ≡ false
            → Gives shape g (call.Set id name value) (with_vertex g id (record vertex { props = with_at vertex.props type (value ∷ []) })) reply.Done
        set-done room = rw (← typed, ← there, fits, room)

        pub add-not_many : is_marked g type ≡ false → Gives shape g (call.Add id name value) g reply.NotMany
        add-not_many one = rw (← typed, ← there, fits, one)

        module _ (many : is_marked g type ≡ true) where
          pub add-too_large : is_too_large (words_of_vertex g id (record vertex { props = with_at vertex.props type (values_at vertex.props type ++ value ∷ []) })) ≡ true
              → Gives shape g (call.Add id name value) g reply.TooLarge
          add-too_large full = rw (← typed, ← there, fits, many, full)

          pub add-done : is_too_large (words_of_vertex g id (record vertex { props = with_at vertex.props type (values_at vertex.props type ++ value ∷ []) })) ≡ false
              → Gives shape g (call.Add id name value) (with_vertex g id (record vertex { props = with_at vertex.props type (values_at vertex.props type ++ value ∷ []) })) reply.Done
          add-done room = rw (← typed, ← there, fits, many, room)
