-- What a call on an edge answers, refusal by refusal.
use Rattle.std.proofs.Common.{◌≡◌, ℕ, ◌+◌, Bool, true, false, not, List, [], ◌∷◌, ◌++◌, ◌||◌, ◌&&◌, Option, Some, None, Ok, Err, ◌==◌}
use Rattle.std.specs.List.{filter}
use Rattle.gdi_kinds.specs.declared.value.Value.{Value}
use Rattle.gdi_kinds.specs.declared.call.Call.TheVariants as call
use Rattle.gdi_kinds.specs.declared.reply.Reply.{Reply}
use Rattle.gdi_kinds.specs.declared.reply.Reply.TheVariants as reply
use Rattle.gdi_kinds.specs.Constraint.{kind_of, same_kind}
use Rattle.rma_layout.specs.Shape.{Shape}
use Rattle.graph_model.specs.Maps.{at, is_there, with_at, without, has, add, take_out}
use Rattle.graph_model.specs.Graph.{Name, Graph, Vertex, Edge, vertex_at, is_vertex}
use Rattle.graph_model.specs.Lookups.{label_number, type_number, kind_at, is_marked, values_at}
use Rattle.graph_model.specs.Steps.{Step, Answer, answer_of}
use Rattle.graph_model.specs.VertexCalls.{with_vertex, reply_of_values}
use Rattle.graph_model.specs.EdgeCalls.{ordinals_end, with_edge, label_if_named, is_vertex_too_large, edge_or_refusal, is_edge_too_large, make_edge}
use Rattle.map_graph.proofs.CallAnswers.{Gives}

-- the graph that a call's steps leave, and the reply
abbrev pub StepsGive : Graph → Step Answer → Graph → Reply → Type 0
StepsGive g steps h reply = answer_of g steps ≡ (record { graph = h; reply = reply })

module _ (undirected : Bool) (g : Graph) (source target : ℕ) (name : Option Name) where
  pub make-no_label : (refusal : Reply) → Err refusal ≡ label_if_named g name → StepsGive g (make_edge undirected g source target name) g refusal
  make-no_label refusal refused = rw (← refused)

  module _ (labels : List ℕ) (named : Ok labels ≡ label_if_named g name) where
    pub make-no_source : None ≡ vertex_at g source → StepsGive g (make_edge undirected g source target name) g (reply.NoVertex source)
    make-no_source none = rw (← named, ← none)

    module _ (vertex : Vertex) (there : Some vertex ≡ vertex_at g source) where
      pub make-no_target : is_vertex g target ≡ false → StepsGive g (make_edge undirected g source target name) g (reply.NoVertex target)
      make-no_target none = rw (← named, ← there, none)

      abbrev changed : Graph
      changed =
          with_edge (with_vertex g source (record vertex { next = vertex.next + 1 })) source vertex.next (record { target = target; undirected = undirected; labels = labels; props = [] })

      abbrev full : Bool
      full = vertex.next == ordinals_end || is_vertex_too_large changed source || is_vertex_too_large changed target

      pub make-too_large : is_vertex g target ≡ true → full ≡ true → StepsGive g (make_edge undirected g source target name) g reply.TooLarge
      make-too_large other is = rw (← named, ← there, other, is)

      pub make-done : is_vertex g target ≡ true → full ≡ false → StepsGive g (make_edge undirected g source target name) changed (reply.EdgeIs source vertex.next)
      make-done other is = rw (← named, ← there, other, is)

module _ (shape : Shape) (g : Graph) (source ordinal : ℕ) where
  pub cut-refused : (refusal : Reply) → Err refusal ≡ edge_or_refusal g source ordinal → Gives shape g (call.Cut source ordinal) g refusal
  cut-refused refusal refused = rw (← refused)

  pub cut-done : (edge : Edge) → Ok edge ≡ edge_or_refusal g source ordinal
      → Gives shape g (call.Cut source ordinal) (record g { edges = filter (λ entry. not (entry.0.source == source && entry.0.ordinal == ordinal)) g.edges }) reply.Done
  cut-done edge there = rw (← there)

  pub target-refused : (refusal : Reply) → Err refusal ≡ edge_or_refusal g source ordinal → Gives shape g (call.Target source ordinal) g refusal
  target-refused refusal refused = rw (← refused)

  pub target-done : (edge : Edge) → Ok edge ≡ edge_or_refusal g source ordinal → Gives shape g (call.Target source ordinal) g (reply.Ids (edge.target ∷ []))
  target-done edge there = rw (← there)

module _ (shape : Shape) (g : Graph) (source ordinal : ℕ) (name : Name) where
  pub etag-no_label : None ≡ label_number g name → Gives shape g (call.ETag source ordinal name) g reply.NoLabel
  etag-no_label none = rw (← none)

  pub euntag-no_label : None ≡ label_number g name → Gives shape g (call.EUntag source ordinal name) g reply.NoLabel
  euntag-no_label none = rw (← none)

  module _ (label : ℕ) (named : Some label ≡ label_number g name) where
    pub etag-refused : (refusal : Reply) → Err refusal ≡ edge_or_refusal g source ordinal → Gives shape g (call.ETag source ordinal name) g refusal
    etag-refused refusal refused = rw (← named, ← refused)

    pub euntag-refused : (refusal : Reply) → Err refusal ≡ edge_or_refusal g source ordinal → Gives shape g (call.EUntag source ordinal name) g refusal
    euntag-refused refusal refused = rw (← named, ← refused)

    module _ (edge : Edge) (there : Ok edge ≡ edge_or_refusal g source ordinal) where
      pub etag-has_label : has edge.labels label ≡ true → Gives shape g (call.ETag source ordinal name) g reply.HasLabel
      etag-has_label is = rw (← named, ← there, is)

      pub etag-too_large : has edge.labels label ≡ false → is_edge_too_large (record edge { labels = add label edge.labels }) ≡ true → Gives shape g (call.ETag source ordinal name) g reply.TooLarge
      etag-too_large lacks full = rw (← named, ← there, lacks, full)

      pub etag-done : has edge.labels label ≡ false → is_edge_too_large (record edge { labels = add label edge.labels }) ≡ false
          → Gives shape g (call.ETag source ordinal name) (with_edge g source ordinal (record edge { labels = add label edge.labels })) reply.Done
      etag-done lacks room = rw (← named, ← there, lacks, room)

      pub euntag-lacks_label : has edge.labels label ≡ false → Gives shape g (call.EUntag source ordinal name) g reply.LacksLabel
      euntag-lacks_label is = rw (← named, ← there, is)

      pub euntag-done : has edge.labels label ≡ true
          → Gives shape g (call.EUntag source ordinal name) (with_edge g source ordinal (record edge { labels = take_out label edge.labels })) reply.Done
      euntag-done is = rw (← named, ← there, is)

  pub eget-no_type : None ≡ type_number g name → Gives shape g (call.EGet source ordinal name) g reply.NoType
  eget-no_type none = rw (← none)

  pub eunset-no_type : None ≡ type_number g name → Gives shape g (call.EUnset source ordinal name) g reply.NoType
  eunset-no_type none = rw (← none)

  module _ (type : ℕ) (typed : Some type ≡ type_number g name) where
    pub eget-refused : (refusal : Reply) → Err refusal ≡ edge_or_refusal g source ordinal → Gives shape g (call.EGet source ordinal name) g refusal
    eget-refused refusal refused = rw (← typed, ← refused)

    pub eunset-refused : (refusal : Reply) → Err refusal ≡ edge_or_refusal g source ordinal → Gives shape g (call.EUnset source ordinal name) g refusal
    eunset-refused refusal refused = rw (← typed, ← refused)

    module _ (edge : Edge) (there : Ok edge ≡ edge_or_refusal g source ordinal) where
      pub eget-no_prop : None ≡ at edge.props type → Gives shape g (call.EGet source ordinal name) g reply.NoProp
      eget-no_prop none = rw (← typed, ← there, ← none)

      pub eget-values : (values : List Value) → Some values ≡ at edge.props type → Gives shape g (call.EGet source ordinal name) g (reply_of_values (is_marked g type) values)
      eget-values values some = rw (← typed, ← there, ← some)

      pub eunset-no_prop : is_there edge.props type ≡ false → Gives shape g (call.EUnset source ordinal name) g reply.NoProp
      eunset-no_prop none = rw (← typed, ← there, none)

      pub eunset-done : is_there edge.props type ≡ true
          → Gives shape g (call.EUnset source ordinal name) (with_edge g source ordinal (record edge { props = without edge.props type })) reply.Done
      eunset-done some = rw (← typed, ← there, some)

module _ (shape : Shape) (g : Graph) (source ordinal : ℕ) (name : Name) (value : Value) where
  pub eset-no_type : None ≡ type_number g name → Gives shape g (call.ESet source ordinal name value) g reply.NoType
  eset-no_type none = rw (← none)

  pub eadd-no_type : None ≡ type_number g name → Gives shape g (call.EAdd source ordinal name value) g reply.NoType
  eadd-no_type none = rw (← none)

  module _ (type : ℕ) (typed : Some type ≡ type_number g name) where
    pub eset-refused : (refusal : Reply) → Err refusal ≡ edge_or_refusal g source ordinal → Gives shape g (call.ESet source ordinal name value) g refusal
    eset-refused refusal refused = rw (← typed, ← refused)

    pub eadd-refused : (refusal : Reply) → Err refusal ≡ edge_or_refusal g source ordinal → Gives shape g (call.EAdd source ordinal name value) g refusal
    eadd-refused refusal refused = rw (← typed, ← refused)

    module _ (edge : Edge) (there : Ok edge ≡ edge_or_refusal g source ordinal) where
      pub eset-wrong_kind : same_kind (kind_of value) (kind_at g type) ≡ false → Gives shape g (call.ESet source ordinal name value) g reply.WrongKind
      eset-wrong_kind other = rw (← typed, ← there, other)

      pub eadd-wrong_kind : same_kind (kind_of value) (kind_at g type) ≡ false → Gives shape g (call.EAdd source ordinal name value) g reply.WrongKind
      eadd-wrong_kind other = rw (← typed, ← there, other)

      module _ (fits : same_kind (kind_of value) (kind_at g type) ≡ true) where
        abbrev set : Edge
        set = record edge { props = with_at edge.props type (value ∷ []) }

        abbrev longer : Edge
        longer = record edge { props = with_at edge.props type (values_at edge.props type ++ value ∷ []) }

        pub eset-too_large : is_edge_too_large set ≡ true → Gives shape g (call.ESet source ordinal name value) g reply.TooLarge
        eset-too_large full = rw (← typed, ← there, fits, full)

        pub eset-done : is_edge_too_large set ≡ false → Gives shape g (call.ESet source ordinal name value) (with_edge g source ordinal set) reply.Done
        eset-done room = rw (← typed, ← there, fits, room)

        pub eadd-not_many : is_marked g type ≡ false → Gives shape g (call.EAdd source ordinal name value) g reply.NotMany
        eadd-not_many one = rw (← typed, ← there, fits, one)

        module _ (many : is_marked g type ≡ true) where
          pub eadd-too_large : is_edge_too_large longer ≡ true → Gives shape g (call.EAdd source ordinal name value) g reply.TooLarge
          eadd-too_large full = rw (← typed, ← there, fits, many, full)

          pub eadd-done : is_edge_too_large longer ≡ false → Gives shape g (call.EAdd source ordinal name value) (with_edge g source ordinal longer) reply.Done
          eadd-done room = rw (← typed, ← there, fits, many, room)
