-- The text of a reply tells all of it: no graph answers an item of an undirected edge as inward.
use Rattle.std.proofs.Common.{◌≡◌, ℕ, ◌+◌, Bool, true, false, not, List, [], ◌∷◌, ◌++◌, Option, Some, None, Ok, Err, cond, refl, sym, subst}
use Rattle.std.specs.Prelude.{◌==◌, ◌||◌, is_some, is_none}
use Rattle.std.specs.List.{AllByRecursion, filter, list_any, zip}
use Rattle.text_words.proofs.PrintLemmas.{all_append}
use Rattle.gdi_kinds.specs.declared.call.Call.{Call}
use Rattle.gdi_kinds.specs.declared.call.Call.TheVariants as call
use Rattle.gdi_kinds.specs.declared.call.Dir.{Dir}
use Rattle.gdi_kinds.specs.declared.call.Dir.TheVariants.{Outward, Inward, Undirected, Either}
use Rattle.gdi_kinds.specs.declared.constraint.Atom.{Atom}
use Rattle.gdi_kinds.specs.declared.constraint.Atom.TheVariants.{Has, Lacks, Prop}
use Rattle.gdi_kinds.specs.declared.outcome.Line.{Line}
use Rattle.gdi_kinds.specs.declared.outcome.Outcome.{Outcome}
use Rattle.gdi_kinds.specs.declared.outcome.Outcome.TheVariants.{Wrote, Read, Aborted, Full}
use Rattle.gdi_kinds.specs.declared.outcome.Printed.{Printed}
use Rattle.gdi_kinds.specs.declared.reply.Reply.{Reply}
use Rattle.gdi_kinds.specs.declared.reply.Reply.TheVariants as reply
use Rattle.gdi_kinds.specs.declared.txn.Txn.{Txn}
use Rattle.gdi_kinds.specs.declared.value.Value.{Value}
use Rattle.rma_layout.specs.Shape.{Shape}
use Rattle.gdi_kinds.specs.Constraint.{kind_of, same_kind}
use Rattle.rma_layout.specs.Placement.{bucket_of, slot_of}
use Rattle.graph_model.specs.Maps.{Map, at, add, has, is_there, with_at}
use Rattle.graph_model.specs.Sizes.{is_too_large, words_of_bucket, words_of_names, words_of_slot, words_of_vertex}
use Rattle.graph_model.specs.Graph.{Graph, Edge, EdgeKey, Name, Vertex, directed, edge_at, edges_from, edges_to, is_vertex, new_vertex, undirected, vertex_at}
use Rattle.graph_model.specs.Lookups.{is_marked, kind_at, label_number, type_number, values_at, lines_at, line_at_source, line_at_target, out_lines, in_lines}
use Rattle.graph_model.specs.Steps.{◌>>=◌, Step, Answer, answer_of, found_or, refused_if}
use Rattle.graph_model.specs.EdgeCalls.{edge_or_refusal, is_edge_too_large, is_vertex_too_large, label_if_named, make_edge, ordinals_end, with_edge}
use Rattle.graph_model.specs.ListCalls.{atoms_of, is_of_wrong_kind, kinds_agree, names_known, passes_test}
use Rattle.graph_model.specs.VertexCalls.{reply_of_values, with_vertex}
use Rattle.graph_model.specs.Calls.{steps_of, graph_after_call}
use Rattle.graph_model.specs.Transactions.{replies_to_calls}
use Rattle.graph_model.specs.Placed.{Placed, transactions_of}
use Rattle.graph_model.specs.LegalRun.{FitsScript, HasReplies, IsLegalRun, graph_of_run}
use Rattle.outcome_text.specs.Told.{EndIsTold, ReplyIsTold, OutcomeIsTold, RunIsTold}

-- ---- the lines of edges

at_source : (entry : EdgeKey × Edge) → EndIsTold (line_at_source entry)
at_source entry = λ _. refl

inward_is : (undirected : Bool) → undirected ≡ true → not undirected ≡ false
inward_is true is = refl
inward_is false is = absurd (cc)

at_target : (entry : EdgeKey × Edge) → EndIsTold (line_at_target entry)
at_target entry = inward_is entry.1.undirected

outs : (edges : Map EdgeKey Edge) → AllByRecursion EndIsTold (out_lines edges)
outs [] = tt
outs (entry ∷ edges) = (at_source entry, outs edges)

ins : (edges : Map EdgeKey Edge) → AllByRecursion EndIsTold (in_lines edges)
ins [] = tt
ins (entry ∷ edges) = (at_target entry, ins edges)

both : (from to : Map EdgeKey Edge) → AllByRecursion EndIsTold (out_lines from ++ in_lines to)
both from to = all_append EndIsTold (out_lines from) (in_lines to) (outs from) (ins to)

all_lines : (g : Graph) (passes : EdgeKey × Edge → Bool) (id : ℕ) (dir : Dir) → AllByRecursion EndIsTold (lines_at g passes id dir)
all_lines g passes id Outward = outs (filter passes (directed (edges_from g id)))
all_lines g passes id Inward = ins (filter passes (directed (edges_to g id)))
all_lines g passes id Undirected = both (filter passes (undirected (edges_from g id))) (filter passes (undirected (edges_to g id)))
all_lines g passes id Either = both (filter passes (edges_from g id)) (filter passes (edges_to g id))

-- ---- the calls

-- steps whose reply is told, whether they refuse or not
data Tells : Step Answer → Type 0 where
  at_end : {answer : Answer} → ReplyIsTold answer.reply → Tells (Ok answer)
  at_refusal : {refusal : Reply} → ReplyIsTold refusal → Tells (Err refusal)

abbrev RefusesTold : {A : Type 0} → Step A → Type 0
RefusesTold (Ok x) = Unit {0}
RefusesTold (Err refusal) = ReplyIsTold refusal

after : {A : Type 0} (s : Step A) (next : A → Step Answer) → RefusesTold s → ((x : A) → Tells (next x)) → Tells (s >>= next)
after (Ok x) next refusal each = each x
after (Err r) next refusal each = at_refusal refusal

found : {A : Type 0} (refusal : Reply) (o : Option A) (next : A → Step Answer) → ReplyIsTold refusal → ((x : A) → Tells (next x)) → Tells (found_or refusal o >>= next)
found refusal None next told each = at_refusal told
found refusal (Some x) next told each = each x

test : (failed : Bool) (refusal : Reply) (next : Unit {0} → Step Answer) → ReplyIsTold refusal → Tells (next tt) → Tells (refused_if failed refusal >>= next)
test true refusal next told rest = at_refusal told
test false refusal next told rest = rest

tests : (failed : Bool) (refusal : Reply) → ReplyIsTold refusal → RefusesTold (refused_if failed refusal)
tests true refusal told = told
tests false refusal told = tt

edge : (g : Graph) (source ordinal : ℕ) → RefusesTold (edge_or_refusal g source ordinal)
edge g source ordinal =
    elim (is_vertex g source) as (λ there. RefusesTold (refused_if (not there) (reply.NoVertex source) >>= λ _. found_or reply.NoEdge (edge_at g source ordinal))) [
      | true ↦ elim (edge_at g source ordinal) as (λ found. RefusesTold (found_or reply.NoEdge found)) [ None ↦ tt | Some e ↦ tt ]
      | false ↦ tt
    ]

label : (g : Graph) (name : Option Name) → RefusesTold (label_if_named g name)
label g None = tt
label g (Some name) = elim (label_number g name) as (λ number. RefusesTold (found_or reply.NoLabel number >>= λ l. Ok (l ∷ []))) [ None ↦ tt | Some l ↦ tt ]

one_name : (failed : Bool) (refusal : Reply) (rest : Step (Unit {0})) → ReplyIsTold refusal → RefusesTold rest → RefusesTold (refused_if failed refusal >>= λ _. rest)
one_name true refusal rest told others = told
one_name false refusal rest told others = others

known : (g : Graph) (atoms : List Atom) → RefusesTold (names_known g atoms)
known g [] = tt
known g (Has name ∷ atoms) = one_name (is_none (label_number g name)) reply.NoLabel (names_known g atoms) tt (known g atoms)
known g (Lacks name ∷ atoms) = one_name (is_none (label_number g name)) reply.NoLabel (names_known g atoms) tt (known g atoms)
known g (Prop name op value ∷ atoms) = one_name (is_none (type_number g name)) reply.NoType (names_known g atoms) tt (known g atoms)

kinds : (g : Graph) (atoms : List Atom) → RefusesTold (kinds_agree g atoms)
kinds g atoms = tests (list_any (is_of_wrong_kind g) atoms) reply.WrongKind tt

values_told : (marked : Bool) (values : List Value) → ReplyIsTold (reply_of_values marked values)
values_told true values = tt
values_told false [] = tt
values_told false (value ∷ values) = tt

-- a call that makes an edge
makes : (undirected : Bool) (g : Graph) (source target : ℕ) (name : Option Name) → Tells (make_edge undirected g source target name)
makes undirected g source target name =
    after (label_if_named g name) _ (label g name) (λ labels.
    found (reply.NoVertex source) (vertex_at g source) _ tt (λ vertex.
    let raised = with_vertex g source (record vertex { next = vertex.next + 1 }) in
    let changed = with_edge raised source vertex.next (record { target = target; undirected = undirected; labels = labels; props = [] }) in
    test (not (is_vertex g target)) (reply.NoVertex target) _ tt (
    test (vertex.next == ordinals_end || is_vertex_too_large changed source || is_vertex_too_large changed target) reply.TooLarge _ tt (at_end tt))))

abbrev has_type : (g : Graph) (name : Name) (next : ℕ → Step Answer) → ((type : ℕ) → Tells (next type)) → Tells (found_or reply.NoType (type_number g name) >>= next)
has_type g name next each = found reply.NoType (type_number g name) next tt each

abbrev has_label : (g : Graph) (name : Name) (next : ℕ → Step Answer) → ((l : ℕ) → Tells (next l)) → Tells (found_or reply.NoLabel (label_number g name) >>= next)
has_label g name next each = found reply.NoLabel (label_number g name) next tt each

-- a call on a vertex that is there, and on an edge that is
abbrev has_vertex : (g : Graph) (id : ℕ) (next : Vertex → Step Answer) → ((v : Vertex) → Tells (next v)) → Tells (found_or (reply.NoVertex id) (vertex_at g id) >>= next)
has_vertex g id next each = found (reply.NoVertex id) (vertex_at g id) next tt each

abbrev has_edge : (g : Graph) (source ordinal : ℕ) (next : Edge → Step Answer) → ((e : Edge) → Tells (next e)) → Tells (edge_or_refusal g source ordinal >>= next)
has_edge g source ordinal next each = after (edge_or_refusal g source ordinal) next (edge g source ordinal) each

abbrev large : (words : ℕ) (answer : Answer) → ReplyIsTold answer.reply → Tells (refused_if (is_too_large words) reply.TooLarge >>= λ _. Ok answer)
large words answer told = test (is_too_large words) reply.TooLarge (λ _. Ok answer) tt (at_end told)

of_steps : (shape : Shape) (g : Graph) (c : Call) → Tells (steps_of shape g c)
of_steps shape g (call.NewLabel name) =
    test (is_some (label_number g name)) reply.Exists _ tt (large (words_of_names (record g { labels = g.labels ++ name ∷ [] })) _ tt)
of_steps shape g (call.NewType name kind many) =
    test (is_some (type_number g name)) reply.Exists _ tt (large (words_of_names (record g { types = g.types ++ (record { name = name; kind = kind; many = many }) ∷ [] })) _ tt)
of_steps shape g (call.Vertex id) = test (is_vertex g id) reply.Exists _ tt (large (words_of_bucket shape (with_vertex g id new_vertex) (bucket_of shape id)) _ tt)
of_steps shape g (call.Has id) = at_end (elim (is_vertex g id) as (λ there. ReplyIsTold (cond there reply.Yes reply.No)) [ true ↦ tt | false ↦ tt ])
of_steps shape g (call.DropVertex id) = test (not (is_vertex g id)) (reply.NoVertex id) _ tt (at_end tt)
of_steps shape g (call.Tag id name) =
    has_label g name _ (λ l. has_vertex g id _ (λ v.
    let tagged : Vertex = record v { labels = add l v.labels } in
    let changed = with_vertex g id tagged in
    test (has v.labels l) reply.HasLabel _ tt (
    test (is_too_large (words_of_vertex changed id tagged) || is_too_large (words_of_slot shape changed (slot_of shape l id))) reply.TooLarge _ tt (at_end tt))))
of_steps shape g (call.Untag id name) = has_label g name _ (λ l. has_vertex g id _ (λ v. test (not (has v.labels l)) reply.LacksLabel _ tt (at_end tt)))
of_steps shape g (call.Tags id) = has_vertex g id _ (λ v. at_end tt)
of_steps shape g (call.Set id prop value) =
    has_type g prop _ (λ t. has_vertex g id _ (λ v.
    let set : Vertex = record v { props = with_at v.props t (value ∷ []) } in
    test (not (same_kind (kind_of value) (kind_at g t))) reply.WrongKind _ tt (large (words_of_vertex (with_vertex g id set) id set) _ tt)))
of_steps shape g (call.Add id prop value) =
    has_type g prop _ (λ t. has_vertex g id _ (λ v.
    let longer : Vertex = record v { props = with_at v.props t (values_at v.props t ++ value ∷ []) } in
    test (not (same_kind (kind_of value) (kind_at g t))) reply.WrongKind _ tt (
    test (not (is_marked g t)) reply.NotMany _ tt (large (words_of_vertex (with_vertex g id longer) id longer) _ tt))))
of_steps shape g (call.Get id prop) = has_type g prop _ (λ t. has_vertex g id _ (λ v. found reply.NoProp (at v.props t) _ tt (λ values. at_end (values_told (is_marked g t) values))))
of_steps shape g (call.Unset id prop) = has_type g prop _ (λ t. has_vertex g id _ (λ v. test (not (is_there v.props t)) reply.NoProp _ tt (at_end tt)))
of_steps shape g (call.Props id) = has_vertex g id _ (λ v. at_end tt)
of_steps shape g (call.Edge source target name) = makes false g source target name
of_steps shape g (call.UEdge source target name) = makes true g source target name
of_steps shape g (call.Cut source ordinal) = has_edge g source ordinal _ (λ e. at_end tt)
of_steps shape g (call.Target source ordinal) = has_edge g source ordinal _ (λ e. at_end tt)
of_steps shape g (call.ETag source ordinal name) =
    has_label g name _ (λ l. has_edge g source ordinal _ (λ e.
    test (has e.labels l) reply.HasLabel _ tt (test (is_edge_too_large (record e { labels = add l e.labels })) reply.TooLarge _ tt (at_end tt))))
of_steps shape g (call.EUntag source ordinal name) = has_label g name _ (λ l. has_edge g source ordinal _ (λ e. test (not (has e.labels l)) reply.LacksLabel _ tt (at_end tt)))
of_steps shape g (call.ETags source ordinal) = has_edge g source ordinal _ (λ e. at_end tt)
of_steps shape g (call.ESet source ordinal prop value) =
    has_type g prop _ (λ t. has_edge g source ordinal _ (λ e.
    test (not (same_kind (kind_of value) (kind_at g t))) reply.WrongKind _ tt (
    test (is_edge_too_large (record e { props = with_at e.props t (value ∷ []) })) reply.TooLarge _ tt (at_end tt))))
of_steps shape g (call.EAdd source ordinal prop value) =
    has_type g prop _ (λ t. has_edge g source ordinal _ (λ e.
    test (not (same_kind (kind_of value) (kind_at g t))) reply.WrongKind _ tt (
    test (not (is_marked g t)) reply.NotMany _ tt (
    test (is_edge_too_large (record e { props = with_at e.props t (values_at e.props t ++ value ∷ []) })) reply.TooLarge _ tt (at_end tt)))))
of_steps shape g (call.EGet source ordinal prop) =
    has_type g prop _ (λ t. has_edge g source ordinal _ (λ e. found reply.NoProp (at e.props t) _ tt (λ values. at_end (values_told (is_marked g t) values))))
of_steps shape g (call.EUnset source ordinal prop) = has_type g prop _ (λ t. has_edge g source ordinal _ (λ e. test (not (is_there e.props t)) reply.NoProp _ tt (at_end tt)))
of_steps shape g (call.EProps source ordinal) = has_edge g source ordinal _ (λ e. at_end tt)
of_steps shape g (call.Edges id dir atoms) =
    after (names_known g (atoms_of atoms)) _ (known g (atoms_of atoms)) (λ _.
    test (not (is_vertex g id)) (reply.NoVertex id) _ tt (
    after (kinds_agree g (atoms_of atoms)) _ (kinds g (atoms_of atoms)) (λ _. at_end (all_lines g (λ entry. passes_test g atoms entry.1.labels entry.1.props) id dir))))
of_steps shape g (call.Near id dir) = test (not (is_vertex g id)) (reply.NoVertex id) _ tt (at_end tt)
of_steps shape g (call.Degree id dir) = test (not (is_vertex g id)) (reply.NoVertex id) _ tt (at_end tt)
of_steps shape g (call.Find name atoms) =
    has_label g name _ (λ l. after (names_known g (atoms_of atoms)) _ (known g (atoms_of atoms)) (λ _. after (kinds_agree g (atoms_of atoms)) _ (kinds g (atoms_of atoms)) (λ _. at_end tt)))
of_steps shape g (call.Hood id depth) = test (not (is_vertex g id)) (reply.NoVertex id) _ tt (at_end tt)
of_steps shape g (call.Levels id) = test (not (is_vertex g id)) (reply.NoVertex id) _ tt (at_end tt)
of_steps shape g call.Parts = at_end tt
of_steps shape g (call.Scan name atoms) =
    after (label_if_named g name) _ (label g name) (λ l. after (names_known g (atoms_of atoms)) _ (known g (atoms_of atoms)) (λ _. after (kinds_agree g (atoms_of atoms)) _ (kinds g (atoms_of atoms)) (λ _. at_end tt)))
of_steps shape g call.Vertices = at_end tt
of_steps shape g call.Arcs = at_end tt

of_answer : (g : Graph) (s : Step Answer) → Tells s → ReplyIsTold (answer_of g s).reply
of_answer g (Ok answer) (at_end told) = told
of_answer g (Err refusal) (at_refusal told) = told

-- ---- runs

of_calls : (shape : Shape) (g : Graph) (calls : List Call) → AllByRecursion ReplyIsTold (replies_to_calls shape g calls)
of_calls shape g [] = tt
of_calls shape g (c ∷ calls) = (of_answer g (steps_of shape g c) (of_steps shape g c), of_calls shape (graph_after_call shape g c) calls)

of_outcome : (shape : Shape) (graph : ℕ → Graph) (txn : Txn) (outcome : Outcome) → HasReplies shape graph txn outcome → OutcomeIsTold outcome
of_outcome shape graph txn (Wrote k replies) are = subst (AllByRecursion ReplyIsTold) (sym are) (of_calls shape (graph k) txn.calls)
of_outcome shape graph txn (Read place replies) are = subst (AllByRecursion ReplyIsTold) (sym are) (of_calls shape (graph place) txn.calls)
of_outcome shape graph txn Aborted are = tt
of_outcome shape graph txn (Full rank place) are = tt

of_lines : (shape : Shape) (graph : ℕ → Graph) (transactions : List Placed) (lines : List Line) → FitsScript transactions lines
    → AllByRecursion (λ pair. HasReplies shape graph pair.0.txn pair.1.outcome) (zip transactions lines) → AllByRecursion (λ line. OutcomeIsTold line.outcome) lines
of_lines shape graph [] [] fits replies = tt
of_lines shape graph [] (line ∷ lines) fits replies = absurd fits
of_lines shape graph (placed ∷ rest) [] fits replies = absurd fits
of_lines shape graph (placed ∷ rest) (line ∷ lines) fits replies = (of_outcome shape graph placed.txn line.outcome replies.0, of_lines shape graph rest lines fits.1 replies.1)

-- what a legal run prints is told by its text
pub legal_is_told : (shape : Shape) (load : List Txn) (script : List (List Txn)) (run : Printed) → IsLegalRun shape load script run → RunIsTold run
legal_is_told shape load script run legal = of_lines shape (graph_of_run shape load script run) (transactions_of script) run.lines legal.fits_script legal.replies
