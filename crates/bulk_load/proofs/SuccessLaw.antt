-- No call of a load is refused.
use Rattle.std.proofs.Common.{◌≡◌, ℕ, Bool, true, false, not, List, [], ◌∷◌, ◌++◌, map, Option, Some, None, refl, sym, ap, subst}
use Rattle.std.specs.List.{AllByRecursion}
use Rattle.std.specs.Option.{option_map_or, option_to_list}
use Rattle.gdi_kinds.specs.declared.call.Call.{Call}
use Rattle.gdi_kinds.specs.declared.call.Call.TheVariants.{Vertex as MakeVertex, Tag}
use Rattle.gdi_kinds.specs.declared.txn.Txn.{Txn}
use Rattle.rma_layout.specs.Shape.{Shape}
use Rattle.graph_model.specs.Graph.{Name, PropType, Graph, Vertex, vertex_at, is_vertex}
use Rattle.graph_model.specs.Transactions.{graph_after_calls, replies_to, replies_to_calls}
use Rattle.bulk_load.specs.declared.header.Header.{Header}
use Rattle.bulk_load.specs.declared.lead.Lead.{Lead}
use Rattle.bulk_load.specs.declared.lead.Lead.TheVariants as lead
use Rattle.bulk_load.specs.declared.subject.Subject.{Subject}
use Rattle.bulk_load.specs.declared.subject.Subject.TheVariants as subject
use Rattle.bulk_load.specs.declared.owner.Owner.TheVariants as owner
use Rattle.bulk_load.specs.Headers.{are_apart}
use Rattle.bulk_load.specs.Records.{Fields}
use Rattle.bulk_load.specs.Fields.{Says}
use Rattle.bulk_load.specs.Rows.{DoCalls, IsRight, making, misfits, new_labels, edge_call, owner_of, puts}
use Rattle.bulk_load.specs.Loads.{new_types}
use Rattle.bulk_load.specs.Laws.{LoadedCallsSucceed}
use Rattle.bulk_load.proofs.ApartLemmas.{neither}
use Rattle.bulk_load.proofs.PlaceLemmas.{is_there}
use Rattle.bulk_load.proofs.PutLemmas.{HasType, Typed, Ready, puts_go}
use Rattle.bulk_load.proofs.TypeLemmas.{new_types_go, as_at_start}
use Rattle.bulk_load.proofs.MakingLemmas.{IsAlike, IsKnown, LacksLabels, HasEnds, new_labels_go, vertex_goes, tags_go, edge_goes}
use Rattle.bulk_load.proofs.SuccessLemmas.{AllSucceed, Go, none_go, first_goes, both_go, weaker_go, all_replies}

alike_itself : (g : Graph) (names : Fields) → AllByRecursion (IsAlike g g) names
alike_itself g [] = tt
alike_itself g (name ∷ names) = (refl, alike_itself g names)

one_apart : (label : Option Name) → are_apart (option_to_list label) ≡ true
one_apart None = refl
one_apart (Some name) = refl

labels_apart : (at : Lead) (fields behind : Fields) (id : ℕ) (labels : Fields) → Says at fields (subject.Vertex id labels) behind → are_apart labels ≡ true
labels_apart lead.Vertices (a ∷ b ∷ fields) behind id labels said = said.1.apart
labels_apart lead.Edges (a ∷ b ∷ c ∷ fields) behind id labels said = absurd said
labels_apart lead.MarkedEdges (a ∷ b ∷ c ∷ d ∷ fields) behind id labels said = absurd said
labels_apart at fields behind id labels said = absurd said

-- the calls that make a vertex or an edge, on the graph on which they are said
making_goes : (shape : Shape) (types : List PropType) (at : Lead) (fields behind : Fields) (says : Subject) (start : Graph) → Says at fields says behind → Typed types start → misfits start says ≡ false
    → Go shape (λ g. g ≡ start) (making start says) (Ready types (owner_of start says))
making_goes shape types at fields behind (subject.Vertex id labels) start said typed fits =
    let Base : Graph → Type 0 = λ g. Typed types g × (is_vertex g id ≡ false) in
    let Known : Graph → Type 0 = λ g. Base g × AllByRecursion (IsKnown g) labels in
    let Made : Graph → Type 0 = λ g. Typed types g × LacksLabels id labels g in
    let apart = labels_apart at fields behind id labels said in
    both_go shape (λ g. g ≡ start) Known (Ready types (owner.Vertex id)) (new_labels start labels) (MakeVertex id ∷ map (Tag id) labels)
    (weaker_go shape (λ g. Base g × AllByRecursion (IsAlike start g) labels) (λ g. g ≡ start) Known Known (new_labels start labels)
    (λ g is. subst (λ (h : Graph). Base h × AllByRecursion (IsAlike start h) labels) (sym is) ((typed, fits), alike_itself start labels)) (λ g holds. holds)
    (new_labels_go shape start labels Base (λ g name holds. holds) apart))
    (first_goes shape Known Made (Ready types (owner.Vertex id)) (MakeVertex id) (map (Tag id) labels) (vertex_goes shape types id labels) (tags_go shape types id labels apart))
making_goes shape types at fields behind (subject.Edge undirected source target label) start said typed fits =
    let ends = neither (not (is_vertex start source)) (not (is_vertex start target)) fits in
    let from = is_there (vertex_at start source) (not_not (is_vertex start source) ends.0) in
    let Base : Graph → Type 0 = HasEnds types source from.0 target in
    let Known : Graph → Type 0 = λ g. Base g × AllByRecursion (IsKnown g) (option_to_list label) in
    let next : from.0.next ≡ owner_next = sym (ap (λ (o : Option Vertex). option_map_or (λ (v : Vertex). v.next) o 0) from.1) in
    let Made : Graph → Type 0 = Ready types (owner.Edge source from.0.next) in
    subst (λ (n : ℕ). Go shape (λ g. g ≡ start) (new_labels start (option_to_list label) ++ edge_call undirected source target label ∷ []) (Ready types (owner.Edge source n))) next
    (both_go shape (λ g. g ≡ start) Known Made (new_labels start (option_to_list label)) (edge_call undirected source target label ∷ [])
    (weaker_go shape (λ g. Base g × AllByRecursion (IsAlike start g) (option_to_list label)) (λ g. g ≡ start) Known Known (new_labels start (option_to_list label))
    (λ g is. subst (λ (h : Graph). Base h × AllByRecursion (IsAlike start h) (option_to_list label)) (sym is) ((typed, (from.1, not_not (is_vertex start target) ends.1)), alike_itself start (option_to_list label))) (λ g holds. holds)
    (new_labels_go shape start (option_to_list label) Base (λ g name holds. holds) (one_apart label)))
    (first_goes shape Known Made Made (edge_call undirected source target label) [] (edge_goes shape types undirected source target label from.0) (none_go shape Made)))
  where
    owner_next : ℕ
    owner_next = option_map_or (λ (v : Vertex). v.next) (vertex_at start source) 0

    not_not : (b : Bool) → not b ≡ false → b ≡ true
    not_not true is = refl
    not_not false is = sym is

-- the calls of a record
record_goes : (shape : Shape) (header : Header) (types : List PropType) (start : Graph) (fields : Fields) (calls : List Call) → AllByRecursion (HasType types) header.columns → Typed types start → IsRight shape start header fields calls
    → AllSucceed (replies_to_calls shape start calls) × Typed types (graph_after_calls shape start calls)
record_goes shape header types start fields calls known typed right =
    let said = right.said in
    let who = owner_of start right.subject in
    let goes : Go shape (λ g. g ≡ start) (making start right.subject ++ puts who header.columns said.values) (Ready types who) =
    both_go shape (λ g. g ≡ start) (Ready types who) (Ready types who) (making start right.subject) (puts who header.columns said.values)
    (making_goes shape types header.lead fields said.behind right.subject start said.front typed right.fits)
    (puts_go shape types who header.columns known said.behind said.values said.columns) in
    let done = subst (λ (cs : List Call). Go shape (λ g. g ≡ start) cs (Ready types who)) (sym said.calls_are) goes start refl right.within in
    (done.0, done.1.0)

-- the calls of records one after the other
records_go : (shape : Shape) (header : Header) (types : List PropType) (start : Graph) (records : List Fields) (calls : List Call) → AllByRecursion (HasType types) header.columns → Typed types start → DoCalls shape header start records calls
    → AllSucceed (replies_to_calls shape start calls)
records_go shape header types start [] calls known typed does = subst (λ (cs : List Call). AllSucceed (replies_to_calls shape start cs)) (sym does) tt
records_go shape header types start (fields ∷ records) calls known typed does =
    let own : List Call = does.0 in
    let others : List Call = does.1 in
    let first = record_goes shape header types start fields own known typed does.2 in
    let rest = records_go shape header types (graph_after_calls shape start own) records others known first.1 does.3 in
    subst (λ (cs : List Call). AllSucceed (replies_to_calls shape start cs)) (sym does.4) (all_replies shape start own others first.0 rest)

pub loaded_calls_succeed : LoadedCallsSucceed
loaded_calls_succeed file bytes before txn loads =
    let columns = loads.header.columns in
    let made = new_types_go before.shape before.graph columns (λ g. Unit {0}) (λ g type holds. holds) loads.headed.is.columns.apart before.graph
    (tt, as_at_start before.graph columns loads.headed.is.columns.agree) loads.headed.within in
    let rest = records_go before.shape loads.header _ (graph_after_calls before.shape before.graph (new_types before.graph columns)) loads.records loads.calls made.1.1 refl loads.do_calls in
    subst (λ (t : Txn). AllSucceed (replies_to before.shape before.graph t)) (sym loads.txn_is) (all_replies before.shape before.graph (new_types before.graph columns) loads.calls made.0 rest)
