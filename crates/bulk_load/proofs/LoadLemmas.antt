-- Records one after the other.
use Rattle.std.proofs.Common.{◌≡◌, ℕ, ◌+◌, false, List, [], ◌∷◌, ◌++◌, length, refl, sym, ap, subst, ◌∙◌, append_assoc, length-append, arith, Bor, Some}
use Rattle.std.proofs.lemmas.List.{append-nil}
use Rattle.csv.specs.declared.reader.Reader.{Reader}
use Rattle.gdi_kinds.specs.declared.call.Call.{Call}
use Rattle.rma_layout.specs.Shape.{Shape}
use Rattle.graph_model.specs.Graph.{Graph}
use Rattle.graph_model.specs.Calls.{graph_after_call}
use Rattle.graph_model.specs.Transactions.{graph_after_calls}
use Rattle.map_graph.specs.Plain.{Plain}
use Rattle.bulk_load.specs.declared.header.Header.{Header}
use Rattle.bulk_load.specs.declared.load_fault.LoadFault.{LoadFault}
use Rattle.bulk_load.specs.declared.stop.Stop.{Stop}
use Rattle.bulk_load.specs.declared.stop.Stop.TheVariants as stop
use Rattle.bulk_load.specs.Records.{Fields, HasRecords, BeginsWith}
use Rattle.bulk_load.specs.Rows.{DoCalls, IsRight, IsWrong}
use Rattle.bulk_load.specs.Reading.{HasRead}
use Rattle.csv.specs.Reading.{Reached, source_of, strip_bom, reader_state}
use Rattle.csv.specs.declared.parser.State.TheVariants as state
use Rattle.bulk_load.specs.declared.load_file.LoadFile.{LoadFile}
use Rattle.bulk_load.specs.declared.load_refused.LoadRefused.{LoadRefused}
use Rattle.bulk_load.specs.declared.load_refused.LoadRefused.TheVariants as refused
use Rattle.bulk_load.specs.Loads.{Loads, HasHeader, TellsWrong, new_types, with_types, wrong_record}
use Rattle.bulk_load.specs.Stops.{DoesRecord, OrNoMemory, FirstWrongBehind, LoadsBehind, TellsBehind, refused_at}

pub after_both : (shape : Shape) (g : Graph) (xs ys : List Call) → graph_after_calls shape g (xs ++ ys) ≡ graph_after_calls shape (graph_after_calls shape g xs) ys
after_both shape g [] ys = refl
after_both shape g (x ∷ xs) ys = after_both shape (graph_after_call shape g x) xs ys

do_more : (shape : Shape) (header : Header) (g : Graph) (right : List Fields) (calls : List Call) (fields : Fields) (own : List Call) → DoCalls shape header g right calls
    → IsRight shape (graph_after_calls shape g calls) header fields own → DoCalls shape header g (right ++ fields ∷ []) (calls ++ own)
do_more shape header g [] calls fields own none is =
    (own, [], subst (λ (cs : List Call). IsRight shape (graph_after_calls shape g cs) header fields own) none is, refl, ap (λ (cs : List Call). cs ++ own) none ∙ sym (append-nil own))
do_more shape header g (first ∷ right) calls fields own (mine, others, ok, more, split) is =
    let g2 = graph_after_calls shape g mine in
    let same : graph_after_calls shape g calls ≡ graph_after_calls shape g2 others = ap (graph_after_calls shape g) split ∙ after_both shape g mine others in
    (mine, others ++ own, ok, do_more shape header g2 right others fields own more (subst (λ (h : Graph). IsRight shape h header fields own) same is), ap (λ (cs : List Call). cs ++ own) split ∙ append_assoc mine others own)

-- the records so far are right, and their calls are done
pub record LoadedSoFar (bytes : List ℕ) (first : Fields) (header : Header) (before : Plain) (calls_before : List Call) (reader : Reader (Bor (List ℕ))) (row : ℕ) (calls : List Call) (graph : Plain) : Type 0 where
  pub right : List Fields
  pub own : List Call
  pub read : HasRead bytes (first ∷ right) reader
  pub count : row ≡ length right + 1
  pub does : DoCalls before.shape header before.graph right own
  pub behind : calls ≡ calls_before ++ own
  pub done : graph.graph ≡ graph_after_calls before.shape before.graph own

pub load_starts : (bytes : List ℕ) (first : Fields) (header : Header) (before : Plain) (calls : List Call) (reader : Reader (Bor (List ℕ))) → HasRead bytes (first ∷ []) reader → LoadedSoFar bytes first header before calls reader 1 calls before
load_starts bytes first header before calls reader read = record { right = []; own = []; read = read; count = refl; does = refl; behind = sym (append-nil calls); done = refl }

pub load_goes_on : (bytes : List ℕ) (first : Fields) (header : Header) (before : Plain) (calls_before : List Call) (reader reader_after : Reader (Bor (List ℕ))) (row : ℕ) (calls calls_after : List Call) (graph graph_after : Plain) (fields : Fields)
    → (far : LoadedSoFar bytes first header before calls_before reader row calls graph) → HasRead bytes (first ∷ far.right ++ fields ∷ []) reader_after → graph.shape ≡ before.shape
    → DoesRecord graph header fields calls calls_after graph_after → LoadedSoFar bytes first header before calls_before reader_after (row + 1) calls_after graph_after
load_goes_on bytes first header before calls_before reader reader_after row calls calls_after graph graph_after fields far read shape does =
    let is : IsRight before.shape (graph_after_calls before.shape before.graph far.own) header fields does.own = subst (λ (h : Graph). IsRight before.shape h header fields does.own) far.done (subst (λ (s : Shape). IsRight s graph.graph header fields does.own) shape does.right) in
    let size : length (far.right ++ fields ∷ []) ≡ length far.right + 1 = length-append far.right (fields ∷ []) in
    let count = far.count in
    record {
      right = far.right ++ fields ∷ [];
      own = far.own ++ does.own;
      read = read;
      count = omega (arith, size, count);
      does = do_more before.shape header before.graph far.right far.own fields does.own far.does is;
      behind = does.behind ∙ ap (λ (cs : List Call). cs ++ does.own) far.behind ∙ append_assoc calls_before far.own does.own;
      done = does.done ∙ ap (λ (s : Shape). graph_after_calls s graph.graph does.own) shape ∙ ap (λ (h : Graph). graph_after_calls before.shape h does.own) far.done ∙ sym (after_both before.shape before.graph far.own does.own);
    }

pub load_ends : (bytes : List ℕ) (first : Fields) (header : Header) (before : Plain) (calls_before : List Call) (reader : Reader (Bor (List ℕ))) (row : ℕ) (calls : List Call) (graph : Plain)
    → (far : LoadedSoFar bytes first header before calls_before reader row calls graph) → HasRecords bytes (first ∷ far.right) → LoadsBehind bytes first header before calls_before calls graph
load_ends bytes first header before calls_before reader row calls graph far all = record { records = far.right; own = far.own; cut = all; does = far.does; behind = far.behind; done = far.done }

pub load_fails : (bytes : List ℕ) (first : Fields) (header : Header) (before : Plain) (calls_before : List Call) (reader reader_after : Reader (Bor (List ℕ))) (row : ℕ) (calls : List Call) (graph : Plain) (fields : Fields) (told : LoadFault)
    → (far : LoadedSoFar bytes first header before calls_before reader row calls graph) → HasRead bytes (first ∷ far.right ++ fields ∷ []) reader_after → graph.shape ≡ before.shape
    → IsWrong graph.shape graph.graph header fields told → FirstWrongBehind bytes first header before row told
load_fails bytes first header before calls_before reader reader_after row calls graph fields told far read shape wrong = record {
  right = far.right;
  wrong = fields;
  calls = far.own;
  begins = (_, read.rest, read.reached);
  row_is = far.count;
  does = far.does;
  is_wrong = subst (λ (h : Graph). IsWrong before.shape h header fields told) far.done (subst (λ (s : Shape). IsWrong s graph.graph header fields told) shape wrong);
}

pub load_stops : (bytes : List ℕ) (first : Fields) (header : Header) (before : Plain) (calls_before : List Call) (reader reader_after : Reader (Bor (List ℕ))) (row : ℕ) (calls : List Call) (graph : Plain) (fields : Fields) (s : Stop)
    → (far : LoadedSoFar bytes first header before calls_before reader row calls graph) → HasRead bytes (first ∷ far.right ++ fields ∷ []) reader_after → graph.shape ≡ before.shape
    → OrNoMemory (IsWrong graph.shape graph.graph header fields) s → TellsBehind bytes first header before (refused_at row s)
load_stops bytes first header before calls_before reader reader_after row calls graph fields (stop.Bad told) far read shape wrong = load_fails bytes first header before calls_before reader reader_after row calls graph fields told far read shape wrong
load_stops bytes first header before calls_before reader reader_after row calls graph fields stop.NoMemory far read shape wrong = tt

same_plain : (mid before : Plain) (g : Graph) → mid.shape ≡ before.shape → mid.graph ≡ g → mid ≡ record { shape = before.shape; graph = g }
same_plain mid before g shape graph = ap (λ (s : Shape). (record { shape = s; graph = mid.graph })) shape ∙ ap (λ (h : Graph). (record { shape = before.shape; graph = h })) graph

pub wrong_behind : (of : LoadFile) (bytes : List ℕ) (before mid : Plain) (fields : Fields) (header : Header) (r : LoadRefused) → HasHeader of bytes before fields header → mid.shape ≡ before.shape → mid.graph ≡ with_types before header
    → TellsBehind bytes fields header mid r → TellsWrong of bytes before r
wrong_behind of bytes before mid fields header refused.NoMemory headed shape graph told = tt
wrong_behind of bytes before mid fields header (refused.Bad row kind) headed shape graph told =
    let at : FirstWrongBehind bytes fields header (record { shape = before.shape; graph = with_types before header }) row kind = subst (λ (m : Plain). FirstWrongBehind bytes fields header m row kind) (same_plain mid before (with_types before header) shape graph) told in
    wrong_record fields header headed at.right at.wrong at.begins at.row_is at.calls at.does at.is_wrong

pub loads_behind : (of : LoadFile) (bytes : List ℕ) (before mid after : Plain) (fields : Fields) (header : Header) (calls calls_after : List Call) → HasHeader of bytes before fields header → mid.shape ≡ before.shape → mid.graph ≡ with_types before header
    → calls ≡ new_types before.graph header.columns → LoadsBehind bytes fields header mid calls calls_after after
    → Loads of bytes before (record { whole = false; calls = calls_after; aborts = false }) × (after.graph ≡ graph_after_calls before.shape before.graph calls_after)
loads_behind of bytes before mid after fields header calls calls_after headed shape graph made told =
    let at : LoadsBehind bytes fields header (record { shape = before.shape; graph = with_types before header }) calls calls_after after = subst (λ (m : Plain). LoadsBehind bytes fields header m calls calls_after after) (same_plain mid before (with_types before header) shape graph) told in
    let all : calls_after ≡ new_types before.graph header.columns ++ at.own = at.behind ∙ ap (λ (cs : List Call). cs ++ at.own) made in (
      record {
        fields = fields;
        records = at.records;
        header = header;
        calls = at.own;
        cut = at.cut;
        headed = headed;
        do_calls = at.does;
        txn_is = ap (λ (cs : List Call). (record { whole = false; calls = cs; aborts = false })) all;
      },
      at.done ∙ sym (after_both before.shape before.graph (new_types before.graph header.columns) at.own) ∙ ap (graph_after_calls before.shape before.graph) (sym all),
    )

pub starts_reading : (bytes : List ℕ) (reader : Reader (Bor (List ℕ))) → source_of (λ (text : Bor (List ℕ)). Some text.now) reader ≡ Some (strip_bom bytes) → reader_state reader ≡ state.StartRecord → HasRead bytes [] reader
unfolding Reached
starts_reading bytes reader source at = record { rest = strip_bom bytes; source = source; reached = (sym at, refl) }

pub begins : (bytes : List ℕ) (records : List Fields) (reader : Reader (Bor (List ℕ))) → HasRead bytes records reader → BeginsWith bytes records
begins bytes records reader read = (_, read.rest, read.reached)
