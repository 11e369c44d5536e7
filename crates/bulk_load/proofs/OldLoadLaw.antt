-- Load files of old are the transactions that they were.
use Rattle.std.proofs.Common.{◌≡◌, ◌≢◌, ℕ, zero, suc, Bool, true, false, not, ◌&&◌, cond, List, [], ◌∷◌, ◌++◌, map, Option, Some, None, is_some, refl, sym, ap, subst, ◌∙◌}
use Rattle.std.specs.List.{AllByRecursion, filter}
use Rattle.std.specs.Option.{option_map_or, option_to_list}
use Rattle.std.proofs.lemmas.List.{append-nil}
use Rattle.gdi_kinds.specs.Constraint.{same_kind}
use Rattle.gdi_kinds.specs.Names.{IsName}
use Rattle.gdi_kinds.specs.declared.call.Call.{Call}
use Rattle.gdi_kinds.specs.declared.call.Call.TheVariants.{NewType, Set, ESet}
use Rattle.gdi_kinds.specs.declared.txn.Txn.{Txn}
use Rattle.gdi_kinds.specs.declared.value.Value.{Value}
use Rattle.rma_layout.specs.Shape.{Shape}
use Rattle.text_words.specs.Spelling.{kind_text}
use Rattle.graph_model.specs.Maps.{item_at}
use Rattle.graph_model.specs.Graph.{PropType, Graph, is_vertex}
use Rattle.map_graph.specs.Plain.{Plain}
use Rattle.bulk_load.proofs.ApartLemmas.{both, neither}
use Rattle.graph_model.specs.Lookups.{type_number, kind_at, is_marked}
use Rattle.graph_model.specs.Transactions.{graph_after_calls}
use Rattle.bulk_load.specs.declared.column.Column.{Column}
use Rattle.bulk_load.specs.declared.header.Header.{Header}
use Rattle.bulk_load.specs.declared.lead.Lead.{Lead}
use Rattle.bulk_load.specs.declared.lead.Lead.TheVariants as lead
use Rattle.bulk_load.specs.declared.load_file.LoadFile.{LoadFile}
use Rattle.bulk_load.specs.declared.load_file.LoadFile.TheVariants as file
use Rattle.bulk_load.specs.declared.owner.Owner.TheVariants as owner
use Rattle.bulk_load.specs.declared.subject.Subject.{Subject}
use Rattle.bulk_load.specs.declared.subject.Subject.TheVariants as subject
use Rattle.bulk_load.specs.Records.{Fields, HasRecords}
use Rattle.bulk_load.specs.Headers.{IsHeader, are_apart, agrees, column_text, file_of, lead_fields, same_mark}
use Rattle.bulk_load.specs.Fields.{Says, SpellAll, SpellColumns, parts_of}
use Rattle.bulk_load.specs.Rows.{DoCalls, IsRight, SaysCalls, making, meets_limit, misfits, next_ordinal, puts}
use Rattle.bulk_load.specs.Loads.{HasHeader, new_types, with_types}
use Rattle.bulk_load.specs.OldLoads.{OldColumn, old_lead, old_column_text, old_types, old_sets, IsOldHeader, IsOldField, AreOldFields, IsOldVertex, IsOldEdge, IsOldRecord, AreOldCalls, OldLoads, IsOldGraph, OldLoadsStay, HasNoNewColumns, OldLoadsAreAll}

abbrev column_now : OldColumn → Column
column_now column = record { name = column.name; kind = column.kind; many = false }

abbrev lead_now : LoadFile → Lead
lead_now file.Vertices = lead.Vertices
lead_now file.Edges = lead.Edges

abbrev header_now : LoadFile → List OldColumn → Header
header_now of columns = record { lead = lead_now of; columns = map column_now columns }

-- ---- the header

lead_is : (of : LoadFile) → file_of (lead_now of) ≡ of
lead_is file.Vertices = refl
lead_is file.Edges = refl

front_is : (of : LoadFile) → old_lead of ≡ lead_fields (lead_now of)
front_is file.Vertices = refl
front_is file.Edges = refl

texts_are : (columns : List OldColumn) → map old_column_text columns ≡ map column_text (map column_now columns)
texts_are [] = refl
texts_are (column ∷ columns) =
    let first : old_column_text column ≡ column_text (column_now column) = ap (λ (bytes : List ℕ). column.name ++ 58 ∷ bytes) (sym (append-nil (kind_text column.kind))) in
    let rest : map old_column_text columns ≡ map column_text (map column_now columns) = texts_are columns in
    cc

names_are : (columns : List OldColumn) → AllByRecursion (λ (column : OldColumn). IsName column.name) columns → AllByRecursion (λ (column : Column). IsName column.name) (map column_now columns)
names_are [] all = tt
names_are (column ∷ columns) all = (all.0, names_are columns all.1)

same_names : (columns : List OldColumn) → map (λ (column : OldColumn). column.name) columns ≡ map (λ (column : Column). column.name) (map column_now columns)
same_names [] = refl
same_names (column ∷ columns) = ap (λ (names : Fields). column.name ∷ names) (same_names columns)

unmarked : (types : List PropType) (n : ℕ) → AllByRecursion (λ (type : PropType). type.many ≡ false) types → option_map_or (λ (type : PropType). type.many) (item_at types n) false ≡ false
unmarked [] n all = refl
unmarked (type ∷ types) zero all = all.0
unmarked (type ∷ types) (suc n) all = unmarked types n all.1

agree_now : (g : Graph) (column : OldColumn) → IsOldGraph g → option_map_or (λ type. same_kind (kind_at g type) column.kind) (type_number g column.name) true ≡ true → agrees g (column_now column) ≡ true
agree_now g column old is =
    elim (type_number g column.name) as (λ o. option_map_or (λ type. same_kind (kind_at g type) column.kind) o true ≡ true → option_map_or (λ type. same_kind (kind_at g type) column.kind && same_mark (is_marked g type) false) o true ≡ true) [
      | None ↦ λ _. refl
      | Some n ↦ λ same. ap (λ (b : Bool). b && same_mark (is_marked g n) false) same ∙ ap (λ (b : Bool). same_mark b false) (unmarked g.types n old)
    ] is

agree_all : (g : Graph) (columns : List OldColumn) → IsOldGraph g → AllByRecursion (λ (column : OldColumn). option_map_or (λ type. same_kind (kind_at g type) column.kind) (type_number g column.name) true ≡ true) columns
    → AllByRecursion (λ (column : Column). agrees g column ≡ true) (map column_now columns)
agree_all g [] old all = tt
agree_all g (column ∷ columns) old all = (agree_now g column old all.0, agree_all g columns old all.1)

header_is : (g : Graph) (of : LoadFile) (fields : Fields) (columns : List OldColumn) → IsOldGraph g → IsOldHeader g of fields columns → IsHeader g of fields (header_now of columns)
header_is g of fields columns old is = record {
  few = is.few;
  file_is = lead_is of;
  behind = map old_column_text columns;
  front = is.texts ∙ ap (λ (front : Fields). front ++ map old_column_text columns) (front_is of);
  columns = record {
    texts = texts_are columns;
    names = names_are columns is.names;
    apart = ap are_apart (sym (same_names columns)) ∙ is.apart;
    agree = agree_all g columns old is.kinds;
  };
}

types_are : (g : Graph) (columns : List OldColumn) → old_types g columns ≡ new_types g (map column_now columns)
types_are g [] = refl
types_are g (column ∷ columns) =
    elim (is_some (type_number g column.name)) as (λ b.
    map (λ (c : OldColumn). NewType c.name c.kind false) (cond (not b) (column ∷ filter (λ (c : OldColumn). not (is_some (type_number g c.name))) columns) (filter (λ (c : OldColumn). not (is_some (type_number g c.name))) columns))
    ≡ map (λ (c : Column). NewType c.name c.kind c.many) (cond (not b) (column_now column ∷ filter (λ (c : Column). not (is_some (type_number g c.name))) (map column_now columns)) (filter (λ (c : Column). not (is_some (type_number g c.name))) (map column_now columns)))) [
      | true ↦ types_are g columns
      | false ↦ ap (λ (calls : List Call). NewType column.name column.kind false ∷ calls) (types_are g columns)
    ]

-- ---- the records

abbrev values_now : List (Option Value) → List (List Value)
values_now values = map option_to_list values

field_is : (column : OldColumn) (field : List ℕ) (v : Option Value) → IsOldField column.kind field v → SpellAll column.kind (parts_of (column_now column) field) (option_to_list v)
field_is column [] None is = tt
field_is column (byte ∷ bytes) None is = absurd (cc)
field_is column [] (Some v) is = absurd (is.0 refl)
field_is column (byte ∷ bytes) (Some v) is = (is.1, tt)

fields_are : (columns : List OldColumn) (fields : Fields) (values : List (Option Value)) → AreOldFields columns fields values → SpellColumns (map column_now columns) fields (values_now values)
fields_are [] [] [] are = tt
fields_are (column ∷ columns) (field ∷ fields) (v ∷ values) are = (field_is column field v are.0, fields_are columns fields values are.1)
fields_are columns fields values are = absurd are

vertex_sets : (id : ℕ) (columns : List OldColumn) (values : List (Option Value)) → old_sets (Set id) columns values ≡ puts (owner.Vertex id) (map column_now columns) (values_now values)
vertex_sets id [] values = refl
vertex_sets id (column ∷ columns) [] = refl
vertex_sets id (column ∷ columns) (None ∷ values) = vertex_sets id columns values
vertex_sets id (column ∷ columns) (Some v ∷ values) = ap (λ (calls : List Call). Set id column.name v ∷ calls) (vertex_sets id columns values)

edge_sets : (source ordinal : ℕ) (columns : List OldColumn) (values : List (Option Value)) → old_sets (ESet source ordinal) columns values ≡ puts (owner.Edge source ordinal) (map column_now columns) (values_now values)
edge_sets source ordinal [] values = refl
edge_sets source ordinal (column ∷ columns) [] = refl
edge_sets source ordinal (column ∷ columns) (None ∷ values) = edge_sets source ordinal columns values
edge_sets source ordinal (column ∷ columns) (Some v ∷ values) = ap (λ (calls : List Call). ESet source ordinal column.name v ∷ calls) (edge_sets source ordinal columns values)

record_is : (shape : Shape) (of : LoadFile) (g : Graph) (columns : List OldColumn) (fields : Fields) (calls : List Call) → IsOldRecord of g columns fields calls → meets_limit shape g calls ≡ false → IsRight shape g (header_now of columns) fields calls
record_is shape file.Vertices g columns fields calls old within = record {
  subject = subject.Vertex old.id old.labels;
  said = record {
    behind = old.behind;
    values = values_now old.values;
    front = subst (λ (fs : Fields). Says lead.Vertices fs (subject.Vertex old.id old.labels) old.behind) (sym old.fields_are) (old.is_id, old.are_labels, refl);
    columns = fields_are columns old.behind old.values old.are_values;
    calls_are = old.calls_are ∙ ap (λ (sets : List Call). making g (subject.Vertex old.id old.labels) ++ sets) (vertex_sets old.id columns old.values);
  };
  fits = old.is_new;
  within = within;
}
record_is shape file.Edges g columns fields calls old within = record {
  subject = subject.Edge false old.source old.target old.label;
  said = record {
    behind = old.behind;
    values = values_now old.values;
    front = subst (λ (fs : Fields). Says lead.Edges fs (subject.Edge false old.source old.target old.label) old.behind) (sym old.fields_are) (old.is_source, old.is_target, old.is_label, refl, refl);
    columns = fields_are columns old.behind old.values old.are_values;
    calls_are = old.calls_are ∙ ap (λ (sets : List Call). making g (subject.Edge false old.source old.target old.label) ++ sets) (edge_sets old.source (next_ordinal g old.source) columns old.values);
  };
  fits = rw (old.has_source, old.has_target) refl;
  within = within;
}

calls_are : (shape : Shape) (of : LoadFile) (columns : List OldColumn) (g : Graph) (records : List Fields) (calls : List Call) → AreOldCalls of shape columns g records calls → DoCalls shape (header_now of columns) g records calls
calls_are shape of columns g [] calls are = are
calls_are shape of columns g (fields ∷ records) calls are =
    (are.0, are.1, record_is shape of g columns fields are.0 are.2 are.3, calls_are shape of columns (graph_after_calls shape g are.0) records are.1 are.4, are.5)

pub old_loads_stay : OldLoadsStay
old_loads_stay of bytes before txn old_graph old =
    let same : old_types before.graph old.columns ≡ new_types before.graph (map column_now old.columns) = types_are before.graph old.columns in
    let header = header_now of old.columns in
    record {
      fields = old.fields;
      records = old.records;
      header = header;
      calls = old.calls;
      cut = old.cut;
      headed = record {
        quotes = old.quotes;
        is = header_is before.graph of old.fields old.columns old_graph old.header;
        within = subst (λ (calls : List Call). meets_limit before.shape before.graph calls ≡ false) same old.within;
      };
      do_calls = subst (λ (calls : List Call). DoCalls before.shape header (graph_after_calls before.shape before.graph calls) old.records old.calls) same
          (calls_are before.shape of old.columns _ old.records old.calls old.does);
      txn_is = old.txn_is ∙ ap (λ (calls : List Call). (record { whole = false; calls = calls ++ old.calls; aborts = false })) same;
    }

-- ---- a file of today without the new columns

old_column : Column → OldColumn
old_column column = record { name = column.name; kind = column.kind }

columns_back : (columns : List Column) → AllByRecursion (λ (column : Column). column.many ≡ false) columns → map column_now (map old_column columns) ≡ columns
unfolding old_column
columns_back [] all = refl
columns_back (column ∷ columns) all =
    let first : column_now (old_column column) ≡ column = ap (λ (many : Bool). (record { name = column.name; kind = column.kind; many = many })) (sym all.0) in
    let rest : map column_now (map old_column columns) ≡ columns = columns_back columns all.1 in
    ap (λ (c : Column). c ∷ map column_now (map old_column columns)) first ∙ ap (λ (cs : List Column). column ∷ cs) rest

lead_back : (at : Lead) (of : LoadFile) → file_of at ≡ of → at ≢ lead.MarkedEdges → lead_now of ≡ at
lead_back lead.Vertices of is unmarked = ap lead_now (sym is)
lead_back lead.Edges of is unmarked = ap lead_now (sym is)
lead_back lead.MarkedEdges of is unmarked = absurd (unmarked refl)

-- its header is that of the old columns
header_back : (of : LoadFile) (header : Header) → file_of header.lead ≡ of → HasNoNewColumns header → header_now of (map old_column header.columns) ≡ header
header_back of header is old =
    ap (λ (at : Lead). (record { lead = at; columns = map column_now (map old_column header.columns) })) (lead_back header.lead of is old.0)
    ∙ ap (λ (columns : List Column). (record { lead = header.lead; columns = columns })) (columns_back header.columns old.1)

names_back : (columns : List OldColumn) → AllByRecursion (λ (column : Column). IsName column.name) (map column_now columns) → AllByRecursion (λ (column : OldColumn). IsName column.name) columns
names_back [] all = tt
names_back (column ∷ columns) all = (all.0, names_back columns all.1)

agree_then : (g : Graph) (column : OldColumn) → agrees g (column_now column) ≡ true → option_map_or (λ type. same_kind (kind_at g type) column.kind) (type_number g column.name) true ≡ true
agree_then g column is =
    elim (type_number g column.name) as (λ o. option_map_or (λ type. same_kind (kind_at g type) column.kind && same_mark (is_marked g type) false) o true ≡ true → option_map_or (λ type. same_kind (kind_at g type) column.kind) o true ≡ true) [
      | None ↦ λ _. refl
      | Some n ↦ λ same. (both (same_kind (kind_at g n) column.kind) (same_mark (is_marked g n) false) same).0
    ] is

agree_all_then : (g : Graph) (columns : List OldColumn) → AllByRecursion (λ (column : Column). agrees g column ≡ true) (map column_now columns)
    → AllByRecursion (λ (column : OldColumn). option_map_or (λ type. same_kind (kind_at g type) column.kind) (type_number g column.name) true ≡ true) columns
agree_all_then g [] all = tt
agree_all_then g (column ∷ columns) all = (agree_then g column all.0, agree_all_then g columns all.1)

header_then : (g : Graph) (of : LoadFile) (fields : Fields) (columns : List OldColumn) → IsHeader g of fields (header_now of columns) → IsOldHeader g of fields columns
header_then g of fields columns is = record {
  few = is.few;
  texts = is.front ∙ ap (λ (front : Fields). front ++ is.behind) (sym (front_is of)) ∙ ap (λ (fs : Fields). old_lead of ++ fs) (is.columns.texts ∙ sym (texts_are columns));
  names = names_back columns is.columns.names;
  apart = ap are_apart (same_names columns) ∙ is.columns.apart;
  kinds = agree_all_then g columns is.columns.agree;
}

-- the value of a field, if it isn't empty
field_then : (column : OldColumn) (field : List ℕ) (values : List Value) → SpellAll column.kind (parts_of (column_now column) field) values → (v : Option Value) × (values ≡ option_to_list v) × IsOldField column.kind field v
field_then column [] [] spelled = (None, refl, refl)
field_then column [] (v ∷ values) spelled = absurd spelled
field_then column (byte ∷ bytes) [] spelled = absurd spelled
field_then column (byte ∷ bytes) (v ∷ []) spelled = (Some v, refl, (λ empty. absurd (cc), spelled.0))
field_then column (byte ∷ bytes) (v ∷ w ∷ values) spelled = absurd spelled.1

fields_then : (columns : List OldColumn) (fields : Fields) (values : List (List Value)) → SpellColumns (map column_now columns) fields values → (old : List (Option Value)) × (values ≡ values_now old) × AreOldFields columns fields old
fields_then [] [] [] spelled = ([], refl, tt)
fields_then (column ∷ columns) (field ∷ fields) (values ∷ rest) spelled =
    let first = field_then column field values spelled.0 in
    let more = fields_then columns fields rest spelled.1 in
    (first.0 ∷ more.0, ap (λ (vs : List Value). vs ∷ rest) first.1 ∙ ap (λ (vss : List (List Value)). option_to_list first.0 ∷ vss) more.1, (first.2, more.2))
fields_then columns fields values spelled = absurd spelled

vertex_then : (g : Graph) (columns : List OldColumn) (fields : Fields) (calls : List Call) (says : Subject) → SaysCalls g (header_now file.Vertices columns) fields says calls → misfits g says ≡ false → IsOldVertex g columns fields calls
vertex_then g columns (a ∷ b ∷ fields) calls (subject.Vertex id labels) said fits =
    let values = fields_then columns said.behind said.values said.columns in
    record {
      id_field = a;
      label_field = b;
      behind = said.behind;
      id = id;
      labels = labels;
      values = values.0;
      fields_are = ap (λ (fs : Fields). a ∷ b ∷ fs) (sym said.front.2);
      is_id = said.front.0;
      are_labels = said.front.1;
      are_values = values.2;
      is_new = fits;
      calls_are = said.calls_are ∙ ap (λ (vs : List (List Value)). making g (subject.Vertex id labels) ++ puts (owner.Vertex id) (map column_now columns) vs) values.1
          ∙ ap (λ (sets : List Call). making g (subject.Vertex id labels) ++ sets) (sym (vertex_sets id columns values.0));
    }
vertex_then g columns [] calls says said fits = absurd said.front
vertex_then g columns (a ∷ []) calls says said fits = absurd said.front
vertex_then g columns (a ∷ b ∷ fields) calls (subject.Edge undirected source target label) said fits = absurd said.front

edge_then : (g : Graph) (columns : List OldColumn) (fields : Fields) (calls : List Call) (says : Subject) → SaysCalls g (header_now file.Edges columns) fields says calls → misfits g says ≡ false → IsOldEdge g columns fields calls
edge_then g columns (a ∷ b ∷ c ∷ fields) calls (subject.Edge undirected source target label) said fits =
    let values = fields_then columns said.behind said.values said.columns in
    let ends = neither (not (is_vertex g source)) (not (is_vertex g target)) fits in
    record {
      source_field = a;
      target_field = b;
      label_field = c;
      behind = said.behind;
      source = source;
      target = target;
      label = label;
      values = values.0;
      fields_are = ap (λ (fs : Fields). a ∷ b ∷ c ∷ fs) (sym said.front.4);
      is_source = said.front.0;
      is_target = said.front.1;
      is_label = said.front.2;
      are_values = values.2;
      has_source = is_so (is_vertex g source) ends.0;
      has_target = is_so (is_vertex g target) ends.1;
      calls_are = said.calls_are
          ∙ ap (λ (undir : Bool). making g (subject.Edge undir source target label) ++ puts (owner.Edge source (next_ordinal g source)) (map column_now columns) said.values) said.front.3
          ∙ ap (λ (vs : List (List Value)). making g (subject.Edge false source target label) ++ puts (owner.Edge source (next_ordinal g source)) (map column_now columns) vs) values.1
          ∙ ap (λ (sets : List Call). making g (subject.Edge false source target label) ++ sets) (sym (edge_sets source (next_ordinal g source) columns values.0));
    }
  where
    is_so : (b : Bool) → not b ≡ false → b ≡ true
    is_so true is = refl
    is_so false is = sym is
edge_then g columns [] calls says said fits = absurd said.front
edge_then g columns (a ∷ []) calls says said fits = absurd said.front
edge_then g columns (a ∷ b ∷ []) calls says said fits = absurd said.front
edge_then g columns (a ∷ b ∷ c ∷ fields) calls (subject.Vertex id labels) said fits = absurd said.front

record_then : (shape : Shape) (of : LoadFile) (g : Graph) (columns : List OldColumn) (fields : Fields) (calls : List Call) → IsRight shape g (header_now of columns) fields calls → IsOldRecord of g columns fields calls
record_then shape file.Vertices g columns fields calls right = vertex_then g columns fields calls right.subject right.said right.fits
record_then shape file.Edges g columns fields calls right = edge_then g columns fields calls right.subject right.said right.fits

calls_then : (shape : Shape) (of : LoadFile) (columns : List OldColumn) (g : Graph) (records : List Fields) (calls : List Call) → DoCalls shape (header_now of columns) g records calls → AreOldCalls of shape columns g records calls
calls_then shape of columns g [] calls are = are
calls_then shape of columns g (fields ∷ records) calls are =
    (are.0, are.1, record_then shape of g columns fields are.0 are.2, are.2.within, calls_then shape of columns (graph_after_calls shape g are.0) records are.1 are.3, are.4)

-- a file whose header is of old columns
file_then : (of : LoadFile) (bytes : List ℕ) (before : Plain) (txn : Txn) (fields : Fields) (records : List Fields) (columns : List OldColumn) (calls : List Call) → HasRecords bytes (fields ∷ records)
    → HasHeader of bytes before fields (header_now of columns) → DoCalls before.shape (header_now of columns) (with_types before (header_now of columns)) records calls
    → txn ≡ record { whole = false; calls = new_types before.graph (map column_now columns) ++ calls; aborts = false } → OldLoads of bytes before txn
file_then of bytes before txn fields records columns calls cut headed does txn_is =
    let same : new_types before.graph (map column_now columns) ≡ old_types before.graph columns = sym (types_are before.graph columns) in
    record {
      fields = fields;
      records = records;
      columns = columns;
      calls = calls;
      quotes = headed.quotes;
      cut = cut;
      header = header_then before.graph of fields columns headed.is;
      within = subst (λ (made : List Call). meets_limit before.shape before.graph made ≡ false) same headed.within;
      does = subst (λ (made : List Call). AreOldCalls of before.shape columns (graph_after_calls before.shape before.graph made) records calls) same
          (calls_then before.shape of columns _ records calls does);
      txn_is = txn_is ∙ ap (λ (made : List Call). (record { whole = false; calls = made ++ calls; aborts = false })) same;
    }

pub old_loads_are_all : OldLoadsAreAll
old_loads_are_all of bytes before txn loads old =
    let columns = map old_column loads.header.columns in
    let same : loads.header ≡ header_now of columns = sym (header_back of loads.header loads.headed.is.file_is old) in
    file_then of bytes before txn loads.fields loads.records columns loads.calls loads.cut
    (subst (λ (h : Header). HasHeader of bytes before loads.fields h) same loads.headed)
    (subst (λ (h : Header). DoCalls before.shape h (with_types before h) loads.records loads.calls) same loads.do_calls)
    (loads.txn_is ∙ ap (λ (h : Header). (record { whole = false; calls = new_types before.graph h.columns ++ loads.calls; aborts = false })) same)
