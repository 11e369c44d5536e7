-- How a header is read.
use Rattle.std.proofs.Common.{◌≡◌, ◌≢◌, ℕ, suc, ◌+◌, ◌-◌, ◌<◌, ◌≤◌, Bool, true, false, ◌&&◌, ◌||◌, eqb, if◌then◌else◌, List, [], ◌∷◌, ◌++◌, length, map, take, drop, get_or, Option, Some, None, refl, sym, ap, subst, ◌∙◌, append_assoc, add-one, drop-cons, length-append, ◌==◌, Bor, arith, inl, inr}
use Rattle.std.specs.Prelude.{codes, nat_le}
use Rattle.std.specs.List.{position, position_or_len, list_all, list_any, AllByRecursion}
use Rattle.std.specs.Str.{bytes_eq}
use Rattle.std.proofs.lemmas.Bool.{cases_Bool, eqb-true, lt-ltb, cond-true}
use Rattle.std.proofs.lemmas.List.{append-nil, map_push, map-append, take_at, take_rest, take-append-drop}
use Rattle.std.proofs.lemmas.List.Quantifiers.{position-Some}
use Rattle.std.proofs.Math.Seq.{drop-append_seam, drop-append-add}
use Rattle.gdi_kinds.specs.Names.{IsName, continues_name, begins_name}
use Rattle.gdi_kinds.specs.declared.value.Kind.{Kind}
use Rattle.gdi_kinds.specs.declared.value.Kind.TheVariants as kind
use Rattle.text_words.specs.Spelling.{kind_text}
use Rattle.graph_model.specs.Graph.{Graph}
use Rattle.graph_model.proofs.Entries.{All-push}
use Rattle.bulk_load.specs.declared.load_file.LoadFile.{LoadFile}
use Rattle.bulk_load.specs.declared.load_file.LoadFile.TheVariants as file
use Rattle.bulk_load.specs.declared.lead.Lead.{Lead}
use Rattle.bulk_load.specs.declared.lead.Lead.TheVariants as lead
use Rattle.bulk_load.specs.declared.column.Column.{Column}
use Rattle.bulk_load.specs.declared.header.Header.{Header}
use Rattle.bulk_load.specs.Records.{Fields}
use Rattle.bulk_load.specs.Headers.{AreColumns, IsHeader, agrees, are_apart, column_text, file_of, lead_fields}
use Rattle.bulk_load.proofs.ApartLemmas.{apart_more, apart_before}
use Rattle.text_words.specs.Forms.{texts}
use Rattle.bulk_load.specs.Cuts.{LeadsWith, LeadOrNone}

-- ---- the columns in front

abbrev Names : List Column → Type 0
Names columns = AllByRecursion (λ (column : Column). IsName column.name) columns

-- no name begins with `:`
no_colon_first : (name rest behind : List ℕ) → IsName name → name ++ rest ≢ 58 ∷ behind
no_colon_first [] rest behind is same = let e : false ≡ true = is in absurd (cc)
no_colon_first (b ∷ bs) rest behind is same =
    let first : b ≡ 58 = cc same in
    let e : false ≡ true = subst (λ (x : ℕ). IsName (x ∷ bs)) first is in
    absurd (cc)

no_column : (columns : List Column) (behind : List ℕ) (rest : Fields) → Names columns → map column_text columns ≢ (58 ∷ behind) ∷ rest
no_column [] behind rest names same = cc same
no_column (column ∷ columns) behind rest names same =
    let first : column_text column ≡ 58 ∷ behind = cc same in
    no_colon_first column.name _ behind names.0 first

pub vertices_lead : (fields behind : Fields) → fields ≡ lead_fields lead.Vertices ++ behind → LeadsWith file.Vertices fields lead.Vertices
vertices_lead fields behind front = record { file_is = refl; behind = behind; front = front; alone = alone }
  where
    alone : (other : Lead) (columns : List Column) → file_of other ≡ file.Vertices → Names columns → fields ≡ lead_fields other ++ map column_text columns → other ≡ lead.Vertices
    alone lead.Vertices columns is names same = refl
    alone lead.Edges columns is names same = let e : file.Edges ≡ file.Vertices = is in absurd (cc)
    alone lead.MarkedEdges columns is names same = let e : file.Edges ≡ file.Vertices = is in absurd (cc)

pub marked_lead : (fields behind : Fields) → fields ≡ lead_fields lead.MarkedEdges ++ behind → LeadsWith file.Edges fields lead.MarkedEdges
marked_lead fields behind front = record { file_is = refl; behind = behind; front = front; alone = alone }
  where
    alone : (other : Lead) (columns : List Column) → file_of other ≡ file.Edges → Names columns → fields ≡ lead_fields other ++ map column_text columns → other ≡ lead.MarkedEdges
    alone lead.Vertices columns is names same = let e : file.Vertices ≡ file.Edges = is in absurd (cc)
    alone lead.MarkedEdges columns is names same = refl
    alone lead.Edges columns is names same =
        let both : lead_fields lead.Edges ++ map column_text columns ≡ lead_fields lead.MarkedEdges ++ behind = sym same ∙ front in
        let rest : map column_text columns ≡ codes ":UNDIRECTED" ∷ behind = ap (drop 3) both in
        absurd (no_column columns _ behind names rest)

pub edges_lead : (fields behind : Fields) → fields ≡ lead_fields lead.Edges ++ behind → ((others : Fields) → fields ≢ lead_fields lead.MarkedEdges ++ others) → LeadsWith file.Edges fields lead.Edges
edges_lead fields behind front unmarked = record { file_is = refl; behind = behind; front = front; alone = alone }
  where
    alone : (other : Lead) (columns : List Column) → file_of other ≡ file.Edges → Names columns → fields ≡ lead_fields other ++ map column_text columns → other ≡ lead.Edges
    alone lead.Vertices columns is names same = let e : file.Vertices ≡ file.Edges = is in absurd (cc)
    alone lead.Edges columns is names same = refl
    alone lead.MarkedEdges columns is names same = absurd (unmarked (map column_text columns) same)

pub no_vertices_lead : (fields : Fields) → ((behind : Fields) → fields ≢ lead_fields lead.Vertices ++ behind) → LeadOrNone file.Vertices fields None
no_vertices_lead fields none lead.Vertices behind is = none behind
no_vertices_lead fields none lead.Edges behind is = let e : file.Edges ≡ file.Vertices = is in absurd (cc)
no_vertices_lead fields none lead.MarkedEdges behind is = let e : file.Edges ≡ file.Vertices = is in absurd (cc)

pub no_edges_lead : (fields : Fields) → ((behind : Fields) → fields ≢ lead_fields lead.MarkedEdges ++ behind) → ((behind : Fields) → fields ≢ lead_fields lead.Edges ++ behind) → LeadOrNone file.Edges fields None
no_edges_lead fields unmarked none lead.Vertices behind is = let e : file.Vertices ≡ file.Edges = is in absurd (cc)
no_edges_lead fields unmarked none lead.Edges behind is = none behind
no_edges_lead fields unmarked none lead.MarkedEdges behind is = unmarked behind

-- ---- a column

abbrev is_colon : ℕ → Bool
is_colon byte = eqb byte 58

both : (a b : Bool) → (a && b) ≡ true → (a ≡ true) × (b ≡ true)
both true b e = (refl, e)
both false b e = let e : false ≡ true = e in absurd (cc)

no_colon : (b : ℕ) → continues_name b ≡ true → eqb b 58 ≡ false
no_colon b is =
    elim (cases_Bool (eqb b 58)) [
      | inl colon ↦ let e : false ≡ true = subst (λ (x : ℕ). continues_name x ≡ true) (eqb-true b 58 colon) is in absurd (cc)
      | inr other ↦ other
    ]

begins_continues : (b : ℕ) → begins_name b ≡ true → continues_name b ≡ true
begins_continues b is = rw is refl

after_bytes : (name rest : List ℕ) → list_all continues_name name ≡ true → position_or_len is_colon (name ++ 58 ∷ rest) ≡ length name
after_bytes [] rest all = refl
after_bytes (b ∷ bs) rest all =
    let split = both (continues_name b) (list_all continues_name bs) all in
    let other : eqb b 58 ≡ false = no_colon b split.0 in
    let behind = after_bytes bs rest split.1 in
    rw (other, behind) (omega arith)

name_continues : (name : List ℕ) → IsName name → list_all continues_name name ≡ true
name_continues [] is = let e : false ≡ true = is in absurd (cc)
name_continues (b ∷ bs) is =
    let split = both (begins_name b && list_all continues_name bs) (nat_le (length bs) 62) is in
    let more = both (begins_name b) (list_all continues_name bs) split.0 in
    rw (begins_continues b more.0, more.1) refl

-- a name ends at the first colon behind it
pub name_ends : (field name rest : List ℕ) → IsName name → field ≡ name ++ 58 ∷ rest → position is_colon field ≡ Some (length name)
name_ends field name rest is spelled =
    let at : position_or_len is_colon field ≡ length name = ap (position_or_len is_colon) spelled ∙ after_bytes name rest (name_continues name is) in
    let size : length field ≡ length name + length (58 ∷ rest) = ap length spelled ∙ length-append name (58 ∷ rest) in
    let lt : position_or_len is_colon field < length field = rw at (omega (arith, size)) in
    cond-true _ _ _ (lt-ltb _ _ lt) ∙ ap Some at

some_same : (m n : ℕ) → ◌≡◌ {A = Option ℕ} (Some m) (Some n) → m ≡ n
some_same m n e = cc

-- how the kind and the mark of a column are spelled
abbrev pub tail_text : Kind → Bool → List ℕ
tail_text k many = kind_text k ++ (if many then codes "[]" else [])

pub cut_at : (field name rest : List ℕ) (end : ℕ) → IsName name → field ≡ name ++ 58 ∷ rest → position is_colon field ≡ Some end
    → (take end field ≡ name) × (take (length field - (end + 1)) (drop (end + 1) field) ≡ rest)
cut_at field name rest end is spelled at =
    let ends : length name ≡ end = some_same (length name) end (sym (name_ends field name rest is spelled) ∙ at) in
    let front : take end (name ++ 58 ∷ rest) ≡ name = take_at name (58 ∷ rest) end ends in
    let back : drop (end + 1) (name ++ 58 ∷ rest) ≡ rest = rw (sym ends) (drop-append-add name (58 ∷ rest) 1) in
    (rw spelled front, take_rest field (end + 1) ∙ rw spelled back)

-- the front, the colon and what stands behind it
pub joined_at : (field : List ℕ) (end : ℕ) → position is_colon field ≡ Some end → field ≡ take end field ++ 58 ∷ take (length field - (end + 1)) (drop (end + 1) field)
joined_at field end at =
    let told = position-Some is_colon field end 0 at in
    sym (take-append-drop end field) ∙ ap (λ (xs : List ℕ). take end field ++ xs)
    (drop-cons field end 0 told.0 ∙ ap (λ (b : ℕ). b ∷ drop (suc end) field) (eqb-true _ _ told.1) ∙ ap (λ (xs : List ℕ). 58 ∷ xs) (ap (λ (n : ℕ). drop n field) (sym (add-one end)) ∙ sym (take_rest field (end + 1))))

-- ---- no two columns are headed alike

abbrev kind_in : List ℕ → Kind
kind_in [] = kind.Int
kind_in (byte ∷ bytes) = if byte == 105 then kind.Int else if byte == 98 then kind.Bool else kind.Text

abbrev mark_in : List ℕ → Bool
mark_in bytes = nat_le 5 (length bytes)

kind_said : (k : Kind) (many : Bool) → kind_in (tail_text k many) ≡ k
kind_said kind.Int true = refl
kind_said kind.Int false = refl
kind_said kind.Bool true = refl
kind_said kind.Bool false = refl
kind_said kind.Text true = refl
kind_said kind.Text false = refl

mark_said : (k : Kind) (many : Bool) → mark_in (tail_text k many) ≡ many
mark_said kind.Int true = refl
mark_said kind.Int false = refl
mark_said kind.Bool true = refl
mark_said kind.Bool false = refl
mark_said kind.Text true = refl
mark_said kind.Text false = refl

pub column_same : (a b : Column) → IsName a.name → IsName b.name → column_text a ≡ column_text b → a ≡ b
column_same a b is also same =
    let end = name_ends (column_text b) a.name (tail_text a.kind a.many) is (sym same) in
    let first = cut_at (column_text b) a.name (tail_text a.kind a.many) (length a.name) is (sym same) end in
    let second = cut_at (column_text b) b.name (tail_text b.kind b.many) (length a.name) also refl end in
    let names : a.name ≡ b.name = sym first.0 ∙ second.0 in
    let tails : tail_text a.kind a.many ≡ tail_text b.kind b.many = sym first.1 ∙ second.1 in
    let kinds : a.kind ≡ b.kind = sym (kind_said a.kind a.many) ∙ ap kind_in tails ∙ kind_said b.kind b.many in
    let marks : a.many ≡ b.many = sym (mark_said a.kind a.many) ∙ ap mark_in tails ∙ mark_said b.kind b.many in
    join a b names kinds marks
  where
    join : (a b : Column) → a.name ≡ b.name → a.kind ≡ b.kind → a.many ≡ b.many → a ≡ b
    join a b n k m = ap (λ (name : List ℕ). (record { name = name; kind = a.kind; many = a.many })) n ∙ ap (λ (kind : Kind). (record { name = b.name; kind = kind; many = a.many })) k ∙ ap (λ (many : Bool). (record { name = b.name; kind = b.kind; many = many })) m

-- ---- columns that are read one after the other

abbrev names_of : List Column → Fields
names_of columns = map (λ (column : Column). column.name) columns

pub record ColumnsSoFar (g : Graph) (fields : Fields) (read : List Column) (left : Fields) : Type 0 where
  pub texts : fields ≡ map column_text read ++ left
  pub names : AllByRecursion (λ (column : Column). IsName column.name) read
  pub apart : are_apart (names_of read) ≡ true
  pub agree : AllByRecursion (λ (column : Column). agrees g column ≡ true) read

pub columns_start : (g : Graph) (fields : Fields) → ColumnsSoFar g fields [] fields
columns_start g fields = record { texts = refl; names = tt; apart = refl; agree = tt }

pub columns_end : (g : Graph) (fields : Fields) (read : List Column) → ColumnsSoFar g fields read [] → AreColumns g fields read
columns_end g fields read far = record { texts = far.texts ∙ append-nil (map column_text read); names = far.names; apart = far.apart; agree = far.agree }

headed_names : (name : List ℕ) (read : List Column) → list_any (λ (column : Column). bytes_eq name column.name) read ≡ list_any (bytes_eq name) (names_of read)
headed_names name [] = refl
headed_names name (column ∷ read) = ap (λ (b : Bool). bytes_eq name column.name || b) (headed_names name read)

at_next : (g : Graph) (fields : Fields) (read : List Column) (all : Fields) (field : List ℕ) (left : Fields) → all ≡ field ∷ left → ColumnsSoFar g fields read all → ColumnsSoFar g fields read (field ∷ left)
at_next g fields read all field left is far = subst (ColumnsSoFar g fields read) is far

pub columns_go_on : (g : Graph) (fields : Fields) (read : List Column) (all : Fields) (field : List ℕ) (left : Fields) (column : Column) → all ≡ field ∷ left → ColumnsSoFar g fields read all → IsName column.name → field ≡ column_text column
    → list_any (λ (other : Column). bytes_eq column.name other.name) read ≡ false → agrees g column ≡ true → ColumnsSoFar g fields (read ++ column ∷ []) left
columns_go_on g fields read all field left column next so_far is spelled fresh fits =
    let far = at_next g fields read all field left next so_far in
    record {
      texts = far.texts ∙ ap (λ (f : List ℕ). map column_text read ++ f ∷ left) spelled ∙ sym (append_assoc (map column_text read) (column_text column ∷ []) left) ∙ ap (λ (fs : Fields). fs ++ left) (sym (map_push column_text read column));
      names = All-push (λ (other : Column). IsName other.name) read column far.names is;
      apart = ap are_apart (map_push (λ (other : Column). other.name) read column) ∙ apart_more (names_of read) column.name far.apart (sym (headed_names column.name read) ∙ fresh);
      agree = All-push (λ (other : Column). agrees g other ≡ true) read column far.agree fits;
    }

-- other columns that are headed by the same fields begin with those read, and the next of them is headed by the next field
pub record GoesOn (g : Graph) (read : List Column) (field : List ℕ) (columns : List Column) : Type 0 where
  pub next : Column
  pub rest : List Column
  pub split : columns ≡ read ++ next ∷ rest
  pub name : IsName next.name
  pub spelled : field ≡ column_text next
  pub fits : agrees g next ≡ true

same_front : (g : Graph) (read columns : List Column) (field : List ℕ) (left : Fields) → AllByRecursion (λ (column : Column). IsName column.name) read
    → AllByRecursion (λ (column : Column). IsName column.name) columns → AllByRecursion (λ (column : Column). agrees g column ≡ true) columns
    → map column_text columns ≡ map column_text read ++ field ∷ left → GoesOn g read field columns
same_front g [] [] field left reads names agree same = absurd (cc)
same_front g [] (column ∷ columns) field left reads names agree same =
    record { next = column; rest = columns; split = refl; name = names.0; spelled = sym (cc same); fits = agree.0 }
same_front g (first ∷ read) [] field left reads names agree same = absurd (cc)
same_front g (first ∷ read) (column ∷ columns) field left reads names agree same =
    let heads : column_text column ≡ column_text first = cc same in
    let is : column ≡ first = column_same column first names.0 reads.0 heads in
    let more = same_front g read columns field left reads.1 names.1 agree.1 (cc same) in
    record { next = more.next; rest = more.rest; split = ap (λ (c : Column). c ∷ columns) is ∙ ap (λ (cs : List Column). first ∷ cs) more.split; name = more.name; spelled = more.spelled; fits = more.fits }

pub goes_on : (g : Graph) (fields : Fields) (read : List Column) (field : List ℕ) (left : Fields) (columns : List Column) → ColumnsSoFar g fields read (field ∷ left) → AreColumns g fields columns → GoesOn g read field columns
goes_on g fields read field left columns far are = same_front g read columns field left far.names are.names are.agree (sym are.texts ∙ far.texts)

pub no_such_column : (g : Graph) (fields : Fields) (read : List Column) (all : Fields) (field : List ℕ) (left : Fields) → all ≡ field ∷ left → ColumnsSoFar g fields read all → ((column : Column) → IsName column.name → field ≢ column_text column)
    → (columns : List Column) → ¬ AreColumns g fields columns
no_such_column g fields read all field left next so_far none columns are =
    let far = at_next g fields read all field left next so_far in
    let on = goes_on g fields read field left columns far are in none on.next on.name on.spelled

pub column_twice : (g : Graph) (fields : Fields) (read : List Column) (all : Fields) (field : List ℕ) (left : Fields) (column : Column) → all ≡ field ∷ left → ColumnsSoFar g fields read all → IsName column.name → field ≡ column_text column
    → list_any (λ (other : Column). bytes_eq column.name other.name) read ≡ true → (columns : List Column) → ¬ AreColumns g fields columns
column_twice g fields read all field left column next so_far is spelled twice columns are =
    let far = at_next g fields read all field left next so_far in
    let on = goes_on g fields read field left columns far are in
    let same : on.next ≡ column = column_same on.next column on.name is (sym on.spelled ∙ spelled) in
    let names : names_of columns ≡ names_of read ++ column.name ∷ names_of on.rest = ap names_of on.split ∙ map-append (λ (c : Column). c.name) read (on.next ∷ on.rest) ∙ ap (λ (c : Column). names_of read ++ c.name ∷ names_of on.rest) same in
    let fresh : list_any (bytes_eq column.name) (names_of read) ≡ false = apart_before (names_of read) (names_of on.rest) column.name (subst (λ (ns : Fields). are_apart ns ≡ true) names are.apart) in
    let also : list_any (bytes_eq column.name) (names_of read) ≡ true = sym (headed_names column.name read) ∙ twice in
    absurd (cc)

pub column_disagrees : (g : Graph) (fields : Fields) (read : List Column) (all : Fields) (field : List ℕ) (left : Fields) (column : Column) → all ≡ field ∷ left → ColumnsSoFar g fields read all → IsName column.name → field ≡ column_text column
    → agrees g column ≡ false → (columns : List Column) → ¬ AreColumns g fields columns
column_disagrees g fields read all field left column next so_far is spelled differs columns are =
    let far = at_next g fields read all field left next so_far in
    let on = goes_on g fields read field left columns far are in
    let same : on.next ≡ column = column_same on.next column on.name is (sym on.spelled ∙ spelled) in
    let fits : agrees g column ≡ true = subst (λ (c : Column). agrees g c ≡ true) same on.fits in
    absurd (cc)

-- ---- the header

pub no_front_no_header : (g : Graph) (of : LoadFile) (fields : Fields) → LeadOrNone of fields None → (header : Header) → ¬ IsHeader g of fields header
no_front_no_header g of fields none header is = none header.lead is.behind is.file_is is.front

front_behind : (at : Lead) (behind : Fields) → drop (length (lead_fields at)) (lead_fields at ++ behind) ≡ behind
front_behind at behind = drop-append_seam (lead_fields at) behind

pub no_columns_no_header : (g : Graph) (of : LoadFile) (fields : Fields) (at : Lead) → LeadsWith of fields at → ((columns : List Column) → ¬ AreColumns g (drop (length (lead_fields at)) fields) columns) → (header : Header) → ¬ IsHeader g of fields header
no_columns_no_header g of fields at leads none header is =
    let same : header.lead ≡ at = leads.alone header.lead header.columns is.file_is is.columns.names (is.front ∙ ap (λ (fs : Fields). lead_fields header.lead ++ fs) is.columns.texts) in
    let behind : drop (length (lead_fields at)) fields ≡ is.behind = ap (λ (l : Lead). drop (length (lead_fields l)) fields) (sym same) ∙ ap (drop (length (lead_fields header.lead))) is.front ∙ front_behind header.lead is.behind in
    none header.columns (subst (λ (fs : Fields). AreColumns g fs header.columns) (sym behind) is.columns)

pub header_is : (g : Graph) (of : LoadFile) (fields : Fields) (at : Lead) (columns : List Column) → length fields ≤ 256 → LeadsWith of fields at → AreColumns g (drop (length (lead_fields at)) fields) columns
    → IsHeader g of fields (record { lead = at; columns = columns })
header_is g of fields at columns few leads are =
    let behind : drop (length (lead_fields at)) fields ≡ leads.behind = ap (drop (length (lead_fields at))) leads.front ∙ front_behind at leads.behind in
    record { few = few; file_is = leads.file_is; behind = leads.behind; front = leads.front; columns = subst (λ (fs : Fields). AreColumns g fs columns) behind are }

pub two_texts : (fields : List (Bor (List ℕ))) (d : Bor (List ℕ)) → 2 ≤ length fields → texts fields ≡ (get_or fields 0 d).now ∷ (get_or fields 1 d).now ∷ drop 2 (texts fields)
two_texts [] d some = absurd (omega (arith, some))
two_texts (a ∷ []) d some = absurd (omega (arith, some))
two_texts (a ∷ b ∷ fields) d some = refl

pub three_texts : (fields : List (Bor (List ℕ))) (d : Bor (List ℕ)) → 3 ≤ length fields → texts fields ≡ (get_or fields 0 d).now ∷ (get_or fields 1 d).now ∷ (get_or fields 2 d).now ∷ drop 3 (texts fields)
three_texts [] d some = absurd (omega (arith, some))
three_texts (a ∷ []) d some = absurd (omega (arith, some))
three_texts (a ∷ b ∷ []) d some = absurd (omega (arith, some))
three_texts (a ∷ b ∷ c ∷ fields) d some = refl

-- a fourth column in front behind three
pub marked_front : (fields : List (Bor (List ℕ))) (d : Bor (List ℕ)) (behind : Fields) → 4 ≤ length fields → texts fields ≡ lead_fields lead.Edges ++ behind → (get_or fields 3 d).now ≡ codes ":UNDIRECTED"
    → texts fields ≡ lead_fields lead.MarkedEdges ++ drop 4 (texts fields)
marked_front [] d behind some front mark = absurd (omega (arith, some))
marked_front (x ∷ []) d behind some front mark = absurd (omega (arith, some))
marked_front (x ∷ y ∷ []) d behind some front mark = absurd (omega (arith, some))
marked_front (x ∷ y ∷ z ∷ []) d behind some front mark = absurd (omega (arith, some))
marked_front (x ∷ y ∷ z ∷ w ∷ fields) d behind some front mark =
    let first : x.now ≡ codes ":START_ID" = cc front in
    let second : y.now ≡ codes ":END_ID" = cc front in
    let third : z.now ≡ codes ":TYPE" = cc front in
    rw (first, second, third, mark) refl

pub column_joined : (field : List ℕ) (end : ℕ) (column : Column) → position is_colon field ≡ Some end → column.name ≡ take end field
    → take (length field - (end + 1)) (drop (end + 1) field) ≡ tail_text column.kind column.many → field ≡ column_text column
column_joined field end column at name tail =
    joined_at field end at ∙ ap (λ (xs : List ℕ). xs ++ 58 ∷ take (length field - (end + 1)) (drop (end + 1) field)) (sym name) ∙ ap (λ (xs : List ℕ). column.name ++ 58 ∷ xs) tail
