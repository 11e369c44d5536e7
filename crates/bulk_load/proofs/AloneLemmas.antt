-- A right file is one transaction, and no record of it is wrong.
use Rattle.std.proofs.Common.{◌≡◌, ℕ, suc, ◌+◌, Bool, true, false, List, [], ◌∷◌, ◌++◌, length, map, Option, Some, None, refl, sym, ap, subst, ◌∙◌, append_assoc, arith, length-append, inl, inr}
use Rattle.std.specs.Prelude.{◌⊎◌, codes}
use Rattle.std.specs.List.{AllByRecursion}
use Rattle.std.proofs.lemmas.Fmt.{decimal_injective}
use Rattle.std.proofs.lemmas.List.{append-nil}
use Rattle.csv.specs.Machine.{Read, next_record}
use Rattle.csv.specs.Reading.{AreRecords, Reached, default_config, strip_bom}
use Rattle.csv.specs.declared.parser.Config.{Config}
use Rattle.csv.specs.declared.parser.State.{State}
use Rattle.csv.specs.declared.parser.State.TheVariants as state
use Rattle.gdi_kinds.specs.Names.{IsName}
use Rattle.gdi_kinds.specs.declared.call.Call.{Call}
use Rattle.gdi_kinds.specs.declared.value.Kind.{Kind}
use Rattle.gdi_kinds.specs.declared.value.Kind.TheVariants as kind
use Rattle.gdi_kinds.specs.declared.value.Value.{Value}
use Rattle.gdi_kinds.specs.declared.value.Value.TheVariants as value
use Rattle.text_words.proofs.ShapeLemmas.{value_same}
use Rattle.rma_layout.specs.Shape.{Shape}
use Rattle.graph_model.specs.Graph.{Graph}
use Rattle.graph_model.specs.Transactions.{graph_after_calls}
use Rattle.bulk_load.specs.declared.column.Column.{Column}
use Rattle.bulk_load.specs.declared.header.Header.{Header}
use Rattle.bulk_load.specs.declared.lead.Lead.{Lead}
use Rattle.bulk_load.specs.declared.lead.Lead.TheVariants as lead
use Rattle.bulk_load.specs.declared.load_file.LoadFile.{LoadFile}
use Rattle.bulk_load.specs.declared.load_file.LoadFile.TheVariants as file
use Rattle.bulk_load.specs.declared.load_fault.LoadFault.{LoadFault}
use Rattle.bulk_load.specs.declared.subject.Subject.{Subject}
use Rattle.bulk_load.specs.declared.subject.Subject.TheVariants as subject
use Rattle.bulk_load.specs.Alone.{RightFileIsNotWrong, RightFileIsOneTransaction}
use Rattle.bulk_load.specs.Records.{Fields, HasRecords, BeginsWith}
use Rattle.bulk_load.specs.Headers.{IsHeader, column_text, file_of, lead_fields}
use Rattle.bulk_load.specs.Fields.{AreLabels, FirstWrong, IsId, IsLabel, IsMark, Says, Sort, SpellAll, SpellColumns, Spells, lead_sorts, parts_of, some_values}
use Rattle.bulk_load.specs.Rows.{DoCalls, IsRight, IsWrong, SaysCalls, making, meets_limit, misfits, owner_of, puts, sorts_of, other_count, misspelled, misplaced, too_large}
use Rattle.bulk_load.specs.Loads.{new_types, with_types, open_quote, no_record, no_header, no_room, wrong_record}
use Rattle.bulk_load.proofs.HeaderLemmas.{column_same, marked_lead}
use Rattle.bulk_load.proofs.LoadLemmas.{after_both}
use Rattle.bulk_load.proofs.RowLemmas.{sorts_count}

-- ---- records

-- what a text begins with stands in front of all its records
front_of_all : (cfg : Config) (s : State) (xs : List ℕ) (some all : List Fields) (at : State) (rest : List ℕ) → Reached cfg s xs some at rest → AreRecords cfg s xs all
    → (others : List Fields) × (all ≡ some ++ others)
unfolding Reached
front_of_all cfg s xs [] all at rest begun whole = (all, refl)
front_of_all cfg s xs (r ∷ some) [] at rest (p, found, is, begun) (s2, ys, reached, end) =
    let none : next_record cfg s [] [] xs ≡ None = ap (λ (t : State). next_record cfg t [] [] xs) reached.0 ∙ ap (λ (ys : List ℕ). next_record cfg s2 [] [] ys) reached.1 ∙ end in
    let e : ◌≡◌ {A = Option Read} None (Some p) = sym none ∙ found in
    absurd (cc)
front_of_all cfg s xs (r ∷ some) (r2 ∷ all) at rest (p, found, is, begun) (s2, ys, (q, also, is2, reached), end) =
    let same : q ≡ p = some_same q p (sym also ∙ found) in
    let more = front_of_all cfg p.1 p.2 some all at rest begun (s2, ys, subst (λ (t : Read). Reached cfg t.1 t.2 all s2 ys) same reached, end) in
    let first : r2 ≡ r = is2 ∙ ap (λ (t : Read). t.0) same ∙ sym is in
    (more.0, ap (λ (t : Fields). t ∷ all) first ∙ ap (λ (ts : List Fields). r ∷ ts) more.1)
  where
    some_same : (a b : Read) → ◌≡◌ {A = Option Read} (Some a) (Some b) → a ≡ b
    some_same a b e = cc

begins_all : (bytes : List ℕ) (some all : List Fields) → BeginsWith bytes some → HasRecords bytes all → (others : List Fields) × (all ≡ some ++ others)
begins_all bytes some all (at, rest, begun) whole = front_of_all default_config state.StartRecord (strip_bom bytes) some all at rest begun whole

no_more : (ones others more bs : List Fields) → bs ≡ ones ++ others → ones ≡ bs ++ more → ones ≡ bs
no_more ones [] more bs left right = sym (left ∙ append-nil ones)
no_more ones (o ∷ others) more bs left right =
    let one : length bs ≡ length ones + length (o ∷ others) = ap length left ∙ length-append ones (o ∷ others) in
    let two : length ones ≡ length bs + length more = ap length right ∙ length-append bs more in
    absurd (omega (arith, one, two))

-- a text has one list of records
records_same : (bytes : List ℕ) (ones bs : List Fields) → HasRecords bytes ones → HasRecords bytes bs → ones ≡ bs
records_same bytes ones bs left right =
    let one = front_of_all default_config state.StartRecord (strip_bom bytes) ones bs left.0 left.1 left.2 right in
    let two = front_of_all default_config state.StartRecord (strip_bom bytes) bs ones right.0 right.1 right.2 left in
    no_more ones one.0 two.0 bs one.1 two.1

-- ---- the header

abbrev Names : List Column → Type 0
Names columns = AllByRecursion (λ (column : Column). IsName column.name) columns

lead_same : (of : LoadFile) (fields : Fields) (a b : Lead) (ones bs : List Column) → file_of a ≡ of → file_of b ≡ of → Names ones → Names bs
    → fields ≡ lead_fields a ++ map column_text ones → fields ≡ lead_fields b ++ map column_text bs → a ≡ b
lead_same of fields lead.Vertices lead.Vertices ones bs x y na nb fa fb = refl
lead_same of fields lead.Edges lead.Edges ones bs x y na nb fa fb = refl
lead_same of fields lead.MarkedEdges lead.MarkedEdges ones bs x y na nb fa fb = refl
lead_same of fields lead.Edges lead.MarkedEdges ones bs x y na nb fa fb = (marked_lead fields (map column_text bs) fb).alone lead.Edges ones refl na fa
lead_same of fields lead.MarkedEdges lead.Edges ones bs x y na nb fa fb = sym ((marked_lead fields (map column_text ones) fa).alone lead.Edges bs refl nb fb)
lead_same of fields lead.Vertices lead.Edges ones bs x y na nb fa fb = let e : file.Vertices ≡ file.Edges = x ∙ sym y in absurd (cc)
lead_same of fields lead.Vertices lead.MarkedEdges ones bs x y na nb fa fb = let e : file.Vertices ≡ file.Edges = x ∙ sym y in absurd (cc)
lead_same of fields lead.Edges lead.Vertices ones bs x y na nb fa fb = let e : file.Edges ≡ file.Vertices = x ∙ sym y in absurd (cc)
lead_same of fields lead.MarkedEdges lead.Vertices ones bs x y na nb fa fb = let e : file.Edges ≡ file.Vertices = x ∙ sym y in absurd (cc)

behind_same : (at : Lead) (xs ys : Fields) → lead_fields at ++ xs ≡ lead_fields at ++ ys → xs ≡ ys
behind_same lead.Vertices xs ys same = cc
behind_same lead.Edges xs ys same = cc
behind_same lead.MarkedEdges xs ys same = cc

columns_same : (ones bs : List Column) → Names ones → Names bs → map column_text ones ≡ map column_text bs → ones ≡ bs
columns_same [] [] na nb same = refl
columns_same [] (b ∷ bs) na nb same = absurd (cc)
columns_same (a ∷ ones) [] na nb same = absurd (cc)
columns_same (a ∷ ones) (b ∷ bs) na nb same =
    let first : column_text a ≡ column_text b = cc in
    let others : map column_text ones ≡ map column_text bs = cc in
    ap (λ (c : Column). c ∷ ones) (column_same a b na.0 nb.0 first) ∙ ap (λ (cs : List Column). b ∷ cs) (columns_same ones bs na.1 nb.1 others)

header_same : (g : Graph) (of : LoadFile) (fields : Fields) (a b : Header) → IsHeader g of fields a → IsHeader g of fields b → a ≡ b
header_same g of fields a b left right =
    let la : fields ≡ lead_fields a.lead ++ map column_text a.columns = left.front ∙ ap (λ (fs : Fields). lead_fields a.lead ++ fs) left.columns.texts in
    let lb : fields ≡ lead_fields b.lead ++ map column_text b.columns = right.front ∙ ap (λ (fs : Fields). lead_fields b.lead ++ fs) right.columns.texts in
    let leads : a.lead ≡ b.lead = lead_same of fields a.lead b.lead a.columns b.columns left.file_is right.file_is left.columns.names right.columns.names la lb in
    let texts : map column_text a.columns ≡ map column_text b.columns
    = behind_same b.lead (map column_text a.columns) (map column_text b.columns) (ap (λ (l : Lead). lead_fields l ++ map column_text a.columns) (sym leads) ∙ sym la ∙ lb) in
    let columns = columns_same a.columns b.columns left.columns.names right.columns.names texts in
    ap (λ (l : Lead). (record { lead = l; columns = a.columns })) leads ∙ ap (λ (cs : List Column). (record { lead = b.lead; columns = cs })) columns

-- ---- what a record says

id_same : (field : List ℕ) (a b : ℕ) → IsId field a → IsId field b → a ≡ b
id_same field a b left right = decimal_injective a b left.1 right.1 (sym left.0 ∙ right.0)

labels_same : (field : List ℕ) (ones bs : Fields) → AreLabels field ones → AreLabels field bs → ones ≡ bs
labels_same field ones bs left right = sym left.items ∙ right.items

no_empty_name : (field name : List ℕ) → field ≡ [] → field ≡ name → ¬ IsName name
no_empty_name field name none is named = let e : false ≡ true = subst IsName (sym is ∙ none) named in absurd (cc)

label_same : (field : List ℕ) (a b : Option (List ℕ)) → IsLabel field a → IsLabel field b → a ≡ b
label_same field None None left right = refl
label_same field None (Some b) left right = absurd (no_empty_name field b left right.0 right.1)
label_same field (Some a) None left right = absurd (no_empty_name field a right left.0 left.1)
label_same field (Some a) (Some b) left right = ap Some (sym left.0 ∙ right.0)

mark_other : (field : List ℕ) → IsMark field true → ¬ IsMark field false
mark_other field so other = elim other [
  | inl is ↦ let e : codes "true" ≡ codes "false" = sym so ∙ is in absurd (cc)
  | inr is ↦ let e : codes "true" ≡ [] = sym so ∙ is in absurd (cc)
]

mark_same : (field : List ℕ) (a b : Bool) → IsMark field a → IsMark field b → a ≡ b
mark_same field true true left right = refl
mark_same field false false left right = refl
mark_same field true false left right = absurd (mark_other field left right)
mark_same field false true left right = absurd (mark_other field right left)

spelled_same : (k : Kind) (bytes : List ℕ) (v w : Value) → Spells k bytes v → Spells k bytes w → v ≡ w
spelled_same k bytes (value.Text s) (value.Text t) left right = ap value.Text (sym left.text ∙ right.text)
spelled_same k bytes (value.Int m) (value.Int n) left right = value_same (value.Int m) (value.Int n) left.fits right.fits (sym left.text ∙ right.text)
spelled_same k bytes (value.Bool a) (value.Bool b) left right = value_same (value.Bool a) (value.Bool b) left.fits right.fits (sym left.text ∙ right.text)
spelled_same k bytes (value.Int m) (value.Bool b) left right = let e : kind.Int ≡ kind.Bool = left.kind_is ∙ sym right.kind_is in absurd (cc)
spelled_same k bytes (value.Int m) (value.Text t) left right = let e : kind.Int ≡ kind.Text = left.kind_is ∙ sym right.kind_is in absurd (cc)
spelled_same k bytes (value.Bool a) (value.Int n) left right = let e : kind.Bool ≡ kind.Int = left.kind_is ∙ sym right.kind_is in absurd (cc)
spelled_same k bytes (value.Bool a) (value.Text t) left right = let e : kind.Bool ≡ kind.Text = left.kind_is ∙ sym right.kind_is in absurd (cc)
spelled_same k bytes (value.Text s) (value.Int n) left right = let e : kind.Text ≡ kind.Int = left.kind_is ∙ sym right.kind_is in absurd (cc)
spelled_same k bytes (value.Text s) (value.Bool b) left right = let e : kind.Text ≡ kind.Bool = left.kind_is ∙ sym right.kind_is in absurd (cc)

all_same : (k : Kind) (parts : Fields) (vs ws : List Value) → SpellAll k parts vs → SpellAll k parts ws → vs ≡ ws
all_same k [] [] [] left right = refl
all_same k [] [] (w ∷ ws) left right = absurd right
all_same k [] (v ∷ vs) ws left right = absurd left
all_same k (part ∷ parts) [] ws left right = absurd left
all_same k (part ∷ parts) (v ∷ vs) [] left right = absurd right
all_same k (part ∷ parts) (v ∷ vs) (w ∷ ws) left right =
    ap (λ (x : Value). x ∷ vs) (spelled_same k part v w left.0 right.0) ∙ ap (λ (xs : List Value). w ∷ xs) (all_same k parts vs ws left.1 right.1)

values_same : (columns : List Column) (fields : Fields) (vs ws : List (List Value)) → SpellColumns columns fields vs → SpellColumns columns fields ws → vs ≡ ws
values_same [] [] [] [] left right = refl
values_same [] [] [] (w ∷ ws) left right = absurd right
values_same [] [] (v ∷ vs) ws left right = absurd left
values_same [] (f ∷ fields) vs ws left right = absurd left
values_same (c ∷ columns) [] vs ws left right = absurd left
values_same (c ∷ columns) (f ∷ fields) [] ws left right = absurd left
values_same (c ∷ columns) (f ∷ fields) (v ∷ vs) [] left right = absurd right
values_same (c ∷ columns) (f ∷ fields) (v ∷ vs) (w ∷ ws) left right =
    ap (λ (x : List Value). x ∷ vs) (all_same c.kind (parts_of c f) v w left.0 right.0) ∙ ap (λ (xs : List (List Value)). w ∷ xs) (values_same columns fields vs ws left.1 right.1)

edge_same : (u v : Bool) (a b c d : ℕ) (l m : Option (List ℕ)) → u ≡ v → a ≡ b → c ≡ d → l ≡ m → subject.Edge u a c l ≡ subject.Edge v b d m
edge_same u v a b c d l m e f g h = cc

said_same : (at : Lead) (fields : Fields) (a b : Subject) (xs ys : Fields) → Says at fields a xs → Says at fields b ys → (a ≡ b) × (xs ≡ ys)
said_same lead.Vertices (f ∷ g ∷ fields) (subject.Vertex i ls) (subject.Vertex j ms) xs ys left right = (
  ap (λ (n : ℕ). subject.Vertex n ls) (id_same f i j left.0 right.0) ∙ ap (λ (ns : Fields). subject.Vertex j ns) (labels_same g ls ms left.1 right.1),
  left.2 ∙ sym right.2,
)
said_same lead.Edges (f ∷ g ∷ h ∷ fields) (subject.Edge u a c l) (subject.Edge v b d m) xs ys left right = (
  edge_same u v a b c d l m (left.3 ∙ sym right.3) (id_same f a b left.0 right.0) (id_same g c d left.1 right.1) (label_same h l m left.2 right.2),
  left.4 ∙ sym right.4,
)
said_same lead.MarkedEdges (f ∷ g ∷ h ∷ i ∷ fields) (subject.Edge u a c l) (subject.Edge v b d m) xs ys left right = (
  edge_same u v a b c d l m (mark_same i u v left.3 right.3) (id_same f a b left.0 right.0) (id_same g c d left.1 right.1) (label_same h l m left.2 right.2),
  left.4 ∙ sym right.4,
)
said_same lead.Vertices (f ∷ g ∷ fields) (subject.Vertex i ls) (subject.Edge v b d m) xs ys left right = absurd right
said_same lead.Edges (f ∷ g ∷ h ∷ fields) (subject.Edge u a c l) (subject.Vertex j ms) xs ys left right = absurd right
said_same lead.MarkedEdges (f ∷ g ∷ h ∷ i ∷ fields) (subject.Edge u a c l) (subject.Vertex j ms) xs ys left right = absurd right
said_same at fields a b xs ys left right = absurd left

record SameSaying (a b : Subject) (own other : List Call) : Type 0 where
  subject : a ≡ b
  calls : own ≡ other

calls_same : (g : Graph) (header : Header) (fields : Fields) (a b : Subject) (own other : List Call) → SaysCalls g header fields a own → SaysCalls g header fields b other → SameSaying a b own other
calls_same g header fields a b own other left right =
    let said = said_same header.lead fields a b left.behind right.behind left.front right.front in
    let values = values_same header.columns right.behind left.values right.values (subst (λ (fs : Fields). SpellColumns header.columns fs left.values) said.1 left.columns) right.columns in
    record {
      subject = said.0;
      calls = left.calls_are
          ∙ ap (λ (s : Subject). making g s ++ puts (owner_of g s) header.columns left.values) said.0
          ∙ ap (λ (vs : List (List Value)). making g b ++ puts (owner_of g b) header.columns vs) values
          ∙ sym right.calls_are;
    }

-- ---- a record that says something isn't wrong in its fields

columns_count : (columns : List Column) (fields : Fields) (values : List (List Value)) → SpellColumns columns fields values → length fields ≡ length columns
columns_count [] [] [] said = refl
columns_count [] [] (v ∷ values) said = absurd said
columns_count [] (f ∷ fields) values said = absurd said
columns_count (c ∷ columns) [] values said = absurd said
columns_count (c ∷ columns) (f ∷ fields) [] said = absurd said
columns_count (c ∷ columns) (f ∷ fields) (v ∷ values) said = ap suc (columns_count columns fields values said.1)

front_count : (at : Lead) (fields : Fields) (says : Subject) (behind : Fields) → Says at fields says behind → length fields ≡ length (lead_sorts at) + length behind
front_count lead.Vertices (f ∷ g ∷ fields) (subject.Vertex i ls) behind said = let e : length behind ≡ length fields = ap length said.2 in omega (arith, e)
front_count lead.Edges (f ∷ g ∷ h ∷ fields) (subject.Edge u a c l) behind said = let e : length behind ≡ length fields = ap length said.4 in omega (arith, e)
front_count lead.MarkedEdges (f ∷ g ∷ h ∷ i ∷ fields) (subject.Edge u a c l) behind said = let e : length behind ≡ length fields = ap length said.4 in omega (arith, e)
front_count at fields says behind said = absurd said

said_count : (g : Graph) (header : Header) (fields : Fields) (says : Subject) (calls : List Call) → SaysCalls g header fields says calls → length fields ≡ length (sorts_of header)
said_count g header fields says calls said =
    front_count header.lead fields says said.behind said.front
    ∙ ap (λ (n : ℕ). length (lead_sorts header.lead) + n) (columns_count header.columns said.behind said.values said.columns)
    ∙ sym (sorts_count header)

columns_right : (columns : List Column) (fields : Fields) (values : List (List Value)) (told : LoadFault) → SpellColumns columns fields values → ¬ FirstWrong (map some_values columns) fields told
columns_right [] fields values told said wrong = absurd wrong
columns_right (c ∷ columns) [] values told said wrong = absurd wrong
columns_right (c ∷ columns) (f ∷ fields) [] told said wrong = absurd said
columns_right (c ∷ columns) (f ∷ fields) (v ∷ values) told said wrong = elim wrong [
  | inl here ↦ here.0 (v, said.0)
  | inr there ↦ columns_right columns fields values told said.1 there.1
]

-- the first field is right, so another one is wrong
past : {A B C : Type 0} → A → ((¬ A) × B) ⊎ (A × C) → C
past right wrong = elim wrong [ inl here ↦ absurd (here.0 right) | inr there ↦ there.1 ]

front_right : (at : Lead) (fields : Fields) (says : Subject) (behind : Fields) (sorts : List Sort) (told : LoadFault) → Says at fields says behind → FirstWrong (lead_sorts at ++ sorts) fields told → FirstWrong sorts behind told
front_right lead.Vertices (f ∷ g ∷ fields) (subject.Vertex i ls) behind sorts told said wrong =
    subst (λ (fs : Fields). FirstWrong sorts fs told) (sym said.2) (past (ls, said.1) (past (i, said.0) wrong))
front_right lead.Edges (f ∷ g ∷ h ∷ fields) (subject.Edge u a c l) behind sorts told said wrong =
    subst (λ (fs : Fields). FirstWrong sorts fs told) (sym said.4) (past (l, said.2) (past (c, said.1) (past (a, said.0) wrong)))
front_right lead.MarkedEdges (f ∷ g ∷ h ∷ i ∷ fields) (subject.Edge u a c l) behind sorts told said wrong =
    subst (λ (fs : Fields). FirstWrong sorts fs told) (sym said.4) (past (u, said.3) (past (l, said.2) (past (c, said.1) (past (a, said.0) wrong))))
front_right at fields says behind sorts told said wrong = absurd said

not_both : (b : Bool) → b ≡ true → ¬ (b ≡ false)
not_both b so other = let e : true ≡ false = sym so ∙ other in absurd (cc)

-- a right record isn't wrong
right_not_wrong : (shape : Shape) (g : Graph) (header : Header) (fields : Fields) (own : List Call) (told : LoadFault) → IsRight shape g header fields own → ¬ IsWrong shape g header fields told
right_not_wrong shape g header fields own told right (other_count is differs) = differs (said_count g header fields right.subject own right.said)
right_not_wrong shape g header fields own told right (misspelled count wrong) =
    columns_right header.columns right.said.behind right.said.values told right.said.columns
    (front_right header.lead fields right.subject right.said.behind (map some_values header.columns) told right.said.front wrong)
right_not_wrong shape g header fields own told right (misplaced says calls said misfit is) =
    let same = calls_same g header fields says right.subject calls own said right.said in
    not_both (misfits g right.subject) (ap (misfits g) (sym same.subject) ∙ misfit) right.fits
right_not_wrong shape g header fields own told right (too_large says calls said fits meets is) =
    let same = calls_same g header fields says right.subject calls own said right.said in
    not_both (meets_limit shape g own) (ap (meets_limit shape g) (sym same.calls) ∙ meets) right.within

-- ---- the records one after the other

own_same : (shape : Shape) (g : Graph) (header : Header) (fields : Fields) (own other : List Call) → IsRight shape g header fields own → IsRight shape g header fields other → own ≡ other
own_same shape g header fields own other left right = (calls_same g header fields left.subject right.subject own other left.said right.said).calls

do_same : (shape : Shape) (header : Header) (g : Graph) (records : List Fields) (ones bs : List Call) → DoCalls shape header g records ones → DoCalls shape header g records bs → ones ≡ bs
do_same shape header g [] ones bs left right = left ∙ sym right
do_same shape header g (fields ∷ records) ones bs (own, others, is, more, split) (own2, others2, is2, more2, split2) =
    let first = own_same shape g header fields own own2 is is2 in
    let rest = do_same shape header (graph_after_calls shape g own2) records others others2 (subst (λ (cs : List Call). DoCalls shape header (graph_after_calls shape g cs) records others) first more) more2 in
    split ∙ ap (λ (cs : List Call). cs ++ others) first ∙ ap (λ (cs : List Call). own2 ++ cs) rest ∙ sym split2

-- none is wrong behind those that are right
none_is_wrong : (shape : Shape) (header : Header) (g : Graph) (right : List Fields) (wrong : Fields) (rest : List Fields) (all calls : List Call) (told : LoadFault)
    → DoCalls shape header g (right ++ wrong ∷ rest) all → DoCalls shape header g right calls → ¬ IsWrong shape (graph_after_calls shape g calls) header wrong told
none_is_wrong shape header g [] wrong rest all calls told (own, others, is, more, split) none bad =
    right_not_wrong shape g header wrong own told is (subst (λ (cs : List Call). IsWrong shape (graph_after_calls shape g cs) header wrong told) none bad)
none_is_wrong shape header g (fields ∷ right) wrong rest all calls told (own, others, is, more, split) (own2, others2, is2, more2, split2) bad =
    let first = own_same shape g header fields own own2 is is2 in
    none_is_wrong shape header (graph_after_calls shape g own2) right wrong rest others others2 told
    (subst (λ (cs : List Call). DoCalls shape header (graph_after_calls shape g cs) (right ++ wrong ∷ rest) others) first more) more2
    (subst (λ (h : Graph). IsWrong shape h header wrong told) (ap (graph_after_calls shape g) split2 ∙ after_both shape g own2 others2) bad)

-- ---- files

first_same : (a b : Fields) (ones bs : List Fields) → a ∷ ones ≡ b ∷ bs → a ≡ b
first_same a b ones bs same = cc

others_same : (a b : Fields) (ones bs : List Fields) → a ∷ ones ≡ b ∷ bs → ones ≡ bs
others_same a b ones bs same = cc

pub one_transaction : RightFileIsOneTransaction
one_transaction of bytes before txn other left right =
    let records = records_same bytes (left.fields ∷ left.records) (right.fields ∷ right.records) left.cut right.cut in
    let first = first_same left.fields right.fields left.records right.records records in
    let behind = others_same left.fields right.fields left.records right.records records in
    let header = header_same before.graph of right.fields left.header right.header (subst (λ (fs : Fields). IsHeader before.graph of fs left.header) first left.headed.is) right.headed.is in
    let does : DoCalls before.shape right.header (with_types before right.header) right.records left.calls
    = subst (λ (rs : List Fields). DoCalls before.shape right.header (with_types before right.header) rs left.calls) behind
    (subst (λ (h : Header). DoCalls before.shape h (with_types before h) left.records left.calls) header left.do_calls) in
    let calls = do_same before.shape right.header (with_types before right.header) right.records left.calls right.calls does right.do_calls in
    left.txn_is
    ∙ ap (λ (h : Header). (record { whole = false; calls = new_types before.graph h.columns ++ left.calls; aborts = false })) header
    ∙ ap (λ (cs : List Call). (record { whole = false; calls = new_types before.graph right.header.columns ++ cs; aborts = false })) calls
    ∙ sym right.txn_is

pub not_wrong : RightFileIsNotWrong
not_wrong of bytes before txn row told is (open_quote at kind unpaired) = unpaired is.headed.quotes
not_wrong of bytes before txn row told is (no_record at kind quotes none) =
    let same = records_same bytes [] (is.fields ∷ is.records) none is.cut in absurd (cc)
not_wrong of bytes before txn row told is (no_header at kind quotes fields begun none) =
    let front = begins_all bytes (fields ∷ []) (is.fields ∷ is.records) begun is.cut in
    let first = first_same is.fields fields is.records front.0 front.1 in
    none is.header (subst (λ (fs : Fields). IsHeader before.graph of fs is.header) first is.headed.is)
not_wrong of bytes before txn row told is (no_room at kind quotes fields begun header heads meets) =
    let front = begins_all bytes (fields ∷ []) (is.fields ∷ is.records) begun is.cut in
    let first = first_same is.fields fields is.records front.0 front.1 in
    let same = header_same before.graph of fields header is.header heads (subst (λ (fs : Fields). IsHeader before.graph of fs is.header) first is.headed.is) in
    not_both (meets_limit before.shape before.graph (new_types before.graph is.header.columns))
    (ap (λ (h : Header). meets_limit before.shape before.graph (new_types before.graph h.columns)) (sym same) ∙ meets) is.headed.within
not_wrong of bytes before txn row told is (wrong_record fields header heads right wrong begun at calls does bad) =
    let front = begins_all bytes (fields ∷ right ++ wrong ∷ []) (is.fields ∷ is.records) begun is.cut in
    let first = first_same is.fields fields is.records _ front.1 in
    let same = header_same before.graph of fields header is.header heads.is (subst (λ (fs : Fields). IsHeader before.graph of fs is.header) first is.headed.is) in
    let records : is.records ≡ right ++ wrong ∷ front.0 = others_same is.fields fields is.records _ front.1 ∙ append_assoc right (wrong ∷ []) front.0 in
    none_is_wrong before.shape is.header (with_types before is.header) right wrong front.0 is.calls calls told
    (subst (λ (rs : List Fields). DoCalls before.shape is.header (with_types before is.header) rs is.calls) records is.do_calls)
    (subst (λ (h : Header). DoCalls before.shape h (with_types before h) right calls) same does)
    (subst (λ (h : Header). IsWrong before.shape (graph_after_calls before.shape (with_types before h) calls) h wrong told) same bad)
