-- A vertex that is read is spelled so, and one that is spelled so is read.
use Rattle.std.proofs.Common.{◌≡◌, ℕ, ◌^◌, ◌<◌, cond, eqb, List, [], ◌∷◌, ◌++◌, length, Option, Some, None, refl, sym, ap, subst, ◌∙◌}
use Rattle.std.specs.Prelude.{nat_lt}
use Rattle.std.specs.List.{flat_map}
use Rattle.std.proofs.lemmas.Bool.{eqb-true}
use Rattle.std.proofs.lemmas.List.{append-nil, nil_from_length}
use Rattle.holder_codec.specs.declared.held_prop.HeldProp.{HeldProp}
use Rattle.holder_codec.specs.declared.edge_record.EdgeRecord.{EdgeRecord}
use Rattle.holder_codec.specs.declared.vertex_holder.VertexHolder.{VertexHolder}
use Rattle.holder_codec.specs.Reading.{IsWords, ◌>>=◌, number_at, rising_at, narrow, prop_at, record_at, label_at, vertex_of_words}
use Rattle.holder_codec.specs.Values.{prop_words, PropFits, is_prop_before}
use Rattle.holder_codec.specs.Edges.{record_words, RecordFits, is_record_before}
use Rattle.holder_codec.specs.Vertex.{label_words, LabelFits, vertex_words, IsVertexHolder}
use Rattle.holder_codec.proofs.ReadLaws.{IsWords-rest, bind_some, bind_then, guard_some, some_is, Reads, one_word, numbers, five_words, rising_takes, rising_again}
use Rattle.holder_codec.proofs.ValueLaws.{narrow_is, narrow_again, props}
use Rattle.holder_codec.proofs.EdgeLaws.{records}

label_takes : (words : List ℕ) (x : ℕ × List ℕ) → IsWords words → label_at words ≡ Some x → (words ≡ label_words x.0 ++ x.1) × LabelFits x.0
unfolding label_at
label_takes words x fits e =
    let a = bind_some (number_at words) (λ word. narrow word.0 >>= λ label. Some (label, word.1)) x e in
    let b = bind_some (narrow a.0.0) (λ label. Some (label, a.0.1)) x a.2 in
    let t = numbers.takes words a.0 fits a.1 in
    let n = narrow_is a.0.0 b.0 b.1 in
    subst (λ (y : ℕ × List ℕ). (words ≡ label_words y.0 ++ y.1) × LabelFits y.0) (some_is (b.0, a.0.1) x b.2) (t.0 ∙ ap (λ (w : ℕ). w ∷ a.0.1) n.0, n.1)

label_again : (label : ℕ) (rest : List ℕ) → LabelFits label → label_at (label_words label ++ rest) ≡ Some (label, rest)
unfolding label_at
label_again label rest fits = rw (narrow_again label fits) refl

pub labels : Reads label_at label_words LabelFits
labels = record { takes = label_takes; again = label_again }

-- one part after the other, with nothing behind them
three_parts : (words a b c one two three : List ℕ) → words ≡ one ++ a → a ≡ two ++ b → b ≡ three ++ c → c ≡ [] → words ≡ one ++ (two ++ three)
three_parts words a b c one two three p q r nothing = rw (p, q, r, nothing, append-nil three) refl

-- the reading from each of its parts on
abbrev ended : ℕ → ℕ → List ℕ → List HeldProp → List EdgeRecord × List ℕ → Option VertexHolder
ended id next ls ps es = cond (eqb (length es.1) 0) (Some (record { id = id; next = next; labels = ls; props = ps; edges = es.0 })) None

abbrev from_edges : ℕ → ℕ → ℕ → List ℕ → List HeldProp × List ℕ → Option VertexHolder
from_edges id next edges ls ps = rising_at record_at is_record_before edges ps.1 >>= λ es. ended id next ls ps.0 es

abbrev from_props : ℕ → ℕ → ℕ → ℕ → List ℕ × List ℕ → Option VertexHolder
from_props id next props edges ls = rising_at prop_at is_prop_before props ls.1 >>= λ ps. from_edges id next edges ls.0 ps

abbrev from_labels : ℕ → ℕ → ℕ → ℕ → ℕ × List ℕ → Option VertexHolder
from_labels id next labels props edges = rising_at label_at nat_lt labels edges.1 >>= λ ls. from_props id next props edges.0 ls

-- the last step of reading, over what was read
vertex_made : (words behind : List ℕ) (id next : ℕ) (ls : List ℕ) (ps : List HeldProp) (es : List EdgeRecord × List ℕ) (vertex : VertexHolder)
    → ended id next ls ps es ≡ Some vertex → ((es.1 ≡ []) → words ≡ vertex_words (record { id = id; next = next; labels = ls; props = ps; edges = es.0 }))
    → IsVertexHolder (record { id = id; next = next; labels = ls; props = ps; edges = es.0 }) → IsVertexHolder vertex × (words ≡ vertex_words vertex)
vertex_made words behind id next ls ps es vertex e spelled holds =
    let g = guard_some (eqb (length es.1) 0) (record { id = id; next = next; labels = ls; props = ps; edges = es.0 }) vertex e in
    subst (λ (v : VertexHolder). IsVertexHolder v × (words ≡ vertex_words v)) g.1 (holds, spelled (nil_from_length es.1 (eqb-true _ _ g.0)))

lists_take : (words behind : List ℕ) (id next labels_n props_n edges_n : ℕ) (vertex : VertexHolder) → IsWords behind → id < 2 ^ 64 → next < 2 ^ 64 → from_labels id next labels_n props_n (edges_n, behind) ≡ Some vertex
    → words ≡ id ∷ next ∷ labels_n ∷ props_n ∷ edges_n ∷ behind → IsVertexHolder vertex × (words ≡ vertex_words vertex)
lists_take words behind id next labels_n props_n edges_n vertex fits id_fits next_fits e head =
    bind_then (rising_at label_at nat_lt labels_n behind) (λ ls. from_props id next props_n edges_n ls) vertex e (λ ls le e1.
    let tl = rising_takes label_at label_words LabelFits labels nat_lt labels_n behind ls fits le in
    let fits1 = IsWords-rest behind (flat_map label_words ls.0) ls.1 tl.0 fits in
    bind_then (rising_at prop_at is_prop_before props_n ls.1) (λ ps. from_edges id next edges_n ls.0 ps) vertex e1 (λ ps pe e2.
    let tp = rising_takes prop_at prop_words PropFits props is_prop_before props_n ls.1 ps fits1 pe in
    let fits2 = IsWords-rest ls.1 (flat_map prop_words ps.0) ps.1 tp.0 fits1 in
    bind_then (rising_at record_at is_record_before edges_n ps.1) (λ es. ended id next ls.0 ps.0 es) vertex e2 (λ es ee e3.
    let tr = rising_takes record_at record_words RecordFits records is_record_before edges_n ps.1 es fits2 ee in
    vertex_made words behind id next ls.0 ps.0 es vertex e3
    (λ nothing. five_words words _ _ _ _ behind id next labels_n props_n edges_n (length ls.0) (length ps.0) (length es.0) (flat_map label_words ls.0 ++ (flat_map prop_words ps.0 ++ flat_map record_words es.0))
    head refl refl refl refl (three_parts behind ls.1 ps.1 es.1 (flat_map label_words ls.0) (flat_map prop_words ps.0) (flat_map record_words es.0) tl.0 tp.0 tr.0 nothing) tl.1 tp.1 tr.1)
    (record { id = id_fits; next = next_fits; labels = tl.2; labels_rise = tl.3; props = tp.2; props_rise = tp.3; edges = tr.2; edges_rise = tr.3 }))))

pub vertex_takes : (words : List ℕ) (vertex : VertexHolder) → IsWords words → vertex_of_words words ≡ Some vertex → IsVertexHolder vertex × (words ≡ vertex_words vertex)
unfolding vertex_of_words
vertex_takes words vertex fits found =
    bind_then (number_at words) (λ id. number_at id.1 >>= λ next. number_at next.1 >>= λ ls. number_at ls.1 >>= λ ps. number_at ps.1 >>= λ es. from_labels id.0 next.0 ls.0 ps.0 es) vertex found (λ id h0 e0.
    let t0 = numbers.takes words id fits h0 in
    let fits1 = IsWords-rest words (one_word id.0) id.1 t0.0 fits in
    bind_then (number_at id.1) (λ next. number_at next.1 >>= λ ls. number_at ls.1 >>= λ ps. number_at ps.1 >>= λ es. from_labels id.0 next.0 ls.0 ps.0 es) vertex e0 (λ next h1 e1.
    let t1 = numbers.takes id.1 next fits1 h1 in
    let fits2 = IsWords-rest id.1 (one_word next.0) next.1 t1.0 fits1 in
    bind_then (number_at next.1) (λ ls. number_at ls.1 >>= λ ps. number_at ps.1 >>= λ es. from_labels id.0 next.0 ls.0 ps.0 es) vertex e1 (λ ls h2 e2.
    let t2 = numbers.takes next.1 ls fits2 h2 in
    let fits3 = IsWords-rest next.1 (one_word ls.0) ls.1 t2.0 fits2 in
    bind_then (number_at ls.1) (λ ps. number_at ps.1 >>= λ es. from_labels id.0 next.0 ls.0 ps.0 es) vertex e2 (λ ps h3 e3.
    let t3 = numbers.takes ls.1 ps fits3 h3 in
    let fits4 = IsWords-rest ls.1 (one_word ps.0) ps.1 t3.0 fits3 in
    bind_then (number_at ps.1) (λ es. from_labels id.0 next.0 ls.0 ps.0 es) vertex e3 (λ es h4 e4.
    let t4 = numbers.takes ps.1 es fits4 h4 in
    let fits5 = IsWords-rest ps.1 (one_word es.0) es.1 t4.0 fits4 in
    lists_take words es.1 id.0 next.0 ls.0 ps.0 es.0 vertex fits5 t0.1 t1.1 e4
    (five_words words id.1 next.1 ls.1 ps.1 es.1 id.0 next.0 ls.0 ps.0 es.0 ls.0 ps.0 es.0 es.1 t0.0 t1.0 t2.0 t3.0 t4.0 refl refl refl refl))))))

pub vertex_again : (vertex : VertexHolder) → IsVertexHolder vertex → vertex_of_words (vertex_words vertex) ≡ Some vertex
unfolding vertex_of_words
vertex_again vertex fits =
    let edges = flat_map record_words vertex.edges in
    let behind = flat_map prop_words vertex.props ++ edges in
    let l = rising_again label_at label_words LabelFits labels nat_lt vertex.labels behind fits.labels fits.labels_rise in
    let p = rising_again prop_at prop_words PropFits props is_prop_before vertex.props edges fits.props fits.props_rise in
    let r : rising_at record_at is_record_before (length vertex.edges) edges ≡ Some (vertex.edges, []) =
    ap (rising_at record_at is_record_before (length vertex.edges)) (sym (append-nil edges)) ∙ rising_again record_at record_words RecordFits records is_record_before vertex.edges [] fits.edges fits.edges_rise in
    rw (l, p, r) refl

-- where none is read, none is spelled so
pub vertex_none : (words : List ℕ) → vertex_of_words words ≡ None → (vertex : VertexHolder) → IsVertexHolder vertex → words ≡ vertex_words vertex → ⊥
vertex_none words none vertex fits e = let again : vertex_of_words words ≡ Some vertex = ap vertex_of_words e ∙ vertex_again vertex fits in cc
