-- An edge that is read is spelled so, and one that is spelled so is read.
use Rattle.std.proofs.Common.{◌≡◌, ℕ, ◌^◌, ◌<◌, cond, eqb, List, [], ◌∷◌, ◌++◌, length, Option, Some, None, refl, sym, ap, subst, ◌∙◌}
use Rattle.std.specs.Prelude.{nat_lt}
use Rattle.std.specs.List.{flat_map}
use Rattle.std.proofs.lemmas.Bool.{eqb-true}
use Rattle.std.proofs.lemmas.List.{append-nil, nil_from_length}
use Rattle.holder_codec.specs.declared.held_prop.HeldProp.{HeldProp}
use Rattle.holder_codec.specs.declared.edge_holder.EdgeHolder.{EdgeHolder}
use Rattle.holder_codec.specs.Reading.{IsWords, ◌>>=◌, number_at, rising_at, prop_at, label_at, edge_of_words}
use Rattle.holder_codec.specs.Values.{prop_words, PropFits, is_prop_before}
use Rattle.holder_codec.specs.Vertex.{label_words, LabelFits}
use Rattle.holder_codec.specs.EdgeObject.{edge_object_words, IsEdgeHolder}
use Rattle.holder_codec.proofs.ReadLaws.{IsWords-rest, bind_then, guard_some, some_is, one_word, numbers, five_words, rising_takes, rising_again}
use Rattle.holder_codec.proofs.ValueLaws.{props}
use Rattle.holder_codec.proofs.VertexLaws.{labels}

-- one part after the other, with nothing behind them
two_parts : (words a b one two : List ℕ) → words ≡ one ++ a → a ≡ two ++ b → b ≡ [] → words ≡ one ++ two
two_parts words a b one two p q nothing = rw (p, q, nothing, append-nil two) refl

-- the reading from each of its parts on
abbrev ended : ℕ → ℕ → ℕ → List ℕ → List HeldProp × List ℕ → Option EdgeHolder
ended source ordinal target ls ps = cond (eqb (length ps.1) 0) (Some (record { source = source; ordinal = ordinal; target = target; labels = ls; props = ps.0 })) None

abbrev from_props : ℕ → ℕ → ℕ → ℕ → List ℕ × List ℕ → Option EdgeHolder
from_props source ordinal target props ls = rising_at prop_at is_prop_before props ls.1 >>= λ ps. ended source ordinal target ls.0 ps

abbrev from_labels : ℕ → ℕ → ℕ → ℕ → ℕ × List ℕ → Option EdgeHolder
from_labels source ordinal target labels props = rising_at label_at nat_lt labels props.1 >>= λ ls. from_props source ordinal target props.0 ls

-- the last step of reading, over what was read
edge_made : (words : List ℕ) (source ordinal target : ℕ) (ls : List ℕ) (ps : List HeldProp × List ℕ) (edge : EdgeHolder)
    → ended source ordinal target ls ps ≡ Some edge → ((ps.1 ≡ []) → words ≡ edge_object_words (record { source = source; ordinal = ordinal; target = target; labels = ls; props = ps.0 }))
    → IsEdgeHolder (record { source = source; ordinal = ordinal; target = target; labels = ls; props = ps.0 }) → IsEdgeHolder edge × (words ≡ edge_object_words edge)
edge_made words source ordinal target ls ps edge e spelled holds =
    let g = guard_some (eqb (length ps.1) 0) (record { source = source; ordinal = ordinal; target = target; labels = ls; props = ps.0 }) edge e in
    subst (λ (v : EdgeHolder). IsEdgeHolder v × (words ≡ edge_object_words v)) g.1 (holds, spelled (nil_from_length ps.1 (eqb-true _ _ g.0)))

lists_take : (words behind : List ℕ) (source ordinal target labels_n props_n : ℕ) (edge : EdgeHolder) → IsWords behind → source < 2 ^ 64 → ordinal < 2 ^ 64 → target < 2 ^ 64
    → from_labels source ordinal target labels_n (props_n, behind) ≡ Some edge
    → words ≡ source ∷ ordinal ∷ target ∷ labels_n ∷ props_n ∷ behind → IsEdgeHolder edge × (words ≡ edge_object_words edge)
lists_take words behind source ordinal target labels_n props_n edge fits source_fits ordinal_fits target_fits e head =
    bind_then (rising_at label_at nat_lt labels_n behind) (λ ls. from_props source ordinal target props_n ls) edge e (λ ls le e1.
    let tl = rising_takes label_at label_words LabelFits labels nat_lt labels_n behind ls fits le in
    let fits1 = IsWords-rest behind (flat_map label_words ls.0) ls.1 tl.0 fits in
    bind_then (rising_at prop_at is_prop_before props_n ls.1) (λ ps. ended source ordinal target ls.0 ps) edge e1 (λ ps pe e2.
    let tp = rising_takes prop_at prop_words PropFits props is_prop_before props_n ls.1 ps fits1 pe in
    edge_made words source ordinal target ls.0 ps edge e2
    (λ nothing. five_words words _ _ _ _ behind source ordinal target labels_n props_n target (length ls.0) (length ps.0) (flat_map label_words ls.0 ++ flat_map prop_words ps.0)
    head refl refl refl refl (two_parts behind ls.1 ps.1 (flat_map label_words ls.0) (flat_map prop_words ps.0) tl.0 tp.0 nothing) refl tl.1 tp.1)
    (record { source = source_fits; ordinal = ordinal_fits; target = target_fits; labels = tl.2; labels_rise = tl.3; props = tp.2; props_rise = tp.3 })))

pub edge_takes : (words : List ℕ) (edge : EdgeHolder) → IsWords words → edge_of_words words ≡ Some edge → IsEdgeHolder edge × (words ≡ edge_object_words edge)
unfolding edge_of_words
edge_takes words edge fits found =
    bind_then (number_at words) (λ source. number_at source.1 >>= λ ordinal. number_at ordinal.1 >>= λ target. number_at target.1 >>= λ ls. number_at ls.1 >>= λ ps. from_labels source.0 ordinal.0 target.0 ls.0 ps) edge found (λ source h0 e0.
    let t0 = numbers.takes words source fits h0 in
    let fits1 = IsWords-rest words (one_word source.0) source.1 t0.0 fits in
    bind_then (number_at source.1) (λ ordinal. number_at ordinal.1 >>= λ target. number_at target.1 >>= λ ls. number_at ls.1 >>= λ ps. from_labels source.0 ordinal.0 target.0 ls.0 ps) edge e0 (λ ordinal h1 e1.
    let t1 = numbers.takes source.1 ordinal fits1 h1 in
    let fits2 = IsWords-rest source.1 (one_word ordinal.0) ordinal.1 t1.0 fits1 in
    bind_then (number_at ordinal.1) (λ target. number_at target.1 >>= λ ls. number_at ls.1 >>= λ ps. from_labels source.0 ordinal.0 target.0 ls.0 ps) edge e1 (λ target h2 e2.
    let t2 = numbers.takes ordinal.1 target fits2 h2 in
    let fits3 = IsWords-rest ordinal.1 (one_word target.0) target.1 t2.0 fits2 in
    bind_then (number_at target.1) (λ ls. number_at ls.1 >>= λ ps. from_labels source.0 ordinal.0 target.0 ls.0 ps) edge e2 (λ ls h3 e3.
    let t3 = numbers.takes target.1 ls fits3 h3 in
    let fits4 = IsWords-rest target.1 (one_word ls.0) ls.1 t3.0 fits3 in
    bind_then (number_at ls.1) (λ ps. from_labels source.0 ordinal.0 target.0 ls.0 ps) edge e3 (λ ps h4 e4.
    let t4 = numbers.takes ls.1 ps fits4 h4 in
    let fits5 = IsWords-rest ls.1 (one_word ps.0) ps.1 t4.0 fits4 in
    lists_take words ps.1 source.0 ordinal.0 target.0 ls.0 ps.0 edge fits5 t0.1 t1.1 t2.1 e4
    (five_words words source.1 ordinal.1 target.1 ls.1 ps.1 source.0 ordinal.0 target.0 ls.0 ps.0 target.0 ls.0 ps.0 ps.1 t0.0 t1.0 t2.0 t3.0 t4.0 refl refl refl refl))))))

pub edge_again : (edge : EdgeHolder) → IsEdgeHolder edge → edge_of_words (edge_object_words edge) ≡ Some edge
unfolding edge_of_words
edge_again edge fits =
    let behind = flat_map prop_words edge.props in
    let l = rising_again label_at label_words LabelFits labels nat_lt edge.labels behind fits.labels fits.labels_rise in
    let p : rising_at prop_at is_prop_before (length edge.props) behind ≡ Some (edge.props, []) =
    ap (rising_at prop_at is_prop_before (length edge.props)) (sym (append-nil behind)) ∙ rising_again prop_at prop_words PropFits props is_prop_before edge.props [] fits.props fits.props_rise in
    rw (l, p) refl

-- where none is read, none is spelled so
pub edge_none : (words : List ℕ) → edge_of_words words ≡ None → (edge : EdgeHolder) → IsEdgeHolder edge → words ≡ edge_object_words edge → ⊥
edge_none words none edge fits e = let again : edge_of_words words ≡ Some edge = ap edge_of_words e ∙ edge_again edge fits in cc

pub edge_same : (one other : EdgeHolder) → IsEdgeHolder one → IsEdgeHolder other → edge_object_words one ≡ edge_object_words other → one ≡ other
edge_same one other f g e = some_is one other (sym (edge_again one f) ∙ ap edge_of_words e ∙ edge_again other g)
