-- Names that are read are spelled so, and ones that are spelled so are read.
use Rattle.std.proofs.Common.{◌≡◌, ◌≢◌, ℕ, ◌*◌, ◌+◌, ◌/◌, ◌%◌, ◌<◌, Bool, true, false, not, cond, eqb, ◌&&◌, ◌||◌, suc, List, [], ◌∷◌, ◌++◌, map, length, Option, Some, None, refl, sym, ap, subst, ◌∙◌, arith, inl, inr}
use Rattle.std.specs.Int.{from_bool}
use Rattle.std.specs.List.{flat_map, list_any, AllByRecursion}
use Rattle.std.specs.Str.{bytes_eq}
use Rattle.std.proofs.lemmas.Bool.{cases_Bool, and_parts, and_from, or_parts, or_from, not_from_false, false_from_ne_true, cond-false, eqb-true}
use Rattle.std.proofs.lemmas.Bool.Decides.{not_from_Decides, same_from_decides, Decides-like}
use Rattle.std.proofs.lemmas.List.{append-nil, nil_from_length}
use Rattle.std.proofs.lemmas.List.Folds.{flat_map-map, list_any-append}
use Rattle.std.proofs.lemmas.Slice.Eq.{bytes_eq-Decides}
use Rattle.std.proofs.lemmas.Map.Text.{is_eq-slice_cmp}
use Rattle.std.specs.Ordering.{nat_cmp, is_eq}
use Rattle.std.specs.Cmp.Lexicographic.{slice_cmp}
use Rattle.gdi_kinds.specs.Names.{is_name, IsName}
use Rattle.graph_model.specs.Graph.{Name}
use Rattle.graph_model.specs.WellFormed.{AreNames}
use Rattle.holder_codec.specs.declared.type_line.TypeLine.{TypeLine}
use Rattle.holder_codec.specs.declared.meta_holder.MetaHolder.{MetaHolder}
use Rattle.holder_codec.specs.Values.{kind_code}
use Rattle.holder_codec.specs.Holders.{name_words, type_words}
use Rattle.holder_codec.specs.Meta.{type_of, line_words, meta_words, TypeFits, IsMetaHolder}
use Rattle.holder_codec.specs.Reading.{IsWords, ◌>>=◌, number_at, bytes_at, bool_of, kind_of_code, many_at, name_at, type_at, are_distinct, stand_once, meta_of_words}
use Rattle.holder_codec.proofs.ReadLaws.{IsWords-rest, bind_some, bind_then, guard_some, some_is, Reads, one_word, numbers, many_takes, many_again}
use Rattle.holder_codec.proofs.TextLaws.{bytes_takes, bytes_again}
use Rattle.holder_codec.proofs.ValueLaws.{bool_of_is, bool_of_again, kind_of_code_is, kind_of_code_again, code_below}
use Rattle.holder_codec.proofs.Telling.{IsBytes-name, AreNames-each}

-- ---- names and types

name_takes : (words : List ℕ) (x : List ℕ × List ℕ) → IsWords words → name_at words ≡ Some x → (words ≡ name_words x.0 ++ x.1) × IsName x.0
unfolding name_at
name_takes words x fits e =
    let a = bind_some (number_at words) (λ size. bytes_at size.0 size.1 >>= λ bytes. cond (is_name bytes.0) (Some bytes) None) x e in
    let b = bind_some (bytes_at a.0.0 a.0.1) (λ bytes. cond (is_name bytes.0) (Some bytes) None) x a.2 in
    let g = guard_some (is_name b.0.0) b.0 x b.2 in
    let head = numbers.takes words a.0 fits a.1 in
    let t = bytes_takes a.0.0 a.0.1 b.0 (IsWords-rest words (one_word a.0.0) a.0.1 head.0 fits) b.1 in
    subst (λ (y : List ℕ × List ℕ). (words ≡ name_words y.0 ++ y.1) × IsName y.0) g.1 (head.0 ∙ (λ i. sym t.1 i ∷ t.0 i), g.0)

name_again : (name : List ℕ) (rest : List ℕ) → IsName name → name_at (name_words name ++ rest) ≡ Some (name, rest)
unfolding name_at
name_again name rest is = rw (bytes_again name rest (IsBytes-name name is), is) refl

pub names : Reads name_at name_words IsName
names = record { takes = name_takes; again = name_again }

type_takes : (words : List ℕ) (x : TypeLine × List ℕ) → IsWords words → type_at words ≡ Some x → (words ≡ line_words x.0 ++ x.1) × TypeFits x.0
unfolding type_at
type_takes words x fits e =
    bind_then (number_at words) (λ head. bool_of (head.0 / 4) >>= λ many. kind_of_code (head.0 % 4) >>= λ kind. name_at head.1 >>= λ name. Some (record { name = name.0; kind = kind; many = many }, name.1)) x e (λ head h0 e0.
    bind_then (bool_of (head.0 / 4)) (λ many. kind_of_code (head.0 % 4) >>= λ kind. name_at head.1 >>= λ name. Some (record { name = name.0; kind = kind; many = many }, name.1)) x e0 (λ many h1 e1.
    bind_then (kind_of_code (head.0 % 4)) (λ kind. name_at head.1 >>= λ name. Some (record { name = name.0; kind = kind; many = many }, name.1)) x e1 (λ kind h2 e2.
    bind_then (name_at head.1) (λ name. Some (record { name = name.0; kind = kind; many = many }, name.1)) x e2 (λ name h3 e3.
    let first = numbers.takes words head fits h0 in
    let second = name_takes head.1 name (IsWords-rest words (one_word head.0) head.1 first.0 fits) h3 in
    let word : head.0 ≡ kind_code kind + 4 * from_bool many = omega (arith, bool_of_is (head.0 / 4) many h1, kind_of_code_is (head.0 % 4) kind h2) in
    let made : TypeLine × List ℕ = (record { name = name.0; kind = kind; many = many }, name.1) in
    subst (λ (y : TypeLine × List ℕ). (words ≡ line_words y.0 ++ y.1) × TypeFits y.0) (some_is made x e3) (first.0 ∙ (λ i. word i ∷ second.0 i), second.1)))))

marked_word : (k : ℕ) (many : Bool) → k < 4 → ((k + 4 * from_bool many) / 4 ≡ from_bool many) × ((k + 4 * from_bool many) % 4 ≡ k)
marked_word k true lt = (omega arith, omega arith)
marked_word k false lt = (omega arith, omega arith)

type_again : (line : TypeLine) (rest : List ℕ) → TypeFits line → type_at (line_words line ++ rest) ≡ Some (line, rest)
unfolding type_at
type_again line rest is =
    let parts = marked_word (kind_code line.kind) line.many (code_below line.kind) in
    rw (parts.0, parts.1, bool_of_again line.many, kind_of_code_again line.kind, name_again line.name rest is) refl

pub types : Reads type_at line_words TypeFits
types = record { takes = type_takes; again = type_again }

-- ---- no name stands twice

pub from_not : (b : Bool) → not b ≡ true → b ≡ false
from_not true is = absurd cc
from_not false is = refl

pub from_not_false : (b : Bool) → not b ≡ false → b ≡ true
from_not_false true is = refl
from_not_false false is = absurd cc

and_false : (b : Bool) → (b && false) ≡ false
and_false true = refl
and_false false = refl

is_itself : (name : Name) → bytes_eq name name ≡ true
is_itself name = (bytes_eq-Decides name name).1 refl

apart_from : (name : Name) (names : List Name) → list_any (bytes_eq name) names ≡ false → AllByRecursion (λ other. other ≢ name) names
apart_from name [] none = tt
apart_from name (other ∷ others) none =
    let parts = or_parts (bytes_eq name other) (list_any (bytes_eq name) others) none in
    (λ same. not_from_Decides (bytes_eq name other) (bytes_eq-Decides name other) parts.0 (sym same), apart_from name others parts.1)

none_alike : (name : Name) (names : List Name) → AllByRecursion (λ other. other ≢ name) names → list_any (bytes_eq name) names ≡ false
none_alike name [] apart = refl
none_alike name (other ∷ others) apart =
    or_from (bytes_eq name other) (list_any (bytes_eq name) others)
    (false_from_ne_true (bytes_eq name other) (λ same. apart.0 (sym ((bytes_eq-Decides name other).0 same)))) (none_alike name others apart.1)

pub AreNames-from : (names : List Name) → AllByRecursion IsName names → are_distinct names ≡ true → AreNames names
AreNames-from [] each once = tt
AreNames-from (name ∷ names) each once =
    let parts = and_parts (not (list_any (bytes_eq name) names)) (are_distinct names) once in
    (each.0, apart_from name names (from_not (list_any (bytes_eq name) names) parts.0), AreNames-from names each.1 parts.1)

pub distinct-from : (names : List Name) → AreNames names → are_distinct names ≡ true
distinct-from [] are = refl
distinct-from (name ∷ names) are =
    and_from (not (list_any (bytes_eq name) names)) (are_distinct names) (not_from_false (list_any (bytes_eq name) names) (none_alike name names are.1)) (distinct-from names are.2)

any_there : (name : Name) (names more : List Name) → list_any (bytes_eq name) (names ++ name ∷ more) ≡ true
any_there name [] more = ap (λ b. b || list_any (bytes_eq name) more) (is_itself name)
any_there name (other ∷ others) more = elim (bytes_eq name other) as (λ b. (b || list_any (bytes_eq name) (others ++ name ∷ more)) ≡ true) [ true ↦ refl | false ↦ any_there name others more ]

-- a name that stood before, and one that didn't
pub repeated : (name : Name) (names more : List Name) → list_any (bytes_eq name) names ≡ true → are_distinct (names ++ name ∷ more) ≡ false
repeated name [] more is = absurd cc
repeated name (other ∷ others) more is =
    let rest = others ++ name ∷ more in
    elim (cases_Bool (bytes_eq name other)) [
      | inl same ↦
          let there : list_any (bytes_eq other) rest ≡ true = subst (λ (n : Name). list_any (bytes_eq n) rest ≡ true) ((bytes_eq-Decides name other).0 same) (any_there name others more) in
          ap (λ b. not b && are_distinct rest) there
      | inr apart ↦
          let later : list_any (bytes_eq name) others ≡ true = sym (ap (λ b. b || list_any (bytes_eq name) others) apart) ∙ is in
          ap (λ b. not (list_any (bytes_eq other) rest) && b) (repeated name others more later) ∙ and_false (not (list_any (bytes_eq other) rest))
    ]

pub one_more : (name : Name) (names : List Name) → list_any (bytes_eq name) names ≡ false → are_distinct names ≡ true → are_distinct (names ++ name ∷ []) ≡ true
one_more name [] none once = refl
one_more name (other ∷ others) none once =
    let parts = and_parts (not (list_any (bytes_eq other) others)) (are_distinct others) once in
    let apart = or_parts (bytes_eq name other) (list_any (bytes_eq name) others) none in
    let turned : bytes_eq other name ≡ false = false_from_ne_true (bytes_eq other name) (λ same. not_from_Decides (bytes_eq name other) (bytes_eq-Decides name other) apart.0 (sym ((bytes_eq-Decides other name).0 same))) in
    let fresh : list_any (bytes_eq other) (others ++ name ∷ []) ≡ false =
    list_any-append (bytes_eq other) others (name ∷ []) ∙ or_from (list_any (bytes_eq other) others) (bytes_eq other name || false) (from_not (list_any (bytes_eq other) others) parts.0) (or_from (bytes_eq other name) false turned refl) in
    and_from (not (list_any (bytes_eq other) (others ++ name ∷ []))) (are_distinct (others ++ name ∷ [])) (not_from_false (list_any (bytes_eq other) (others ++ name ∷ [])) fresh) (one_more name others apart.1 parts.1)

-- a set of names with one more
pub seen_more : (key name : Name) (before : Bool) (names : List Name) → before ≡ list_any (bytes_eq name) names
    → cond (is_eq (slice_cmp nat_cmp key name)) true before ≡ list_any (bytes_eq name) (names ++ key ∷ [])
seen_more key name before names is =
    let turned : bytes_eq key name ≡ bytes_eq name key = same_from_decides (bytes_eq key name) (bytes_eq name key) (bytes_eq-Decides key name) (Decides-like (bytes_eq name key) sym sym (bytes_eq-Decides name key)) in
    let test = is_eq-slice_cmp key name ∙ turned in
    (λ i. cond (test i) true (is i)) ∙ (or_turned (bytes_eq name key) (list_any (bytes_eq name) names) ∙ sym (list_any-append (bytes_eq name) names (key ∷ [])))
  where
    or_turned : (a b : Bool) → cond a true b ≡ (b || (a || false))
    or_turned true true = refl
    or_turned true false = refl
    or_turned false true = refl
    or_turned false false = refl

-- ---- all of the words

pub names_of_lines : (lines : List TypeLine) → map (λ type. type.name) (map type_of lines) ≡ map (λ line. line.name) lines
names_of_lines [] = refl
names_of_lines (line ∷ lines) = ap (λ (names : List Name). line.name ∷ names) (names_of_lines lines)

each_named : (lines : List TypeLine) → AllByRecursion TypeFits lines → AllByRecursion IsName (map (λ line. line.name) lines)
each_named [] each = tt
each_named (line ∷ lines) each = (each.0, each_named lines each.1)

pub each_fits : (lines : List TypeLine) → AreNames (map (λ line. line.name) lines) → AllByRecursion TypeFits lines
each_fits [] are = tt
each_fits (line ∷ lines) are = (are.0, each_fits lines are.2)

pub length-lines : (lines : List TypeLine) → length (map type_of lines) ≡ length lines
length-lines [] = refl
length-lines (line ∷ lines) = ap suc (length-lines lines)

-- the words where there is a name
counted : (meta : MetaHolder) → (eqb (length meta.labels) 0 && eqb (length meta.types) 0) ≡ false
    → meta_words meta ≡ length meta.labels ∷ length meta.types ∷ (flat_map name_words meta.labels ++ flat_map line_words meta.types)
counted meta some =
    let none : (eqb (length meta.labels) 0 && eqb (length (map type_of meta.types)) 0) ≡ false = ap (λ n. eqb (length meta.labels) 0 && eqb n 0) (length-lines meta.types) ∙ some in
    cond-false (eqb (length meta.labels) 0 && eqb (length (map type_of meta.types)) 0) [] (length meta.labels ∷ length (map type_of meta.types) ∷ (flat_map name_words meta.labels ++ flat_map type_words (map type_of meta.types))) none
    ∙ (λ i. length meta.labels ∷ length-lines meta.types i ∷ (flat_map name_words meta.labels ++ flat_map-map type_words type_of meta.types i))

-- what is written
pub written : (meta : MetaHolder) (one two three four : List ℕ) (l : List Name) (t : List TypeLine) → (eqb (length meta.labels) 0 && eqb (length meta.types) 0) ≡ false
    → one ≡ length meta.labels ∷ [] → two ≡ one ++ length meta.types ∷ [] → three ≡ two ++ flat_map name_words l → four ≡ three ++ flat_map line_words t
    → l ≡ meta.labels → t ≡ meta.types → four ≡ meta_words meta
written meta one two three four l t some a b c d same_l same_t =
    d ∙ ((λ i. c i ++ flat_map line_words (same_t i)) ∙ (ap (λ (w : List ℕ). (w ++ flat_map name_words l) ++ flat_map line_words meta.types) (b ∙ ap (λ (w : List ℕ). w ++ length meta.types ∷ []) a)
    ∙ (ap (λ (ls : List Name). length meta.labels ∷ length meta.types ∷ (flat_map name_words ls ++ flat_map line_words meta.types)) same_l ∙ sym (counted meta some))))

abbrev ends : ℕ → ℕ → List Name → List TypeLine × List ℕ → Option MetaHolder
ends labels_n types_n ls ts =
    cond (eqb (length ts.1) 0 && not (eqb labels_n 0 && eqb types_n 0) && stand_once (record { labels = ls; types = ts.0 })) (Some (record { labels = ls; types = ts.0 })) None

pub meta_takes : (words : List ℕ) (meta : MetaHolder) → IsWords words → meta_of_words words ≡ Some meta → IsMetaHolder meta × (words ≡ meta_words meta)
unfolding meta_of_words
meta_takes [] meta fits e = subst (λ (m : MetaHolder). IsMetaHolder m × ([] ≡ meta_words m)) (some_is (record { labels = []; types = [] }) meta e) (record { labels = tt; types = tt }, refl)
meta_takes (word ∷ words) meta fits e =
    bind_then (number_at words) (λ tn. many_at name_at word tn.1 >>= λ ls. many_at type_at tn.0 ls.1 >>= λ ts. ends word tn.0 ls.0 ts) meta e (λ tn h0 e0.
    bind_then (many_at name_at word tn.1) (λ ls. many_at type_at tn.0 ls.1 >>= λ ts. ends word tn.0 ls.0 ts) meta e0 (λ ls h1 e1.
    bind_then (many_at type_at tn.0 ls.1) (λ ts. ends word tn.0 ls.0 ts) meta e1 (λ ts h2 e2.
    let behind = IsWords-rest (word ∷ words) (one_word word) words refl fits in
    let first = numbers.takes words tn behind h0 in
    let fits1 = IsWords-rest words (one_word tn.0) tn.1 first.0 behind in
    let l = many_takes name_at name_words IsName names word tn.1 ls fits1 h1 in
    let t = many_takes type_at line_words TypeFits types tn.0 ls.1 ts (IsWords-rest tn.1 (flat_map name_words ls.0) ls.1 l.0 fits1) h2 in
    let made : MetaHolder = record { labels = ls.0; types = ts.0 } in
    let g = guard_some (eqb (length ts.1) 0 && not (eqb word 0 && eqb tn.0 0) && stand_once made) made meta e2 in
    let a = and_parts (eqb (length ts.1) 0 && not (eqb word 0 && eqb tn.0 0)) (stand_once made) g.0 in
    let b = and_parts (eqb (length ts.1) 0) (not (eqb word 0 && eqb tn.0 0)) a.0 in
    let once = and_parts (are_distinct ls.0) (are_distinct (map (λ line. line.name) ts.0)) a.1 in
    let nothing : ts.1 ≡ [] = nil_from_length ts.1 (eqb-true _ _ b.0) in
    let some : (eqb (length ls.0) 0 && eqb (length ts.0) 0) ≡ false = (λ i. eqb (l.1 i) 0 && eqb (t.1 i) 0) ∙ from_not (eqb word 0 && eqb tn.0 0) b.1 in
    let body : tn.1 ≡ flat_map name_words ls.0 ++ flat_map line_words ts.0 =
    l.0 ∙ ap (λ (r : List ℕ). flat_map name_words ls.0 ++ r) (t.0 ∙ ap (λ (r : List ℕ). flat_map line_words ts.0 ++ r) nothing ∙ append-nil (flat_map line_words ts.0)) in
    let whole : word ∷ words ≡ meta_words made =
    ap (λ (r : List ℕ). word ∷ r) first.0 ∙ ((λ i. sym l.1 i ∷ sym t.1 i ∷ body i) ∙ sym (counted made some)) in
    let is : IsMetaHolder made = record { labels = AreNames-from ls.0 l.2 once.0; types = AreNames-from (map (λ line. line.name) ts.0) (each_named ts.0 t.2) once.1 } in
    subst (λ (m : MetaHolder). IsMetaHolder m × (word ∷ words ≡ meta_words m)) g.1 (is, whole))))

pub meta_again : (meta : MetaHolder) → IsMetaHolder meta → meta_of_words (meta_words meta) ≡ Some meta
unfolding meta_of_words
meta_again meta is = cases (eqb (length meta.labels) 0 && eqb (length meta.types) 0) refl
  where
    cases : (none : Bool) → (eqb (length meta.labels) 0 && eqb (length meta.types) 0) ≡ none → meta_of_words (meta_words meta) ≡ Some meta
    cases true none =
        let parts = and_parts (eqb (length meta.labels) 0) (eqb (length meta.types) 0) none in
        let l : meta.labels ≡ [] = nil_from_length meta.labels (eqb-true _ _ parts.0) in
        let t : meta.types ≡ [] = nil_from_length meta.types (eqb-true _ _ parts.1) in
        let empty : MetaHolder = record { labels = []; types = [] } in
        let same : meta ≡ empty = λ i. record { labels = l i; types = t i } in
        subst (λ (m : MetaHolder). meta_of_words (meta_words m) ≡ Some m) (sym same) refl
    cases false some =
        let l = many_again name_at name_words IsName names meta.labels (flat_map line_words meta.types) (AreNames-each meta.labels is.labels) in
        let t : many_at type_at (length meta.types) (flat_map line_words meta.types) ≡ Some (meta.types, []) =
        ap (many_at type_at (length meta.types)) (sym (append-nil (flat_map line_words meta.types))) ∙ many_again type_at line_words TypeFits types meta.types [] (each_fits meta.types is.types) in
        ap meta_of_words (counted meta some) ∙ rw (l, t, some, distinct-from meta.labels is.labels, distinct-from (map (λ line. line.name) meta.types) is.types) refl

-- where none are read, none are spelled so
pub meta_none : (words : List ℕ) → meta_of_words words ≡ None → (meta : MetaHolder) → IsMetaHolder meta → words ≡ meta_words meta → ⊥
meta_none words none meta is e = let again : meta_of_words words ≡ Some meta = ap meta_of_words e ∙ meta_again meta is in cc
