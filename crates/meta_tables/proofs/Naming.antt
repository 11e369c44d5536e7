-- The names of a store.
use Rattle.std.proofs.Common.{◌≡◌, ◌≢◌, ◌∙◌, ℕ, ◌+◌, ◌^◌, ◌≤◌, ◌<◌, suc, Bool, true, false, cond, not, ◌||◌, List, [], ◌∷◌, ◌++◌, map, length, Option, Some, None, refl, sym, ap, subst, arith, inl, inr, zero, lt-ltb}
use Rattle.std.specs.Prelude.{is_some}
use Rattle.std.specs.Option.{option_map}
use Rattle.std.specs.List.{list_any, position, position_from, slice_get, AllByRecursion}
use Rattle.std.proofs.lemmas.Bool.{cases_Bool, cond-true, cond-false}
use Rattle.std.proofs.lemmas.List.{map-append}
use Rattle.std.proofs.lemmas.Iterator.Adapters.{position_from-zero}
use Rattle.std.specs.Str.{bytes_eq}
use Rattle.gdi_kinds.specs.Names.{IsName}
use Rattle.rma_layout.specs.Shape.{Shape}
use Rattle.rma_layout.specs.Placement.{Place, metadata}
use Rattle.object_words.specs.Contents.{Contents, IsByRisingObject, overlay}
use Rattle.graph_model.specs.Graph.{Name, Graph}
use Rattle.graph_model.specs.Graph as graph
use Rattle.graph_model.specs.Maps.{place_where}
use Rattle.graph_model.specs.WellFormed.{AreNames}
use Rattle.graph_model.specs.Sizes.{most_words}
use Rattle.object_store.specs.State.{StoreState}
use Rattle.object_store.specs.Works.{Looks, Reaches}
use Rattle.holder_codec.specs.declared.type_line.TypeLine.{TypeLine}
use Rattle.holder_codec.specs.declared.meta_holder.MetaHolder.{MetaHolder}
use Rattle.holder_codec.specs.Meta.{IsMetaHolder, meta_words, type_of}
use Rattle.holder_codec.specs.Reading.{are_distinct, meta_of_words}
use Rattle.holder_codec.specs.Represents.{Represents}
use Rattle.holder_codec.specs.Holders.{names_words}
use Rattle.holder_codec.proofs.ReadLaws.{some_is}
use Rattle.holder_codec.proofs.MetaLaws.{AreNames-from, distinct-from, one_more, names_of_lines, length-lines, meta_again}
use Rattle.holder_codec.proofs.Telling.{AreNames-each, names_within}
use Rattle.holder_codec.proofs.Maps.{All-append}
use Rattle.held_objects.specs.Knows.{Knows}
use Rattle.held_objects.specs.Changes.{Holds, any}
use Rattle.held_objects.specs.declared.change.Change.TheVariants.{Refused, Made}
use Rattle.gdi_kinds.specs.declared.reply.Reply.TheVariants.{Exists}
use Rattle.held_objects.proofs.Knows.{still_elsewhere}
use Rattle.held_objects.proofs.Changes.{part_looks_at, read_such}
use Rattle.held_objects.specs.Held.{FindsHolder}
use Rattle.std.specs.Option.{IfSome}
use Rattle.meta_tables.specs.declared.prop_type.PropType.{PropType}
use Rattle.meta_tables.specs.Names.{HasNames, KnowsNames, label_number, type_number, new_label, new_type, names_of, is_label, is_type, IsTypeOf}

pub meta_same : (one other : MetaHolder) → IsMetaHolder one → IsMetaHolder other → meta_words one ≡ meta_words other → one ≡ other
meta_same one other f g e = some_is one other (sym (meta_again one f) ∙ (ap meta_of_words e ∙ meta_again other g))

-- ---- numbers

from_place : {X : Type 0} (p : X → Bool) (i : ℕ) (xs : List X) → position_from p i xs ≡ option_map (λ k. i + k) (place_where p xs)
from_place p i [] = refl
from_place p i (x ∷ xs) =
    elim (p x) as (λ b. cond b (Some i) (position_from p (i + 1) xs) ≡ option_map (λ k. i + k) (cond b (Some 0) (option_map suc (place_where p xs)))) [
      | true ↦ ap (λ (k : ℕ). Some k) (omega arith)
      | false ↦ from_place p (i + 1) xs ∙ later (place_where p xs)
    ]
  where
    later : (o : Option ℕ) → option_map (λ k. i + 1 + k) o ≡ option_map (λ k. i + k) (option_map suc o)
    later (Some k) = ap (λ (n : ℕ). Some n) (omega arith)
    later None = refl

same_place : (o : Option ℕ) → option_map (λ k. 0 + k) o ≡ o
same_place (Some k) = ap (λ (n : ℕ). Some n) (omega arith)
same_place None = refl

-- the first place, as the code finds it
pub place_is : {X : Type 0} (p : X → Bool) (xs : List X) → position p xs ≡ place_where p xs
place_is p xs = position_from-zero p xs ∙ (from_place p 0 xs ∙ same_place (place_where p xs))

un_suc : (o : Option ℕ) (n : ℕ) → option_map suc o ≡ Some (suc n) → o ≡ Some n
un_suc (Some k) n e = let s : suc k ≡ suc n = cc in ap (λ (m : ℕ). Some m) (omega (arith, s))
un_suc None n e = absurd cc

not_zero : (o : Option ℕ) → option_map suc o ≡ Some 0 → ⊥
not_zero (Some k) e = let s : suc k ≡ 0 = cc in omega (arith, s)
not_zero None e = cc

not_suc : (n : ℕ) → Some 0 ≡ Some (suc n) → ⊥
not_suc n e = let s : 0 ≡ suc n = cc in omega (arith, s)

some_same : {X : Type 0} (x y : X) → Some x ≡ Some y → x ≡ y
some_same x y is = cc is

-- what stands at that place passes
pub found_there : {X : Type 0} (p : X → Bool) (xs : List X) (n : ℕ) → place_where p xs ≡ Some n → (n < length xs) × ((x : X) → slice_get xs n ≡ Some x → p x ≡ true)
found_there p [] n found = absurd cc
found_there p (x ∷ xs) zero found =
    elim (cases_Bool (p x)) [
      | inl here ↦ (omega arith, λ y there. ap p (sym (some_same x y there)) ∙ here)
      | inr apart ↦ absurd (not_zero (place_where p xs) (sym (ap (λ b. cond b (Some 0) (option_map suc (place_where p xs))) apart) ∙ found))
    ]
found_there p (x ∷ xs) (suc n) found =
    elim (cases_Bool (p x)) [
      | inl here ↦ absurd (not_suc n (sym (ap (λ b. cond b (Some 0) (option_map suc (place_where p xs))) here) ∙ found))
      | inr apart ↦
          let rest = found_there p xs n (un_suc (place_where p xs) n (sym (ap (λ b. cond b (Some 0) (option_map suc (place_where p xs))) apart) ∙ found)) in
          (omega (arith, rest.0), rest.1)
    ]

pub few_labels : (meta : MetaHolder) → length (meta_words meta) ≤ most_words → length meta.labels < 2 ^ 32
few_labels meta few = omega (arith, few, (names_within meta.labels (map type_of meta.types)).0)

pub few_types : (meta : MetaHolder) → length (meta_words meta) ≤ most_words → length meta.types < 2 ^ 32
few_types meta few = omega (arith, few, (names_within meta.labels (map type_of meta.types)).1, length-lines meta.types)

-- ---- one name more

any_is : {X : Type 0} (p : X → Bool) (xs : List X) → is_some (place_where p xs) ≡ list_any p xs
any_is p [] = refl
any_is p (x ∷ xs) =
    elim (p x) as (λ b. is_some (cond b (Some 0) (option_map suc (place_where p xs))) ≡ (b || list_any p xs)) [
      | true ↦ refl
      | false ↦ is_some-map (place_where p xs) ∙ any_is p xs
    ]
  where
    is_some-map : (o : Option ℕ) → is_some (option_map suc o) ≡ is_some o
    is_some-map (Some k) = refl
    is_some-map None = refl

names_with : (names : List Name) (name : Name) → AreNames names → IsName name → list_any (bytes_eq name) names ≡ false → AreNames (names ++ name ∷ [])
names_with names name are is none =
    AreNames-from (names ++ name ∷ []) (All-append IsName names (name ∷ []) (AreNames-each names are) (is, tt)) (one_more name names none (distinct-from names are))

any-lines : (name : Name) (lines : List TypeLine) → list_any (bytes_eq name) (map (λ line. line.name) lines) ≡ list_any (λ line. bytes_eq name line.name) lines
any-lines name [] = refl
any-lines name (line ∷ lines) = ap (λ b. bytes_eq name line.name || b) (any-lines name lines)

module _ (meta : MetaHolder) (name : Name) where
  pub old_label : is_some (label_number name meta) ≡ true → Refused Exists ≡ new_label name meta
  old_label there = sym (cond-true (is_some (label_number name meta)) (Refused Exists) (Made (record meta { labels = meta.labels ++ name ∷ [] })) there)

  module _ (labels : List Name) (none : is_some (label_number name meta) ≡ false) (longer : labels ≡ meta.labels ++ name ∷ []) where
    pub label_made : Made (record { labels = labels; types = meta.types }) ≡ new_label name meta
    label_made =
        ap (λ (ls : List Name). Made (record meta { labels = ls })) longer
        ∙ sym (cond-false (is_some (label_number name meta)) (Refused Exists) (Made (record meta { labels = meta.labels ++ name ∷ [] })) none)

    pub label_holder : IsName name → IsMetaHolder meta → IsMetaHolder (record { labels = labels; types = meta.types })
    label_holder is holder = record {
      labels = subst AreNames (sym longer) (names_with meta.labels name holder.labels is (sym (any_is (bytes_eq name) meta.labels) ∙ none));
      types = holder.types;
    }

module _ (meta : MetaHolder) (line : TypeLine) where
  pub old_type : is_some (type_number line.name meta) ≡ true → Refused Exists ≡ new_type line meta
  old_type there = sym (cond-true (is_some (type_number line.name meta)) (Refused Exists) (Made (record meta { types = meta.types ++ line ∷ [] })) there)

  module _ (types : List TypeLine) (none : is_some (type_number line.name meta) ≡ false) (longer : types ≡ meta.types ++ line ∷ []) where
    pub type_made : Made (record { labels = meta.labels; types = types }) ≡ new_type line meta
    type_made =
        ap (λ (ts : List TypeLine). Made (record meta { types = ts })) longer
        ∙ sym (cond-false (is_some (type_number line.name meta)) (Refused Exists) (Made (record meta { types = meta.types ++ line ∷ [] })) none)

    pub type_holder : IsName line.name → IsMetaHolder meta → IsMetaHolder (record { labels = meta.labels; types = types })
    type_holder is holder = record {
      labels = holder.labels;
      types = subst (λ (ts : List TypeLine). AreNames (map (λ one. one.name) ts)) (sym longer)
          (subst AreNames (sym (map-append (λ (one : TypeLine). one.name) meta.types (line ∷ [])))
          (names_with (map (λ one. one.name) meta.types) line.name holder.types is (any-lines line.name meta.types ∙ (sym (any_is (λ one. bytes_eq line.name one.name) meta.types) ∙ none))));
    }

-- ---- the names of a graph

types-back : (types : List graph.PropType) → map type_of (map (λ type. record { name = type.name; kind = type.kind; many = type.many }) types) ≡ types
types-back [] = refl
types-back (type ∷ types) = ap (λ (ts : List graph.PropType). type ∷ ts) (types-back types)

names-back : (types : List graph.PropType) → map (λ line. line.name) (map type_of (map (λ type. record { name = type.name; kind = type.kind; many = type.many }) types)) ≡ map (λ type. type.name) types
names-back types = ap (λ (ts : List graph.PropType). map (λ type. type.name) ts) (types-back types)

pub represents_names : (shape : Shape) (store : Contents) (g : Graph) → Represents shape store g → HasNames store (names_of g)
represents_names shape store g is =
    let words = is.represented.names ∙ ap (names_words g.labels) (sym (types-back g.types)) in
    record {
      fits = tt;
      holder = record { labels = is.well_formed.labels; types = subst AreNames (sym (names-back g.types) ∙ names_of_lines (names_of g).types) is.well_formed.types };
      words = words;
      within = is.represented.within metadata;
    }

pub names_at_first : {N : Type 0} {state : StoreState N} → state.writes ≡ [] → KnowsNames any state
names_at_first {N} {state} none = record {
  always = λ store may. record {
    part = names_of may.graph;
    has = subst (λ (writes : Contents). HasNames (overlay store writes) (names_of may.graph)) (sym none) (represents_names state.shape store may.graph may.represents);
    passed = refl;
  };
  ordered = subst IsByRisingObject (sym none) refl;
}

pub names_elsewhere : {N : Type 0} {passes : MetaHolder → Bool} {old new : StoreState N} {Reached : Place → Type 0} {Makes : ℕ → Type 0} → (Reached metadata → ⊥)
    → Reaches Reached Makes old new → IsByRisingObject new.writes → KnowsNames passes old → KnowsNames passes new
names_elsewhere {passes = passes} {Reached = Reached} apart = still_elsewhere (part_looks_at passes) (λ place is reached. apart (subst Reached is reached))

-- ---- numbers that are in use

module _ {N : Type 0} {old new : StoreState N} {meta : MetaHolder} (read : FindsHolder IsMetaHolder meta_words metadata old new meta) (known : KnowsNames any old) where
  pub label_known : (name : Name) (found : Option ℕ) → found ≡ label_number name meta → IfSome found (λ number. KnowsNames (is_label number) new)
  label_known name None is = tt
  label_known name (Some n) is =
      read_such (λ meta. meta) (λ _. Unit {0}) meta_same read (is_label n) known (λ one _ same.
      lt-ltb n (length one.labels) (found_there (bytes_eq name) one.labels n (sym (is ∙ ap (label_number name) same))).0)

  pub type_known : (name : Name) (found : Option PropType) → IsTypeOf name found meta → IfSome found (λ type. KnowsNames (is_type type.number) new)
  type_known name None is = tt
  type_known name (Some type) is =
      read_such (λ meta. meta) (λ _. Unit {0}) meta_same read (is_type type.number) known (λ one _ same.
      lt-ltb type.number (length one.types) (found_there (λ line. bytes_eq name line.name) one.types type.number (sym (ap (type_number name) same) ∙ is.0)).0)
