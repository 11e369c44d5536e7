-- The types of the columns are made.
use Rattle.std.proofs.Common.{◌≡◌, ℕ, Bool, true, false, cond, not, ◌&&◌, ◌||◌, List, [], ◌∷◌, ◌++◌, length, map, Option, Some, is_some, refl, sym, ap, ◌∙◌}
use Rattle.std.specs.List.{AllByRecursion, filter, list_any}
use Rattle.std.specs.Option.{option_map_or}
use Rattle.std.specs.Str.{bytes_eq}
use Rattle.gdi_kinds.specs.Constraint.{same_kind}
use Rattle.gdi_kinds.specs.declared.call.Call.TheVariants.{NewType}
use Rattle.gdi_kinds.specs.declared.reply.Reply.TheVariants as reply
use Rattle.gdi_kinds.specs.declared.value.Kind.{Kind}
use Rattle.gdi_kinds.specs.declared.value.Kind.TheVariants as kind
use Rattle.rma_layout.specs.Shape.{Shape}
use Rattle.graph_model.specs.Maps.{place_where, item_at}
use Rattle.graph_model.specs.Graph.{PropType, Graph}
use Rattle.graph_model.specs.Lookups.{type_number, kind_at, is_marked}
use Rattle.graph_model.specs.Sizes.{words_of_names, is_too_large}
use Rattle.graph_model.proofs.Entries.{never}
use Rattle.bulk_load.specs.declared.column.Column.{Column}
use Rattle.bulk_load.specs.Headers.{are_apart, agrees, same_mark}
use Rattle.bulk_load.specs.Loads.{new_types}
use Rattle.bulk_load.proofs.ApartLemmas.{both, neither, is_not, differ_back}
use Rattle.bulk_load.proofs.PlaceLemmas.{place_pushed, place_stays, place_last, place_item, item_stays, item_last, same_name, or_false, is_there}
use Rattle.bulk_load.proofs.PutLemmas.{HasType}
use Rattle.bulk_load.proofs.SuccessLemmas.{at_end, if_passed, if_room, Go, none_go, first_goes, weaker_go}

same_kind_is : (k l : Kind) → same_kind k l ≡ true → k ≡ l
same_kind_is kind.Int kind.Int is = refl
same_kind_is kind.Bool kind.Bool is = refl
same_kind_is kind.Text kind.Text is = refl
same_kind_is k l is = never is

same_mark_is : (a b : Bool) → same_mark a b ≡ true → a ≡ b
same_mark_is true true is = refl
same_mark_is false false is = refl
same_mark_is a b is = never is

-- a type that a column agrees with is the column's
agreed : (g : Graph) (column : Column) (n : ℕ) (type : PropType) → type_number g column.name ≡ Some n → item_at g.types n ≡ Some type
    → (same_kind (kind_at g n) column.kind && same_mark (is_marked g n) column.many) ≡ true → HasType g.types column
agreed g column n type place item is =
    let split = both (same_kind (kind_at g n) column.kind) (same_mark (is_marked g n) column.many) is in
    record {
      number = n;
      type = type;
      place = place;
      item = item;
      kind = sym (ap (λ (o : Option PropType). option_map_or (λ (t : PropType). t.kind) o kind.Int) item) ∙ same_kind_is (kind_at g n) column.kind split.0;
      many = sym (ap (λ (o : Option PropType). option_map_or (λ (t : PropType). t.many) o false) item) ∙ same_mark_is (is_marked g n) column.many split.1;
    }

type_there : (g : Graph) (column : Column) → agrees g column ≡ true → is_some (type_number g column.name) ≡ true → HasType g.types column
type_there g column is there =
    let number = is_there (type_number g column.name) there in
    let found = place_item (λ (t : PropType). bytes_eq column.name t.name) g.types number.0 number.1 in
    agreed g column number.0 found.0 number.1 found.1
    (sym (ap (λ (o : Option ℕ). option_map_or (λ n. same_kind (kind_at g n) column.kind && same_mark (is_marked g n) column.many) o true) number.1) ∙ is)

type_stays : (types more : List PropType) (column : Column) → HasType types column → HasType (types ++ more) column
type_stays types more column known = record {
  number = known.number;
  type = known.type;
  place = place_stays (λ (t : PropType). bytes_eq column.name t.name) types more known.number known.place;
  item = item_stays types more known.number known.type known.item;
  kind = known.kind;
  many = known.many;
}

abbrev type_of : Column → PropType
type_of column = record { name = column.name; kind = column.kind; many = column.many }

type_now : (types : List PropType) (column : Column) → is_some (place_where (λ (t : PropType). bytes_eq column.name t.name) types) ≡ false → HasType (types ++ type_of column ∷ []) column
type_now types column none = record {
  number = length types;
  type = type_of column;
  place = place_last (λ (t : PropType). bytes_eq column.name t.name) types (type_of column) none (same_name column.name);
  item = item_last types (type_of column);
  kind = refl;
  many = refl;
}

-- a graph with a type more
abbrev typed_too : Graph → PropType → Graph
typed_too g type = record g { types = g.types ++ type ∷ [] }

-- the type of a column is there as it was at the start, where it was
pub record IsAsBefore (start g : Graph) (column : Column) : Type 0 where
  pub there : is_some (type_number start column.name) ≡ true → HasType g.types column
  pub none : is_some (type_number start column.name) ≡ false → is_some (type_number g column.name) ≡ false

abbrev name_of : Column → List ℕ
name_of column = column.name

as_before : (start g : Graph) (column : Column) (columns : List Column) → list_any (bytes_eq column.name) (map name_of columns) ≡ false
    → AllByRecursion (IsAsBefore start g) columns → AllByRecursion (IsAsBefore start (typed_too g (type_of column))) columns
as_before start g column [] none all = tt
as_before start g column (other ∷ columns) none all =
    let split = neither (bytes_eq column.name other.name) (list_any (bytes_eq column.name) (map name_of columns)) none in
    let same : is_some (type_number (typed_too g (type_of column)) other.name) ≡ is_some (type_number g other.name) =
    place_pushed (λ (t : PropType). bytes_eq other.name t.name) g.types (type_of column)
    ∙ ap (λ (b : Bool). is_some (type_number g other.name) || b) (differ_back column.name other.name split.0) ∙ or_false (is_some (type_number g other.name)) in (
      record { there = λ is. type_stays g.types (type_of column ∷ []) other (all.0.there is); none = λ is. same ∙ all.0.none is },
      as_before start g column columns split.1 all.1,
    )

-- what holds before, and of a graph with a type more too, holds behind new types, and the columns' types are there
pub new_types_go : (shape : Shape) (start : Graph) (columns : List Column) (Base : Graph → Type 0) → ((g : Graph) (type : PropType) → Base g → Base (typed_too g type)) → are_apart (map name_of columns) ≡ true
    → Go shape (λ g. Base g × AllByRecursion (IsAsBefore start g) columns) (new_types start columns) (λ g. Base g × AllByRecursion (HasType g.types) columns)
new_types_go shape start [] Base keeps apart = none_go shape (λ g. Base g × Unit {0})
new_types_go shape start (column ∷ columns) Base keeps apart =
    let split = both (not (list_any (bytes_eq column.name) (map name_of columns))) (are_apart (map name_of columns)) apart in
    let none = is_not (list_any (bytes_eq column.name) (map name_of columns)) split.0 in
    let Known : Graph → Type 0 = λ g. Base g × HasType g.types column in
    let After : Graph → Type 0 = λ g. Base g × (HasType g.types column × AllByRecursion (HasType g.types) columns) in
    let rest : Go shape (λ g. Known g × AllByRecursion (IsAsBefore start g) columns) (new_types start columns) After =
    weaker_go shape (λ g. Known g × AllByRecursion (IsAsBefore start g) columns) (λ g. Known g × AllByRecursion (IsAsBefore start g) columns) (λ g. Known g × AllByRecursion (HasType g.types) columns) After (new_types start columns)
    (λ g holds. holds) (λ g holds. (holds.0.0, (holds.0.1, holds.1)))
    (new_types_go shape start columns Known (λ g type holds. (keeps g type holds.0, type_stays g.types (type ∷ []) column holds.1)) split.1) in
    elim (is_some (type_number start column.name)) as (λ b. is_some (type_number start column.name) ≡ b → Go shape (λ g. Base g × (IsAsBefore start g column × AllByRecursion (IsAsBefore start g) columns))
    (map (λ (c : Column). NewType c.name c.kind c.many) (cond (not b) (column ∷ filter (λ (c : Column). not (is_some (type_number start c.name))) columns) (filter (λ (c : Column). not (is_some (type_number start c.name))) columns)))
    After) [
      | true ↦ λ is. weaker_go shape (λ g. Known g × AllByRecursion (IsAsBefore start g) columns) _ After After (new_types start columns) (λ g holds. ((holds.0, holds.1.0.there is), holds.1.1)) (λ g holds. holds) rest
      | false ↦ λ is. first_goes shape _ (λ g. Known g × AllByRecursion (IsAsBefore start g) columns) After (NewType column.name column.kind column.many) (new_types start columns)
          (λ g holds.
          let Q : Graph → Type 0 = λ h. Known h × AllByRecursion (IsAsBefore start h) columns in
          if_passed Q g (is_some (type_number g column.name)) reply.Exists _ (holds.1.0.none is)
          (if_room Q g (is_too_large (words_of_names (typed_too g (type_of column)))) _
          (at_end Q g (typed_too g (type_of column)) reply.Done refl ((keeps g (type_of column) holds.0, type_now g.types column (holds.1.0.none is)), as_before start g column columns none holds.1.1))))
          rest
    ] refl

-- at the start
pub as_at_start : (g : Graph) (columns : List Column) → AllByRecursion (λ (column : Column). agrees g column ≡ true) columns → AllByRecursion (IsAsBefore g g) columns
as_at_start g [] all = tt
as_at_start g (column ∷ columns) all = (record { there = type_there g column all.0; none = λ is. is }, as_at_start g columns all.1)
