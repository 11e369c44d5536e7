-- Labels and properties by their names, one after the other.
use Rattle.std.proofs.Common.{◌≡◌, ◌∙◌, ℕ, zero, suc, ◌+◌, ◌<◌, Bool, List, [], ◌∷◌, ◌++◌, length, map, take, Some, refl, sym, ap, subst, arith}
use Rattle.std.specs.Prelude.{IsSomeAnd}
use Rattle.std.specs.List.{AllByRecursion, flat_map, slice_get}
use Rattle.std.specs.Option.{option_map_or, unwrap_or}
use Rattle.std.proofs.lemmas.List.{map-append}
use Rattle.gdi_kinds.specs.declared.value.Value.{Value}
use Rattle.gdi_kinds.specs.declared.prop_line.PropLine.{PropLine}
use Rattle.graph_model.specs.Graph.{Name, PropType, Props}
use Rattle.graph_model.specs.Lookups.{lines_of_values}
use Rattle.graph_model.specs.Maps.{item_at}
use Rattle.graph_model.specs.WellFormed.{AreValues}
use Rattle.holder_codec.specs.declared.held_prop.HeldProp.{HeldProp}
use Rattle.holder_codec.specs.declared.type_line.TypeLine.{TypeLine}
use Rattle.holder_codec.specs.Holders.{held_props, held_values, is_marked_in}
use Rattle.holder_codec.proofs.Maps.{All-append}

-- ---- items at their places

item_there : {X Y : Type 0} (f : X → Y) (d : Y) (x : X) (xs : List X) (n : ℕ) → slice_get xs n ≡ Some x → option_map_or f (item_at xs n) d ≡ f x
item_there f d x [] n never = absurd cc
item_there f d x (y ∷ ys) zero is = let same : y ≡ x = cc in ap f same
item_there f d x (y ∷ ys) (suc n) is = item_there f d x ys n is

item_or : {X : Type 0} (d x : X) (xs : List X) (n : ℕ) → slice_get xs n ≡ Some x → unwrap_or (item_at xs n) d ≡ x
item_or d x [] n never = absurd cc
item_or d x (y ∷ ys) zero is = cc
item_or d x (y ∷ ys) (suc n) is = item_or d x ys n is

one_longer : {X Y : Type 0} (f : X → Y) (x : X) (xs : List X) (n : ℕ) → slice_get xs n ≡ Some x → map f (take (suc n) xs) ≡ map f (take n xs) ++ f x ∷ []
one_longer f x [] n never = absurd cc
one_longer f x (y ∷ ys) zero is = let same : y ≡ x = cc in ap (λ z. f z ∷ []) same
one_longer f x (y ∷ ys) (suc n) is = ap (λ zs. f y ∷ zs) (one_longer f x ys n is)

pub each_there : {X : Type 0} (P : X → Type 0) (xs : List X) (place : ℕ) (x : X) → AllByRecursion P xs → slice_get xs place ≡ Some x → P x
each_there P [] place x all never = absurd cc
each_there P (y ∷ ys) zero x all is = let same : y ≡ x = cc in subst P same all.0
each_there P (y ∷ ys) (suc place) x all is = each_there P ys place x all.1 is

-- one item more is shown
pub shown_more : {X Y : Type 0} (f : X → Y) (xs : List X) (place : ℕ) (x : X) (y : Y) (shown longer : List Y) → shown ≡ map f (take place xs) → slice_get xs place ≡ Some x → f x ≡ y
    → longer ≡ shown ++ y ∷ [] → longer ≡ map f (take (place + 1) xs)
shown_more f xs place x y shown longer so_far there is pushed =
    let next : place + 1 ≡ suc place = omega arith in
    pushed ∙ (ap (λ ys. ys ++ y ∷ []) so_far ∙ (ap (λ z. map f (take place xs) ++ z ∷ []) (sym is) ∙ (sym (one_longer f x xs place there) ∙ ap (λ n. map f (take n xs)) (sym next))))

-- ---- labels

abbrev pub name_in : List Name → ℕ → Name
name_in names n = unwrap_or (item_at names n) []

pub named_more : (names : List Name) (labels : List ℕ) (place label : ℕ) (name : Name) (shown longer : List Name) → shown ≡ map (name_in names) (take place labels) → slice_get labels place ≡ Some label
    → slice_get names label ≡ Some name → longer ≡ shown ++ name ∷ [] → longer ≡ map (name_in names) (take (place + 1) labels)
named_more names labels place label name shown longer so_far there is pushed = shown_more (name_in names) labels place label name shown longer so_far there (item_or [] name names label is) pushed

-- ---- properties

abbrev pub line_in : List TypeLine → HeldProp → PropLine
line_in types prop = record { name = option_map_or (λ type. type.name) (item_at types prop.number) []; value = prop.value }

pub lined_more : (types : List TypeLine) (props : List HeldProp) (place : ℕ) (prop : HeldProp) (type : TypeLine) (line : PropLine) (shown longer : List PropLine)
    → shown ≡ map (line_in types) (take place props) → slice_get props place ≡ Some prop → slice_get types prop.number ≡ Some type → line.name ≡ type.name → line.value ≡ prop.value
    → longer ≡ shown ++ line ∷ [] → longer ≡ map (line_in types) (take (place + 1) props)
lined_more types props place prop type line shown longer so_far there is name value pushed =
    let named = item_there (λ (t : TypeLine). t.name) [] type types prop.number is ∙ sym name in
    shown_more (line_in types) props place prop line shown longer so_far there (λ i. record { name = named i; value = sym value i }) pushed

type_name : (types : List PropType) (n : ℕ)
    → option_map_or (λ (line : TypeLine). line.name) (item_at (map (λ type. record { name = type.name; kind = type.kind; many = type.many }) types) n) [] ≡ option_map_or (λ (type : PropType). type.name) (item_at types n) []
type_name [] n = refl
type_name (type ∷ types) zero = refl
type_name (type ∷ types) (suc n) = type_name types n

abbrev line_of : List PropType → HeldProp → PropLine
line_of types prop = record { name = option_map_or (λ type. type.name) (item_at types prop.number) []; value = prop.value }

same_lines : (types : List PropType) (props : List HeldProp)
    → map (line_in (map (λ type. record { name = type.name; kind = type.kind; many = type.many }) types)) props ≡ map (line_of types) props
same_lines types [] = refl
same_lines types (prop ∷ props) =
    ap (λ (n : Name). record { name = n; value = prop.value } ∷ map (line_in (map (λ type. record { name = type.name; kind = type.kind; many = type.many }) types)) props) (type_name types prop.number)
    ∙ ap (λ (ls : List PropLine). line_of types prop ∷ ls) (same_lines types props)

values_lined : (types : List PropType) (n : ℕ) (many : Bool) (values : List Value)
    → map (line_of types) (held_values n many values) ≡ lines_of_values (option_map_or (λ type. type.name) (item_at types n) []) values
values_lined types n many [] = refl
values_lined types n many (value ∷ values) = ap (λ (ls : List PropLine). record { name = option_map_or (λ type. type.name) (item_at types n) []; value = value } ∷ ls) (values_lined types n many values)

props_lined : (types : List PropType) (props : Props)
    → map (line_of types) (held_props types props) ≡ flat_map (λ entry. lines_of_values (option_map_or (λ type. type.name) (item_at types entry.0) []) entry.1) props
props_lined types [] = refl
props_lined types (entry ∷ entries) =
    map-append (line_of types) (held_values entry.0 (is_marked_in types entry.0) entry.1) (held_props types entries)
    ∙ (ap (λ (ls : List PropLine). ls ++ map (line_of types) (held_props types entries)) (values_lined types entry.0 (is_marked_in types entry.0) entry.1)
    ∙ ap (λ (ls : List PropLine). lines_of_values (option_map_or (λ type. type.name) (item_at types entry.0) []) entry.1 ++ ls) (props_lined types entries))

-- what an object holds is shown as the properties are
pub lines_same : (types : List PropType) (props : Props)
    → map (line_in (map (λ type. record { name = type.name; kind = type.kind; many = type.many }) types)) (held_props types props)
    ≡ flat_map (λ entry. lines_of_values (option_map_or (λ type. type.name) (item_at types entry.0) []) entry.1) props
lines_same types props = same_lines types (held_props types props) ∙ props_lined types props

-- ---- numbers of types

is_below : {X : Type 0} (P : X → Type 0) (xs : List X) (n : ℕ) → IsSomeAnd (item_at xs n) P → n < length xs
is_below P [] n never = absurd never
is_below P (x ∷ xs) zero some = omega arith
is_below P (x ∷ xs) (suc n) some = let below = is_below P xs n some in omega (arith, below)

values_below : (limit n : ℕ) (many : Bool) (values : List Value) → n < limit → AllByRecursion (λ (prop : HeldProp). prop.number < limit) (held_values n many values)
values_below limit n many [] below = tt
values_below limit n many (value ∷ values) below = (below, values_below limit n many values below)

pub props_below : (types : List PropType) (marked : List PropType) (props : Props) → AllByRecursion (λ entry. IsSomeAnd (item_at types entry.0) (λ type. AreValues type entry.1)) props
    → AllByRecursion (λ (prop : HeldProp). prop.number < length types) (held_props marked props)
props_below types marked [] all = tt
props_below types marked (entry ∷ entries) all =
    All-append (λ (prop : HeldProp). prop.number < length types) (held_values entry.0 (is_marked_in marked entry.0) entry.1) (held_props marked entries)
    (values_below (length types) entry.0 (is_marked_in marked entry.0) entry.1 (is_below (λ type. AreValues type entry.1) types entry.0 all.0))
    (props_below types marked entries all.1)
