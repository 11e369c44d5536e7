-- When labels and properties pass a constraint.
use Rattle.std.specs.Prelude.{ℕ, Bool, true, false, not, ◌||◌, ◌&&◌, List, [], ◌∷◌, Option, Some, None, if◌then◌else◌}
use Rattle.std.specs.List.{list_any, list_all}
use Rattle.std.specs.Option.{option_map_or}
use Rattle.std.specs.Ordering.{nat_cmp, int_cmp, bool_cmp, is_lt, is_eq, ordering_reverse}
use Rattle.std.specs.declared.cmp.Ordering.{Ordering}
use Rattle.std.specs.Cmp.Lexicographic.{slice_cmp}
use Rattle.std.specs.Str.{bytes_eq}
use Rattle.gdi_kinds.specs.declared.value.Value.{Value}
use Rattle.gdi_kinds.specs.declared.value.Value.TheVariants as value
use Rattle.gdi_kinds.specs.declared.value.Kind.{Kind}
use Rattle.gdi_kinds.specs.declared.value.Kind.TheVariants as kind
use Rattle.gdi_kinds.specs.declared.constraint.Op.{Op}
use Rattle.gdi_kinds.specs.declared.constraint.Op.TheVariants.{Eq, Ne, Lt, Le, Gt, Ge}
use Rattle.gdi_kinds.specs.declared.constraint.Atom.{Atom}
use Rattle.gdi_kinds.specs.declared.constraint.Atom.TheVariants.{Has, Lacks, Prop}
use Rattle.gdi_kinds.specs.declared.prop_line.PropLine.{PropLine}

-- the kind of a value
abbrev pub kind_of : Value → Kind
kind_of (value.Int n) = kind.Int
kind_of (value.Bool b) = kind.Bool
kind_of (value.Text t) = kind.Text

abbrev pub same_kind : Kind → Kind → Bool
same_kind kind.Int kind.Int = true
same_kind kind.Bool kind.Bool = true
same_kind kind.Text kind.Text = true
same_kind k l = false

-- integers by value, texts by their bytes, false before true; values of two kinds don't compare
abbrev pub compare_values : Value → Value → Option Ordering
compare_values (value.Int m) (value.Int n) = Some (int_cmp m n)
compare_values (value.Bool a) (value.Bool b) = Some (bool_cmp a b)
compare_values (value.Text s) (value.Text t) = Some (slice_cmp nat_cmp s t)
compare_values v w = None

abbrev pub holds_of : Op → Ordering → Bool
holds_of Eq order = is_eq order
holds_of Ne order = not (is_eq order)
holds_of Lt order = is_lt order
holds_of Le order = is_lt order || is_eq order
holds_of Gt order = is_lt (ordering_reverse order)
holds_of Ge order = not (is_lt order)

-- a property passes if some value of it compares so with the constant; one that is absent has none
abbrev pub passes_atom : List (List ℕ) → List PropLine → Atom → Bool
passes_atom labels props (Has name) = list_any (bytes_eq name) labels
passes_atom labels props (Lacks name) = not (list_any (bytes_eq name) labels)
passes_atom labels props (Prop name op constant) =
    list_any (λ p. bytes_eq name p.name && option_map_or (holds_of op) (compare_values p.value constant) false) props

-- an "or" of "and"s: some alternative has all its atoms true
abbrev pub passes : List (List Atom) → List (List ℕ) → List PropLine → Bool
passes test labels props = list_any (list_all (passes_atom labels props)) test
