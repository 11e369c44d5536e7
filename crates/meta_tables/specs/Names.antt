-- What the metadata object holds, and what the calls on it do.
use Rattle.std.specs.Prelude.{◌≡◌, ℕ, Bool, List, [], ◌∷◌, ◌++◌, map, length, Option, None, Some, is_some, slice_get, nat_lt, if◌then◌else◌}
use Rattle.std.specs.Option.{MatchOption}
use Rattle.std.specs.Str.{bytes_eq}
use Rattle.gdi_kinds.specs.declared.value.Kind.{Kind}
use Rattle.gdi_kinds.specs.declared.reply.Reply.TheVariants as reply
use Rattle.rma_layout.specs.Placement.{metadata}
use Rattle.object_words.specs.Contents.{Contents}
use Rattle.graph_model.specs.Maps.{place_where}
use Rattle.graph_model.specs.Graph.{Name, Graph}
use Rattle.object_store.specs.State.{StoreState}
use Rattle.held_objects.specs.declared.change.Change.{Change}
use Rattle.held_objects.specs.declared.change.Change.TheVariants.{Refused, Made}
use Rattle.held_objects.specs.Knows.{Knows}
use Rattle.held_objects.specs.Changes.{IsHeldAs, Holds, any}
use Rattle.holder_codec.specs.declared.type_line.TypeLine.{TypeLine}
use Rattle.holder_codec.specs.declared.meta_holder.MetaHolder.{MetaHolder}
use Rattle.holder_codec.specs.Meta.{IsMetaHolder, meta_words}
use Rattle.meta_tables.specs.declared.prop_type.PropType.{PropType}

-- the metadata object has the spelling of these names
abbrev pub HasNames : Contents → MetaHolder → Type 0
HasNames = IsHeldAs IsMetaHolder meta_words (λ meta. meta) (λ _. Unit {0}) metadata

abbrev pub KnowsNames : {N : Type 0} → (MetaHolder → Bool) → StoreState N → Type 0
KnowsNames passes = Knows (Holds HasNames passes)

-- whether a number is that of a label, and of a type
abbrev pub is_label : ℕ → MetaHolder → Bool
is_label number meta = nat_lt number (length meta.labels)

abbrev pub is_type : ℕ → MetaHolder → Bool
is_type number meta = nat_lt number (length meta.types)

-- the number of a name
abbrev pub label_number : Name → MetaHolder → Option ℕ
label_number name meta = place_where (bytes_eq name) meta.labels

abbrev pub type_number : Name → MetaHolder → Option ℕ
type_number name meta = place_where (λ line. bytes_eq name line.name) meta.types

-- the type of a name, where there is one
abbrev pub IsTypeOf : Name → Option PropType → MetaHolder → Type 0
IsTypeOf name found meta = MatchOption found (type_number name meta ≡ None) (λ type.
    (type_number name meta ≡ Some type.number) × (slice_get meta.types type.number ≡ Some (record { name = name; kind = type.kind; many = type.many })))

-- the label is the last one
abbrev pub new_label : Name → MetaHolder → Change MetaHolder
new_label name meta =
    if is_some (label_number name meta) then Refused reply.Exists
    else Made (record meta { labels = meta.labels ++ name ∷ [] })

-- the type is the last one
abbrev pub new_type : TypeLine → MetaHolder → Change MetaHolder
new_type line meta =
    if is_some (type_number line.name meta) then Refused reply.Exists
    else Made (record meta { types = meta.types ++ line ∷ [] })

abbrev pub size : MetaHolder → ℕ
size meta = length (meta_words meta)

-- the names of a graph
abbrev pub names_of : Graph → MetaHolder
names_of g = record { labels = g.labels; types = map (λ type. record { name = type.name; kind = type.kind; many = type.many }) g.types }
